-- The text of packets: for each its number, who says what to whom, and its bytes.
use Rattle.std.specs.Prelude.{ℕ, ◌+◌, List, [], ◌∷◌, ◌++◌, Result, Ok, Err, codes}
use Rattle.std.specs.Fmt.{decimal}
use Rattle.address.specs.Ids.{text_of_address}
use Rattle.wire_values.specs.declared.error.WireError.{WireError}
use Rattle.wire_values.specs.declared.packet.Body.{Body}
use Rattle.wire_values.specs.declared.packet.Body.TheVariants as bodies
use Rattle.wire_values.specs.declared.packet.Packet.{Packet}
use Rattle.wire.specs.Packets.{packet_of}
use Rattle.vsync_text.specs.TraceText.{hex_of, dash, field, line_with}

-- the name of what a packet says
abbrev pub kind_name : Body → List ℕ
kind_name bodies.Join = codes "JOIN"
kind_name (bodies.Redirect coordinator) = codes "REDIRECT"
kind_name bodies.Leave = codes "LEAVE"
kind_name (bodies.Forward view number payload) = codes "FORWARD"
kind_name (bodies.Order view place entry) = codes "ORDER"
kind_name (bodies.Nak view missing) = codes "NAK"
kind_name (bodies.Ack view delivered) = codes "ACK"
kind_name (bodies.Status view progress) = codes "STATUS"
kind_name (bodies.Flush proposal) = codes "FLUSH"
kind_name (bodies.Behind proposal counter) = codes "BEHIND"
kind_name (bodies.Report proposal report) = codes "REPORT"
kind_name (bodies.Install install) = codes "INSTALL"
kind_name (bodies.Merge view) = codes "MERGE"
kind_name (bodies.State proposal chunk) = codes "STATE"

-- the name of what a packet says; `-` where bytes spell no packet
abbrev pub kind_of : Result Packet WireError → List ℕ
kind_of (Ok p) = kind_name p.body
kind_of (Err e) = dash

-- the name of what the packet says that bytes spell
abbrev pub kind_in : List ℕ → List ℕ
kind_in bytes = kind_of (packet_of bytes)

-- what a packet says, who sent it and to whom; `-` for each where bytes spell no packet
abbrev pub packet_fields : Result Packet WireError → List ℕ
packet_fields (Ok p) = field (kind_name p.body) ++ field (text_of_address p.source) ++ field (text_of_address p.destination)
packet_fields (Err e) = field dash ++ field dash ++ field dash

-- the line of the packet of a number: `NUMBER KIND SOURCE DESTINATION HEX`, with its line feed
abbrev pub packet_line : ℕ → List ℕ → List ℕ
packet_line number bytes = line_with (decimal number) (packet_fields (packet_of bytes) ++ field (hex_of bytes))

-- the lines of packets, numbered from a number on
abbrev pub packet_lines_from : ℕ → List (List ℕ) → List (List ℕ)
packet_lines_from number [] = []
packet_lines_from number (bytes ∷ packets) = packet_line number bytes ∷ packet_lines_from (number + 1) packets

-- the lines of packets, numbered from 1
abbrev pub packet_lines : List (List ℕ) → List (List ℕ)
packet_lines packets = packet_lines_from 1 packets
