-- What a script for nodes over UDP says: as a script of a world does, with rounds, and without deliveries and ticks.
use Rattle.std.specs.Prelude.{ℕ, List, Option, None, Some, Result, Err, length, codes, nat_lt, if◌then◌else◌}
use Rattle.std.specs.Str.{bytes_eq}
use Rattle.world_model.specs.declared.WorldEvent.{WorldEvent}
use Rattle.vsync_text.specs.declared.script_line.Word.{Word}
use Rattle.vsync_text.specs.declared.script_line.Word.TheVariants as word
use Rattle.vsync_text.specs.declared.script_line.NodeWord.TheVariants.{Tick}
use Rattle.vsync_text.specs.declared.fault.Fault.{Fault}
use Rattle.vsync_text.specs.declared.fault.Fault.TheVariants.{UnknownWord, LineTooLong}
use Rattle.vsync_text.specs.declared.udp_script.UdpEvent.{UdpEvent}
use Rattle.vsync_text.specs.declared.udp_script.UdpEvent.TheVariants as udp_event
use Rattle.vsync_text.specs.declared.udp_script.UdpLine.{UdpLine}
use Rattle.vsync_text.specs.declared.udp_script.TheConstants.{ROUNDS}
use Rattle.address.specs.declared.limits.TheConstants.{SCRIPT_LINE}
use Rattle.vsync_text.specs.Lines.{field_of, behind_field}
use Rattle.vsync_text.specs.Numbers.{number_in}
use Rattle.vsync_text.specs.Fields.{made, spelled_at, last}
use Rattle.vsync_text.specs.Script.{as_written, word_of, event_of}
use Rattle.vsync_text.specs.Texts.{FaultAt, said_by}

-- the event of a node by the line's word: a delivery and a tick are no words here
abbrev pub of_node : Option Word → Option (List ℕ) → Result WorldEvent Fault
of_node None rest = Err UnknownWord
of_node (Some word.Deliver) rest = Err UnknownWord
of_node (Some (word.Node Tick)) rest = Err UnknownWord
of_node (Some w) rest = event_of as_written w rest

-- what a line's first word and the rest of it say
abbrev pub udp_spoken : List ℕ → Option (List ℕ) → Result UdpEvent Fault
udp_spoken name rest = if bytes_eq name (codes "rounds") then made udp_event.Rounds (last (spelled_at (number_in 0 ROUNDS) rest)) else made udp_event.Node (of_node (word_of name) rest)

-- a line that is not skipped: its length is tested first
abbrev pub udp_said : List ℕ → Result UdpEvent Fault
udp_said line = if nat_lt SCRIPT_LINE (length line) then Err LineTooLong else udp_spoken (field_of line) (behind_field line)

-- an event, and the number of its line
abbrev pub numbered : ℕ → UdpEvent → UdpLine
numbered k e = record { number = k; event = e }

-- what a script says: the first line that is a fault decides, and else those that say something, with their numbers
abbrev pub udp_script_of : List ℕ → Result (List UdpLine) FaultAt
udp_script_of text = said_by udp_said numbered text
