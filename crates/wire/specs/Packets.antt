-- The packets: which byte lists spell which packet, and why the others spell none.
use Rattle.std.specs.Prelude.{◌≡◌, ◌≤◌, ◌+◌, ◌-◌, ℕ, true, List, [], ◌++◌, length, Option, Some, None, Result, Ok, Err, nat_lt, ◌==◌, if◌then◌else◌}
use Rattle.std.specs.Option.{option_map_or}
use Rattle.byteorder.specs.Endian.{big_bytes}
use Rattle.wire_values.specs.Values.{Entry}
use Rattle.address.specs.declared.limits.TheConstants.{GREATEST_NUMBER, PAYLOAD, WINDOW, DATAGRAM, VERSION, MAGIC, KINDS}
use Rattle.wire_values.specs.declared.error.WireError.{WireError}
use Rattle.wire_values.specs.declared.error.WireError.TheVariants.{NotOurs, Version, Kind, Length, Value, Trailing}
use Rattle.wire_values.specs.declared.packet.Body.{Body}
use Rattle.wire_values.specs.declared.packet.Body.TheVariants as bodies
use Rattle.wire_values.specs.declared.packet.Packet.{Packet}
use Rattle.wire_values.specs.Kinds.{kind_of}
use Rattle.wire_values.specs.Names.{is_group_name}
use Rattle.wire_values.specs.Texts.{group_bytes, group_at}
use Rattle.wire_values.specs.Reading.{Read, ◌>>=◌, number_at}
use Rattle.wire_values.specs.Fields.{IsAddress, IsNumber, IsCount, IsViewId, IsEntry, address_bytes, number_bytes, view_id_bytes, payload_bytes, entry_bytes, placed_bytes, address_at, view_id_at, payload_at, entry_at}
use Rattle.wire_values.specs.Lists.{IsView, IsReport, IsInstall, IsChunk, view_bytes, report_bytes, install_bytes, chunk_bytes, view_at, report_at, install_at, chunk_at}

-- ---- bodies

abbrev pub IsBody : Body → Type 0
IsBody bodies.Join = Unit {0}
IsBody (bodies.Redirect coordinator) = IsAddress coordinator
IsBody bodies.Leave = Unit {0}
IsBody (bodies.Forward view number payload) = IsViewId view × IsNumber number × (length payload ≤ PAYLOAD)
IsBody (bodies.Order view place entry) = IsViewId view × IsNumber place × IsEntry entry
IsBody (bodies.Nak view missing) = IsViewId view × IsNumber missing.first × (missing.first ≤ missing.last) × IsCount missing.last
IsBody (bodies.Ack view delivered) = IsViewId view × IsCount delivered
IsBody (bodies.Status view progress) = IsViewId view × IsCount progress.highest × (progress.stable ≤ progress.highest) × (progress.highest ≤ progress.stable + WINDOW)
IsBody (bodies.Flush proposal) = IsView proposal
IsBody (bodies.Behind proposal counter) = IsViewId proposal × IsNumber counter
IsBody (bodies.Report proposal report) = IsViewId proposal × IsReport report
IsBody (bodies.Install install) = IsInstall install
IsBody (bodies.Merge view) = IsView view
IsBody (bodies.State proposal chunk) = IsViewId proposal × IsChunk chunk

abbrev pub body_bytes : Body → List ℕ
body_bytes bodies.Join = []
body_bytes (bodies.Redirect coordinator) = address_bytes coordinator
body_bytes bodies.Leave = []
body_bytes (bodies.Forward view number payload) = view_id_bytes view ++ number_bytes number ++ payload_bytes payload
body_bytes (bodies.Order view place entry) = view_id_bytes view ++ number_bytes place ++ entry_bytes entry
body_bytes (bodies.Nak view missing) = view_id_bytes view ++ number_bytes missing.first ++ number_bytes missing.last
body_bytes (bodies.Ack view delivered) = view_id_bytes view ++ number_bytes delivered
body_bytes (bodies.Status view progress) = view_id_bytes view ++ number_bytes progress.highest ++ number_bytes progress.stable
body_bytes (bodies.Flush proposal) = view_bytes proposal
body_bytes (bodies.Behind proposal counter) = view_id_bytes proposal ++ number_bytes counter
body_bytes (bodies.Report proposal report) = view_id_bytes proposal ++ report_bytes report
body_bytes (bodies.Install install) = install_bytes install
body_bytes (bodies.Merge view) = view_bytes view
body_bytes (bodies.State proposal chunk) = view_id_bytes proposal ++ chunk_bytes chunk

-- ---- how a body of each kind is read

unfoldable pub redirect_at : List ℕ → Read Body
redirect_at bytes = do
  coordinator ← address_at bytes
  Ok (bodies.Redirect coordinator.0, coordinator.1)

unfoldable pub forward_at : List ℕ → Read Body
forward_at bytes = do
  view ← view_id_at bytes
  number ← number_at 8 1 GREATEST_NUMBER Value view.1
  payload ← payload_at number.1
  Ok (bodies.Forward view.0 number.0 payload.0, payload.1)

unfoldable pub order_at : List ℕ → Read Body
order_at bytes = do
  view ← view_id_at bytes
  place ← number_at 8 1 GREATEST_NUMBER Value view.1
  entry ← entry_at place.1
  Ok (bodies.Order view.0 place.0 entry.0, entry.1)

unfoldable pub nak_at : List ℕ → Read Body
nak_at bytes = do
  view ← view_id_at bytes
  first ← number_at 8 1 GREATEST_NUMBER Value view.1
  last ← number_at 8 first.0 GREATEST_NUMBER Value first.1
  Ok (bodies.Nak view.0 (record { first = first.0; last = last.0 }), last.1)

unfoldable pub ack_at : List ℕ → Read Body
ack_at bytes = do
  view ← view_id_at bytes
  delivered ← number_at 8 0 GREATEST_NUMBER Value view.1
  Ok (bodies.Ack view.0 delivered.0, delivered.1)

unfoldable pub status_at : List ℕ → Read Body
status_at bytes = do
  view ← view_id_at bytes
  highest ← number_at 8 0 GREATEST_NUMBER Value view.1
  stable ← number_at 8 (highest.0 - WINDOW) highest.0 Value highest.1
  Ok (bodies.Status view.0 (record { highest = highest.0; stable = stable.0 }), stable.1)

unfoldable pub flush_at : List ℕ → Read Body
flush_at bytes = do
  proposal ← view_at bytes
  Ok (bodies.Flush proposal.0, proposal.1)

unfoldable pub behind_at : List ℕ → Read Body
behind_at bytes = do
  proposal ← view_id_at bytes
  counter ← number_at 8 1 GREATEST_NUMBER Value proposal.1
  Ok (bodies.Behind proposal.0 counter.0, counter.1)

unfoldable pub reported_at : List ℕ → Read Body
reported_at bytes = do
  proposal ← view_id_at bytes
  report ← report_at proposal.1
  Ok (bodies.Report proposal.0 report.0, report.1)

unfoldable pub installed_at : List ℕ → Read Body
installed_at bytes = do
  install ← install_at bytes
  Ok (bodies.Install install.0, install.1)

unfoldable pub merge_at : List ℕ → Read Body
merge_at bytes = do
  view ← view_at bytes
  Ok (bodies.Merge view.0, view.1)

unfoldable pub sent_state_at : List ℕ → Read Body
sent_state_at bytes = do
  proposal ← view_id_at bytes
  chunk ← chunk_at proposal.1
  Ok (bodies.State proposal.0 chunk.0, chunk.1)

unfoldable pub body_at : ℕ → List ℕ → Read Body
body_at kind bytes =
    if kind == 1 then Ok (bodies.Join, bytes)
    else if kind == 2 then redirect_at bytes
    else if kind == 3 then Ok (bodies.Leave, bytes)
    else if kind == 4 then forward_at bytes
    else if kind == 5 then order_at bytes
    else if kind == 6 then nak_at bytes
    else if kind == 7 then ack_at bytes
    else if kind == 8 then status_at bytes
    else if kind == 9 then flush_at bytes
    else if kind == 10 then behind_at bytes
    else if kind == 11 then reported_at bytes
    else if kind == 12 then installed_at bytes
    else if kind == 13 then merge_at bytes
    else if kind == 14 then sent_state_at bytes
    else Err Kind

-- ---- packets

pub record IsPacket (p : Packet) : Type 0 where
  pub group : is_group_name p.group ≡ true
  pub source : IsAddress p.source
  pub destination : IsAddress p.destination
  pub body : IsBody p.body

-- what every packet begins with, and its kind
abbrev pub front_bytes : ℕ → List ℕ
front_bytes kind = big_bytes 2 MAGIC ++ big_bytes 1 VERSION ++ big_bytes 1 kind

-- what stands before the body
abbrev pub header_bytes : Packet → List ℕ
header_bytes p = front_bytes (kind_of p.body) ++ group_bytes p.group ++ address_bytes p.source ++ address_bytes p.destination

-- the one spelling of a packet
abbrev pub spelling : Packet → List ℕ
spelling p = header_bytes p ++ body_bytes p.body

-- a packet and the bytes that spell it
abbrev pub Spells : Packet → List ℕ → Type 0
Spells p bytes = IsPacket p × (bytes ≡ spelling p)

unfoldable pub front_at : List ℕ → Read ℕ
front_at bytes = do
  magic ← number_at 2 MAGIC MAGIC NotOurs bytes
  version ← number_at 1 VERSION VERSION Version magic.1
  number_at 1 1 KINDS Kind version.1

-- a packet at the front of some bytes
unfoldable pub packet_at : List ℕ → Read Packet
packet_at bytes = do
  kind ← front_at bytes
  group ← group_at kind.1
  source ← address_at group.1
  destination ← address_at source.1
  body ← body_at kind.0 destination.1
  Ok (record { group = group.0; source = source.0; destination = destination.0; body = body.0 }, body.1)

-- the packet that a datagram spells, or the refusal of its first field that fails: too long a datagram comes
-- before all fields, a byte behind the last field after them
unfoldable pub packet_of : List ℕ → Result Packet WireError
packet_of bytes =
    if nat_lt DATAGRAM (length bytes) then Err Length else do
      packet ← packet_at bytes
      if length packet.1 == 0 then Ok packet.0 else Err Trailing

abbrev pub error_in : Result Packet WireError → Option WireError
error_in (Ok p) = None
error_in (Err e) = Some e

-- why some bytes spell no packet
abbrev pub wire_refusal : List ℕ → Option WireError
wire_refusal bytes = error_in (packet_of bytes)

-- an entry's spelling, behind its place if it is one of a report's
abbrev pub listed_bytes : Option ℕ → Entry → List ℕ
listed_bytes place m = option_map_or (λ g. placed_bytes (g, m)) place (entry_bytes m)
