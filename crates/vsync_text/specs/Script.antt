-- What a script says: the events that its lines stand for, or its first fault.
use Rattle.std.specs.Prelude.{ℕ, ◌∷◌, [], ◌++◌, List, Option, None, Some, Result, Ok, Err, length, codes, nat_lt, map, if◌then◌else◌}
use Rattle.std.specs.Str.{bytes_eq}
use Rattle.world_model.specs.declared.WorldEvent.{WorldEvent}
use Rattle.world_model.specs.declared.WorldEvent.TheVariants as event
use Rattle.vsync_text.specs.declared.script_line.Word.{Word}
use Rattle.vsync_text.specs.declared.script_line.Word.TheVariants.{Node, Pair, Send, Deliver}
use Rattle.vsync_text.specs.declared.script_line.NodeWord.{NodeWord}
use Rattle.vsync_text.specs.declared.script_line.NodeWord.TheVariants.{Start, Create, Tick, Leave, Crash}
use Rattle.vsync_text.specs.declared.script_line.PairWord.{PairWord}
use Rattle.vsync_text.specs.declared.script_line.PairWord.TheVariants.{Join, Suspect, Hint}
use Rattle.vsync_text.specs.declared.fault.Fault.{Fault}
use Rattle.vsync_text.specs.declared.fault.Fault.TheVariants.{UnknownWord, BadNumber, MissingField, LineTooLong}
use Rattle.address.specs.declared.limits.TheConstants.{SCRIPT_LINE}
use Rattle.vsync_text.specs.Lines.{field_of, behind_field}
use Rattle.vsync_text.specs.Texts.{FaultAt, said_by}
use Rattle.vsync_text.specs.Fields.{◌>>=◌, made, last, node_field, address_field, packet_field}
use Rattle.address.specs.Ids.{Address}

abbrev pub fault_number : Fault → ℕ
fault_number UnknownWord = 40
fault_number BadNumber = 41
fault_number MissingField = 42
fault_number LineTooLong = 43

-- a node, and the address with which its line ends
abbrev pub node_and_address : Option (List ℕ) → Result (ℕ × Address) Fault
node_and_address rest = do
  node ← node_field rest
  address ← last (address_field node.1)
  Ok (node.0, address)

-- PAYLOADS

-- the payload that the rest of a line says, where `payload_of` is how a text says one
abbrev pub payload_in : (List ℕ → Result (List ℕ) Fault) → Option (List ℕ) → Result (List ℕ) Fault
payload_in payload_of None = Err MissingField
payload_in payload_of (Some text) = payload_of text

-- the text itself, whatever it holds
abbrev pub as_written : List ℕ → Result (List ℕ) Fault
as_written text = Ok text

-- LINES

-- a node, and a payload with which its line ends
abbrev pub sent : (List ℕ → Result (List ℕ) Fault) → Result (ℕ × Option (List ℕ)) Fault → Result WorldEvent Fault
sent payload_of read = do
  node ← read
  payload ← payload_in payload_of node.1
  Ok (event.Send node.0 payload)

abbrev pub word_of : List ℕ → Option Word
word_of name =
    if bytes_eq name (codes "start") then Some (Node Start)
    else if bytes_eq name (codes "create") then Some (Node Create)
    else if bytes_eq name (codes "join") then Some (Pair Join)
    else if bytes_eq name (codes "send") then Some Send
    else if bytes_eq name (codes "deliver") then Some Deliver
    else if bytes_eq name (codes "tick") then Some (Node Tick)
    else if bytes_eq name (codes "suspect") then Some (Pair Suspect)
    else if bytes_eq name (codes "hint") then Some (Pair Hint)
    else if bytes_eq name (codes "leave") then Some (Node Leave)
    else if bytes_eq name (codes "crash") then Some (Node Crash)
    else None

-- the event of a word and a node
abbrev pub alone : NodeWord → ℕ → WorldEvent
alone Start node = event.Start node
alone Create node = event.Create node
alone Tick node = event.Tick node
alone Leave node = event.Leave node
alone Crash node = event.Crash node

-- the event of a word, a node and an address
abbrev pub paired : PairWord → ℕ → Address → WorldEvent
paired Join node contact = event.Join node contact
paired Suspect node address = event.Suspect node address
paired Hint node address = event.MergeHint node address

-- the event of a word and of what is left behind it: `start N`, `create N`, `join N ADDR`, `send N TEXT`, `deliver K`,
-- `tick N`, `suspect N ADDR`, `hint N ADDR`, `leave N`, `crash N`
abbrev pub event_of : (List ℕ → Result (List ℕ) Fault) → Word → Option (List ℕ) → Result WorldEvent Fault
event_of payload_of (Node word) rest = made (alone word) (last (node_field rest))
event_of payload_of (Pair word) rest = made (λ r. paired word r.0 r.1) (node_and_address rest)
event_of payload_of Send rest = sent payload_of (node_field rest)
event_of payload_of Deliver rest = made event.Deliver (last (packet_field rest))

abbrev pub spoken : (List ℕ → Result (List ℕ) Fault) → Option Word → Option (List ℕ) → Result WorldEvent Fault
spoken payload_of None rest = Err UnknownWord
spoken payload_of (Some word) rest = event_of payload_of word rest

-- a line that is not skipped: its length is tested first
abbrev pub event_in_line : (List ℕ → Result (List ℕ) Fault) → List ℕ → Result WorldEvent Fault
event_in_line payload_of line = if nat_lt SCRIPT_LINE (length line) then Err LineTooLong else spoken payload_of (word_of (field_of line)) (behind_field line)

-- SCRIPTS

-- the events of a script, and beside each the number of its line
pub record Script : Type 0 where
  pub events : List WorldEvent
  pub lines : List ℕ

-- numbered events as a script
abbrev pub as_script : Result (List (ℕ × WorldEvent)) FaultAt → Result Script FaultAt
as_script (Ok said) = Ok (record { events = map (λ e. e.1) said; lines = map (λ e. e.0) said })
as_script (Err f) = Err f

-- what a script says: the first line that is a fault decides, and else its events are those of its lines
abbrev pub script_by : (List ℕ → Result (List ℕ) Fault) → List ℕ → Result Script FaultAt
script_by payload_of text = as_script (said_by (event_in_line payload_of) (λ k e. (k, e)) text)

-- what it says where each text is its payload
abbrev pub script_of : List ℕ → Result Script FaultAt
script_of = script_by as_written

-- a script and one event more
abbrev pub with_event : Script → ℕ → WorldEvent → Script
with_event s k e = record { events = s.events ++ e ∷ []; lines = s.lines ++ k ∷ [] }
