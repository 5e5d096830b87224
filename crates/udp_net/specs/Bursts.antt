-- What goes to a node in one turn, and what is held back.
use Rattle.std.specs.Prelude.{◌≡◌, ℕ, ◌+◌, ◌-◌, Bool, true, false, not, ◌&&◌, ◌||◌, List, [], ◌∷◌, ◌++◌, length, Option, None, Some, Result, Ok, Err, nat_lt, nat_le, nat_eq, if◌then◌else◌}
use Rattle.std.specs.List.{list_any, sum_by}
use Rattle.std.specs.Option.{option_map_or}
use Rattle.std.specs.Cmp.Lexicographic.{pointwise}
use Rattle.std.specs.declared.net.ip_addr.IpAddr.{IpAddr}
use Rattle.circular_buffer.specs.Buffer.{keep_last}
use Rattle.address.specs.Ids.{same_view_id}
use Rattle.wire_values.specs.declared.packet.Body.{Body}
use Rattle.wire_values.specs.declared.packet.Body.TheVariants as bodies
use Rattle.wire_values.specs.declared.packet.Packet.{Packet}
use Rattle.wire_values.specs.declared.error.WireError.{WireError}
use Rattle.wire.specs.Packets.{packet_of}
use Rattle.udp_net.specs.declared.lane.Passage.{Passage}
use Rattle.udp_net.specs.declared.lane.Passage.TheVariants.{Goes, Waits, UnderWay, Lost}
use Rattle.udp_net.specs.declared.node_ports.NodePort.{NodePort}
use Rattle.udp_net.specs.declared.under_way.ChunkName.{ChunkName}
use Rattle.udp_net.specs.declared.under_way.GoneChunk.{GoneChunk}
use Rattle.udp_net.specs.declared.TheConstants.{BURST, OFFERS, PATIENCE, HELD_BACK, REMEMBERED, SHORT, UNDER_WAY}
use Rattle.udp_net.specs.Acks.{is_ack}
use Rattle.udp_net.specs.Logs.{one_more}

-- how many bytes datagrams have
abbrev pub size_of : List (List ℕ) → ℕ
size_of datagrams = sum_by length datagrams

-- it waits already
abbrev pub is_held : List ℕ → List (List ℕ) → Bool
is_held datagram held = list_any (λ d. pointwise nat_eq d datagram) held

-- there is room for it
abbrev pub fits : List ℕ → List (List ℕ) → Bool
fits datagram held = nat_le (size_of held + length datagram) HELD_BACK

-- it waits, or can: it does already, or there is room
abbrev pub may_wait : List ℕ → List (List ℕ) → Bool
may_wait datagram held = is_held datagram held || fits datagram held

-- it waits behind the others, unless it waits already or there is no room
abbrev pub held_after : List ℕ → List (List ℕ) → List (List ℕ)
held_after datagram held = if fits datagram held && not (is_held datagram held) then held ++ datagram ∷ [] else held

-- the first of them, and those behind it
abbrev pub TakesFirst : List (List ℕ) → Option (List ℕ) → List (List ℕ) → Type 0
TakesFirst old None new = (old ≡ []) × (new ≡ [])
TakesFirst old (Some first) new = old ≡ first ∷ new

-- ---- chunks of states

-- the chunk in a packet, if it has one: for which proposal, and which one
abbrev pub chunk_of : Body → Option ChunkName
chunk_of bodies.Join = None
chunk_of (bodies.Redirect a) = None
chunk_of bodies.Leave = None
chunk_of (bodies.Forward view number payload) = None
chunk_of (bodies.Order view place entry) = None
chunk_of (bodies.Nak view missing) = None
chunk_of (bodies.Ack view delivered) = None
chunk_of (bodies.Status view progress) = None
chunk_of (bodies.Flush view) = None
chunk_of (bodies.Behind proposal counter) = None
chunk_of (bodies.Report proposal report) = None
chunk_of (bodies.Install install) = None
chunk_of (bodies.Merge view) = None
chunk_of (bodies.State proposal chunk) = Some (record { proposal = proposal; index = chunk.index })

abbrev pub chunk_read : Result Packet WireError → Option ChunkName
chunk_read (Ok p) = chunk_of p.body
chunk_read (Err e) = None

-- the chunk in a datagram, if it spells a packet with one
abbrev pub chunk_in : List ℕ → Option ChunkName
chunk_in datagram = chunk_read (packet_of datagram)

-- both are one chunk
abbrev pub is_same_chunk : ChunkName → ChunkName → Bool
is_same_chunk c d = same_view_id c.proposal d.proposal && nat_eq c.index d.index

-- it is this chunk, and went within the last `UNDER_WAY` turns up to this one
abbrev pub went_just : ChunkName → ℕ → GoneChunk → Bool
went_just name turn g = is_same_chunk g.name name && nat_lt (turn - g.turn) UNDER_WAY

abbrev pub is_under_way : ChunkName → ℕ → List GoneChunk → Bool
is_under_way name turn gone = list_any (went_just name turn) gone

-- it goes in this turn
abbrev pub noted : Option ChunkName → ℕ → List GoneChunk → List GoneChunk
noted None turn gone = gone
noted (Some name) turn gone = keep_last REMEMBERED (gone ++ record { name = name; turn = turn } ∷ [])

-- ---- the way to a node

-- the node and its port, its host, how many bytes may be sent and be offered yet in this turn, for how many turns of the net the node is waited for, what is held back,
-- which of the node's turns this is, the chunks that went there last, and the ACK that waits for a flush (empty: none)
pub record LaneModel : Type 0 where
  pub port : NodePort
  pub host : IpAddr
  pub to_send : ℕ
  pub to_offer : ℕ
  pub patience : ℕ
  pub held : List (List ℕ)
  pub turn : ℕ
  pub gone : List GoneChunk
  pub ack : List ℕ

-- the way to a node at a host, on which nothing went
abbrev pub opened : NodePort → IpAddr → LaneModel
opened port host = record { port = port; host = host; to_send = BURST; to_offer = OFFERS; patience = 0; held = []; turn = 0; gone = []; ack = [] }

-- a datagram that is offered goes at once: nothing is held back, and some of the bytes that may be sent are left
abbrev pub passes : LaneModel → Bool
passes l = nat_eq (length l.held) 0 && nat_le 1 l.to_send

-- a chunk went there within the last turns
abbrev pub has_just_gone : List ℕ → LaneModel → Bool
has_just_gone datagram l = option_map_or (λ name. is_under_way name l.turn l.gone) (chunk_in datagram) false

-- a long datagram that does not go again
abbrev pub is_passed_over : List ℕ → LaneModel → Bool
is_passed_over datagram l = nat_lt SHORT (length datagram) && has_just_gone datagram l

-- a datagram goes; of a long one it is remembered which chunk it is
abbrev pub chunk_noted : List ℕ → LaneModel → List GoneChunk
chunk_noted datagram l = if nat_le (length datagram) SHORT then l.gone else noted (chunk_in datagram) l.turn l.gone

abbrev pub going : List ℕ → LaneModel → LaneModel
going datagram l = record l { to_send = l.to_send - length datagram; gone = chunk_noted datagram l }

-- what becomes of a datagram that is offered
abbrev pub passage : List ℕ → LaneModel → Passage
passage datagram l = if is_passed_over datagram l then UnderWay else if passes l then Goes else if may_wait datagram l.held then Waits else Lost

-- so many bytes were offered
abbrev pub offered : ℕ → LaneModel → LaneModel
offered n l = record l { to_offer = l.to_offer - n }

-- a datagram does not go again, goes at once, or is held back
abbrev pub after_offer : List ℕ → LaneModel → LaneModel
after_offer datagram l = if is_passed_over datagram l then l else if passes l then going datagram l else record l { held = held_after datagram l.held }

-- a turn of the net is over: the node's next one begins, unless it has to be waited for
abbrev pub begun : LaneModel → LaneModel
begun l = if nat_eq l.patience 0 then record l { to_send = BURST; to_offer = OFFERS; patience = PATIENCE; turn = one_more l.turn } else record l { to_offer = OFFERS; patience = l.patience - 1 }

-- an ACK waits until the next flush, in place of one that waits
abbrev pub postponed : List ℕ → LaneModel → LaneModel
postponed datagram l = if is_ack datagram then record l { ack = datagram } else l

-- what becomes of the ACK that waits
abbrev pub ack_passage : LaneModel → Passage
ack_passage l = if passes l then Goes else if may_wait l.ack l.held then Waits else Lost

-- it goes at once, or is held back
abbrev pub after_ack : LaneModel → LaneModel
after_ack l = if passes l then record l { to_send = l.to_send - length l.ack } else record l { held = held_after l.ack l.held }

-- the next of those that are held back goes, where some of the bytes that may be sent are left
abbrev pub GoesOn : LaneModel → Option (List ℕ) → LaneModel → Type 0
GoesOn old None new = (new ≡ old) × (nat_le 1 old.to_send && nat_le 1 (length old.held) ≡ false)
GoesOn old (Some first) new = (nat_le 1 old.to_send ≡ true) × (old.held ≡ first ∷ new.held) × (new ≡ going first (record old { held = new.held }))
