-- The nodes at which members may be sought, and who was heard there.
use Rattle.std.specs.Prelude.{ℕ, ◌+◌, Bool, false, not, ◌&&◌, nat_eq, nat_le, List, ◌++◌, map, fold, drop, take, position, slice_get, Option, None, Some, if◌then◌else◌}
use Rattle.std.specs.List.{list_any}
use Rattle.std.specs.Option.{option_and_then, option_map_or, is_some}
use Rattle.address.specs.Ids.{Address}
use Rattle.view.specs.Members.{View}
use Rattle.udp_member.specs.declared.peers.Peer.{Peer}

-- nobody was heard there
abbrev pub unheard : ℕ → Peer
unheard node = record { node = node; heard = None }

abbrev pub heard_at : Peer → Option Address
heard_at p = p.heard

-- whether somebody was heard there of this incarnation, or a later one
abbrev pub is_known : Address → Peer → Bool
is_known a p = option_map_or (λ last. nat_le a.incarnation last.incarnation) p.heard false

-- a packet came from an address
abbrev pub hearing : Address → Peer → Peer
hearing a p = if nat_eq p.node a.node && not (is_known a p) then record p { heard = Some a } else p

-- these stand in a view
abbrev pub met : List Address → List Peer → List Peer
met members peers = fold (λ known p. map (hearing p) known) peers members

-- whether one of these is of a node
abbrev pub has_node : ℕ → List Address → Bool
has_node node = list_any (λ q. nat_eq q.node node)

-- somebody was heard there, and nobody of the node is in the view
abbrev pub is_outside : View → Peer → Bool
is_outside v p = is_some p.heard && not (has_node p.node v.members)

-- who was heard at the first of these
abbrev pub first_heard : (Peer → Bool) → List Peer → Option Address
first_heard is_one peers = option_and_then (λ place. option_and_then heard_at (slice_get peers place)) (position is_one peers)

-- the turn of the first of these is over: those behind it come first now
abbrev pub served : (Peer → Bool) → List Peer → List Peer
served is_one peers = option_map_or (λ place. drop (place + 1) peers ++ take (place + 1) peers) (position is_one peers) peers
