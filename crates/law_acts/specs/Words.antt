-- What a trace says of one view: its order, its members, and how many messages a member delivered there before it was blocked.
use Rattle.std.specs.Prelude.{◌≡◌, ℕ, ◌+◌, ◌&&◌, List, [], map, fold, if◌then◌else◌}
use Rattle.std.specs.Option.{option_map_or}
use Rattle.address.specs.Ids.{Address, ViewId, same_address, same_view_id}
use Rattle.wire_values.specs.Values.{Entry}
use Rattle.trace_props.specs.declared.event.Event.{Event}
use Rattle.trace_props.specs.declared.event.Event.TheVariants.{Started, Sent, Delivered, Blocked, Installed, Left, Crashed}
use Rattle.trace_props.specs.declared.event.Message.{Message}
use Rattle.trace_props.specs.Observed.{delivered_in, entry_of}

-- ---- the order of a view

-- a message as packets carry it
abbrev pub entry_for : Message → Entry
entry_for m = record { sender = m.sender; number = m.number; payload = m.payload }

-- an entry as members deliver it
abbrev pub message_for : Entry → Message
message_for e = record { sender = e.sender; number = e.number; payload = e.payload }

-- the entries that a member delivered in a view
unfoldable pub list_of : Address → ViewId → List Event → List Entry
list_of p v t = map entry_for (delivered_in p v t)

-- the one order of a view: what its coordinator delivered
abbrev pub order_of : ViewId → List Event → List Entry
order_of v t = list_of v.creator v t

-- the members of a view, as its coordinator installed it; nobody before that
abbrev pub members_of : ViewId → List Event → List Address
members_of v t = option_map_or (λ i. i.view.members) (entry_of v.creator v t) []

-- ---- a member's tally in a view

-- whether a member has yet to enter a view, is open in it, or was blocked in it
pub data Phase : Type 0 where
  Before : Phase
  Open : Phase
  Past : Phase

-- how far a member is in a view, and how many messages it delivered while open
pub record Tally : Type 0 where
  pub phase : Phase
  pub count : ℕ

abbrev pub no_tally : Tally
no_tally = record { phase = Before; count = 0 }

abbrev pub opened : Phase → Phase
opened Before = Open
opened Open = Open
opened Past = Past

abbrev pub blocked : Phase → Phase
blocked Before = Before
blocked Open = Past
blocked Past = Past

-- one more message counts while open
abbrev pub counted : Phase → ℕ → ℕ
counted Before n = n
counted Open n = n + 1
counted Past n = n

abbrev pub tally_after : Address → ViewId → Tally → Event → Tally
tally_after p v s (Started q) = s
tally_after p v s (Sent m) = s
tally_after p v s (Delivered d) = if same_address d.member p && same_view_id d.view v then record { phase = s.phase; count = counted s.phase s.count } else s
tally_after p v s (Blocked q) = if same_address q p then record { phase = blocked s.phase; count = s.count } else s
tally_after p v s (Installed i) = if same_address i.member p && same_view_id i.view.id v then record { phase = opened s.phase; count = s.count } else s
tally_after p v s (Left q) = s
tally_after p v s (Crashed q) = s

unfoldable pub tally_of : Address → ViewId → List Event → Tally
tally_of p v t = fold (tally_after p v) no_tally t

-- how many messages a member delivered in a view before it was blocked there
abbrev pub open_count : Address → ViewId → List Event → ℕ
open_count p v t = (tally_of p v t).count

-- a member was blocked in a view
abbrev pub IsClosed : Address → ViewId → List Event → Type 0
IsClosed p v t = (tally_of p v t).phase ≡ Past
