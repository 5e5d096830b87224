-- What a trace says of a member: whether it runs, its current view, whether it is blocked, what it sent and delivered.
use Rattle.std.specs.Prelude.{Bool, true, false, ◌&&◌, Option, None, Some, List, fold, if◌then◌else◌}
use Rattle.std.specs.List.{list_any, filter_map, find}
use Rattle.address.specs.Ids.{Address, ViewId, same_address, same_view_id}
use Rattle.trace_props.specs.declared.event.Event.{Event}
use Rattle.trace_props.specs.declared.event.Event.TheVariants.{Started, Sent, Delivered, Blocked, Installed, Left, Crashed}
use Rattle.trace_props.specs.declared.event.Numbered.{Numbered}
use Rattle.trace_props.specs.declared.event.Message.{Message}
use Rattle.trace_props.specs.declared.event.Install.{Install}

-- to whom an event happens
abbrev pub member_of : Event → Address
member_of (Started p) = p
member_of (Sent s) = s.member
member_of (Delivered d) = d.member
member_of (Blocked p) = p
member_of (Installed i) = i.member
member_of (Left p) = p
member_of (Crashed p) = p

abbrev pub is_start : Event → Bool
is_start (Started p) = true
is_start (Sent s) = false
is_start (Delivered d) = false
is_start (Blocked p) = false
is_start (Installed i) = false
is_start (Left p) = false
is_start (Crashed p) = false

abbrev pub is_end : Event → Bool
is_end (Started p) = false
is_end (Sent s) = false
is_end (Delivered d) = false
is_end (Blocked p) = false
is_end (Installed i) = false
is_end (Left p) = true
is_end (Crashed p) = true

abbrev pub has_started : Address → List Event → Bool
has_started p t = list_any (λ h. same_address (member_of h) p && is_start h) t

-- Left or Crashed of the member stands in the trace
abbrev pub has_ended : Address → List Event → Bool
has_ended p t = list_any (λ h. same_address (member_of h) p && is_end h) t

abbrev pub view_after : Address → Option ViewId → Event → Option ViewId
view_after p v (Started q) = v
view_after p v (Sent s) = v
view_after p v (Delivered d) = v
view_after p v (Blocked q) = v
view_after p v (Installed i) = if same_address i.member p then Some i.view.id else v
view_after p v (Left q) = v
view_after p v (Crashed q) = v

-- the current view of a member: that of its last install
abbrev pub current_view : Address → List Event → Option ViewId
current_view p t = fold (view_after p) None t

abbrev pub block_after : Address → Bool → Event → Bool
block_after p b (Started q) = b
block_after p b (Sent s) = b
block_after p b (Delivered d) = b
block_after p b (Blocked q) = if same_address q p then true else b
block_after p b (Installed i) = if same_address i.member p then false else b
block_after p b (Left q) = b
block_after p b (Crashed q) = b

-- whether the member was blocked after its last install
abbrev pub is_blocked : Address → List Event → Bool
is_blocked p t = fold (block_after p) false t

abbrev pub delivered_message : Address → ViewId → Event → Option Message
delivered_message p v (Started q) = None
delivered_message p v (Sent s) = None
delivered_message p v (Delivered d) = if same_address d.member p && same_view_id d.view v then Some d.message else None
delivered_message p v (Blocked q) = None
delivered_message p v (Installed i) = None
delivered_message p v (Left q) = None
delivered_message p v (Crashed q) = None

-- the messages that a member delivered in a view, in order
abbrev pub delivered_in : Address → ViewId → List Event → List Message
delivered_in p v t = filter_map (delivered_message p v) t

abbrev pub said : Address → ViewId → Event → Option Numbered
said p v (Started q) = None
said p v (Sent s) = if same_address s.member p && same_view_id s.view v then Some s.message else None
said p v (Delivered d) = None
said p v (Blocked q) = None
said p v (Installed i) = None
said p v (Left q) = None
said p v (Crashed q) = None

-- the messages that a member sent in a view, in order
abbrev pub sent_in : Address → ViewId → List Event → List Numbered
sent_in p v t = filter_map (said p v) t

-- a message as its sender knows it
abbrev pub numbered : Message → Numbered
numbered m = record { number = m.number; payload = m.payload }

abbrev pub own_by : Address → Message → Option Numbered
own_by q m = if same_address m.sender q then Some (numbered m) else None

-- a member's own messages among those that were delivered
abbrev pub own : Address → List Message → List Numbered
own q messages = filter_map (own_by q) messages

abbrev pub install_of : Event → Option Install
install_of (Started q) = None
install_of (Sent s) = None
install_of (Delivered d) = None
install_of (Blocked q) = None
install_of (Installed i) = Some i
install_of (Left q) = None
install_of (Crashed q) = None

-- all installs, in order
abbrev pub installs_in : List Event → List Install
installs_in t = filter_map install_of t

-- a member's install of a view: the first one
abbrev pub entry_of : Address → ViewId → List Event → Option Install
entry_of p v t = find (λ i. same_address i.member p && same_view_id i.view.id v) (installs_in t)

-- the first install of a view, by whomever
abbrev pub first_install : ViewId → List Event → Option Install
first_install v t = find (λ i. same_view_id i.view.id v) (installs_in t)
