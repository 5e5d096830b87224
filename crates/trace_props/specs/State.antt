-- The state of a member's receiver, and the rule on the states with which views are entered.
use Rattle.std.specs.Prelude.{◌≡◌, ◌+◌, Bool, ◌&&◌, false, Option, Some, List, [], ◌∷◌, ◌++◌, fold, take, IsSome, position, unwrap_or, if◌then◌else◌}
use Rattle.std.specs.Option.{ForSome, option_and_then}
use Rattle.address.specs.Ids.{Address, ViewId, same_address, same_view_id}
use Rattle.state_transfer.specs.Meanings.{Meaning}
use Rattle.trace_props.specs.declared.event.Event.{Event}
use Rattle.trace_props.specs.declared.event.Event.TheVariants.{Started, Sent, Delivered, Blocked, Installed, Left, Crashed}
use Rattle.trace_props.specs.Places.{EachEvent}

-- one event changes the state of the member to whom it happens: a message is applied, a given state is taken
abbrev pub state_after : {S : Type 0} → Meaning S → Address → S → Event → S
state_after meaning p s (Started q) = s
state_after meaning p s (Sent m) = s
state_after meaning p s (Delivered d) = if same_address d.member p then meaning.apply s d.message.sender d.message.payload else s
state_after meaning p s (Blocked q) = s
state_after meaning p s (Installed i) = if same_address i.member p then unwrap_or (option_and_then meaning.decode i.given) s else s
state_after meaning p s (Left q) = s
state_after meaning p s (Crashed q) = s

-- the state of a member's receiver
abbrev pub state_of : {S : Type 0} → Meaning S → Address → List Event → S
state_of meaning p t = fold (state_after meaning p) meaning.opening t

abbrev pub installs : Address → ViewId → Event → Bool
installs p v (Started q) = false
installs p v (Sent m) = false
installs p v (Delivered d) = false
installs p v (Blocked q) = false
installs p v (Installed i) = same_address i.member p && same_view_id i.view.id v
installs p v (Left q) = false
installs p v (Crashed q) = false

-- the state that a view's coordinator had right after it installed the view: None where it has not
abbrev pub entry_state : {S : Type 0} → Meaning S → ViewId → List Event → Option S
entry_state meaning v t =
    option_and_then (λ k. Some (state_of meaning v.creator (take (k + 1) t))) (position (installs v.creator v) t)

-- a given state can be read; and whoever installs a view has then the state that the view's coordinator had after its own install,
-- which is this one or stands before
abbrev pub EntersAlike : {S : Type 0} → Meaning S → List Event → Event → Type 0
EntersAlike meaning past (Started p) = Unit {0}
EntersAlike meaning past (Sent m) = Unit {0}
EntersAlike meaning past (Delivered d) = Unit {0}
EntersAlike meaning past (Blocked p) = Unit {0}
EntersAlike meaning past (Installed i) =
    ForSome i.given (λ g. IsSome (meaning.decode g))
    × (entry_state meaning i.view.id (past ++ Installed i ∷ []) ≡ Some (state_of meaning i.member (past ++ Installed i ∷ [])))
EntersAlike meaning past (Left p) = Unit {0}
EntersAlike meaning past (Crashed p) = Unit {0}

-- STATE OF ENTRY
abbrev pub EntersWithState : {S : Type 0} → Meaning S → List Event → Type 0
EntersWithState meaning t = EachEvent (EntersAlike meaning) t
