-- Which packets of messages a member hears.
use Rattle.std.specs.Prelude.{ℕ, ◌-◌, Bool, true, false, not, ◌&&◌, Option, None, Some, nat_lt}
use Rattle.std.specs.Option.{option_map_or}
use Rattle.address.specs.declared.limits.TheConstants.{WINDOW}
use Rattle.address.specs.Ids.{Address, ViewId, same_address, same_view_id}
use Rattle.view.specs.Members.{View, stands_in}
use Rattle.wire_values.specs.Values.{Progress}
use Rattle.traffic.specs.declared.coordinator.Coordinator.{Coordinator}
use Rattle.traffic.specs.declared.follower.Follower.{Follower}
use Rattle.traffic.specs.declared.view_state.ViewState.{ViewState}
use Rattle.traffic.specs.declared.view_state.ViewState.TheVariants as kinds
use Rattle.membership.specs.declared.member_state.MemberState.{MemberState}
use Rattle.membership.specs.MemberStates.{view_in}

-- this view has this id, and the source stands in it
abbrev pub is_of : Address → ViewId → View → Bool
is_of source id v = same_view_id v.id id && stands_in source v.members

-- it is heard: of the view that the member is in, while that is the promised one, from a member of it
abbrev pub hears : {S : Type 0} → Address → ViewId → MemberState S → Bool
hears source id l = l.promise.is_installed && option_map_or (is_of source id) (view_in l.view_state) false

-- it is the coordinator of its view, and passes a test
abbrev pub is_coordinator_that : (Coordinator → Bool) → Option ViewState → Bool
is_coordinator_that test None = false
is_coordinator_that test (Some (kinds.Coordinator m)) = test m
is_coordinator_that test (Some (kinds.Follower m)) = false

-- it is another member of its view, and passes a test
abbrev pub is_follower_that : (Follower → Bool) → Option ViewState → Bool
is_follower_that test None = false
is_follower_that test (Some (kinds.Coordinator m)) = false
is_follower_that test (Some (kinds.Follower m)) = test m

-- ---- what is not ignored

-- a FORWARD, and a NAK: heard by the coordinator
abbrev pub takes_forward : {S : Type 0} → Address → ViewId → MemberState S → Bool
takes_forward source id l = hears source id l && is_coordinator_that (λ m. true) l.view_state

abbrev pub takes_nak : {S : Type 0} → Address → ViewId → MemberState S → Bool
takes_nak source id l = takes_forward source id l

-- an ACK: heard by the coordinator, of no more than was delivered there
abbrev pub takes_ack : {S : Type 0} → Address → ViewId → ℕ → MemberState S → Bool
takes_ack source id count l = hears source id l && is_coordinator_that (λ m. not (nat_lt m.window.delivered count)) l.view_state

-- an ORDER: heard by another member from the coordinator, at most `WINDOW` past what was delivered there
abbrev pub takes_order : {S : Type 0} → Address → ViewId → ℕ → MemberState S → Bool
takes_order source id place l = hears source id l && is_follower_that (λ m. same_address m.view.id.creator source && not (nat_lt m.window.delivered (place - WINDOW))) l.view_state

-- a STATUS: heard by another member from the coordinator, with a stable count of no more than was delivered there and a highest number at most `WINDOW` past it
abbrev pub is_near : Progress → Follower → Bool
is_near a m = not (nat_lt m.window.delivered a.stable) && not (nat_lt m.window.delivered (a.highest - WINDOW))

abbrev pub takes_status : {S : Type 0} → Address → ViewId → Progress → MemberState S → Bool
takes_status source id a l = hears source id l && is_follower_that (λ m. same_address m.view.id.creator source && is_near a m) l.view_state
