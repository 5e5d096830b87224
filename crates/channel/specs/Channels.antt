-- A channel as contracts see it.
use Rattle.std.specs.Prelude.{◌≡◌, ℕ, Bool, false, is_some, List, Option, None, Some, IfSome, if◌then◌else◌}
use Rattle.std.specs.Option.{option_map, option_map_or, option_and_then}
use Rattle.address.specs.Ids.{Address, ViewId}
use Rattle.view.specs.Members.{View}
use Rattle.trace_props.specs.declared.event.Event.{Event}
use Rattle.law_acts.specs.Cores.{Core, id_of, is_frozen}
use Rattle.step_output.specs.declared.output.Outgoing.{Outgoing}
use Rattle.step_output.specs.Names.{same_name}
use Rattle.member.specs.declared.error.Error.{Error}
use Rattle.member.specs.Members.{MemberModel, core_of}
use Rattle.member.specs.declared.heard.Heard.{Heard}
use Rattle.member.specs.Sources.{heard_of}
use Rattle.channel.specs.declared.stage.Stage.{Stage}
use Rattle.channel.specs.declared.stage.Stage.TheVariants.{Apart, Connected, Ended}
use Rattle.channel.specs.Errors.{is_end}

-- its address; what it is: apart, with its receiver's state, or a member, or ended; the packets and the events that wait
pub record ChannelModel (S : Type 0) : Type 0 where
  pub address : Address
  pub stage : Stage S
  pub outgoing : List Outgoing
  pub happened : List Event

-- what is left by a refused call: after 6 and 7 it has ended, and after any other nothing has changed
abbrev pub left_by : {S : Type 0} → Error → ChannelModel S → ChannelModel S
left_by e c = if is_end e then record c { stage = Ended } else c

-- where a call leaves its member: one that has ended is let go
abbrev pub stage_of : {S : Type 0} → MemberModel S → Stage S
stage_of m = if is_some m.member_state then Connected m else Ended

-- its member, while that runs
abbrev pub member_in : {S : Type 0} → Stage S → Option (MemberModel S)
member_in (Apart s) = None
member_in (Connected m) = Some m
member_in Ended = None

-- where its member runs, that is the member of this address
abbrev pub RunsAt : {S : Type 0} → Address → Stage S → Type 0
RunsAt p stage = IfSome (member_in stage) (λ m. m.address ≡ p)

-- ---- what is asked of a channel

-- what its member decides by
abbrev pub core_in : {S : Type 0} → Stage S → Option (Core S)
core_in stage = option_and_then core_of (member_in stage)

abbrev pub view_in : {S : Type 0} → Stage S → Option View
view_in stage = option_and_then (λ c. c.view) (core_in stage)

abbrev pub is_blocked : {S : Type 0} → Stage S → Bool
is_blocked stage = option_map_or (λ c. is_frozen c.view c.installed) (core_in stage) false

-- the view that it promised last
abbrev pub promised_in : {S : Type 0} → Stage S → Option ViewId
promised_in stage = option_and_then (λ c. id_of c.promise) (core_in stage)

-- its receiver's state, before a connect and while its member runs
abbrev pub receiver_in : {S : Type 0} → Stage S → Option S
receiver_in (Apart s) = Some s
receiver_in (Connected m) = option_map (λ c. c.state) (core_of m)
receiver_in Ended = None

-- how many messages of its view it knows to be stable: 0 without a view, and after its end
abbrev pub stable_in : {S : Type 0} → Stage S → ℕ
stable_in stage = option_map_or (λ c. c.view_state.stable) (core_in stage) 0

-- the name that it is connected by
abbrev pub group_in : {S : Type 0} → Stage S → Option (List ℕ)
group_in stage = option_map (λ m. m.group) (member_in stage)

-- whether it is connected under a name
abbrev pub is_in : {S : Type 0} → List ℕ → Stage S → Bool
is_in name stage = option_map_or (same_name name) (group_in stage) false

-- what packet a datagram spells that is for it: of the group that it is connected to, to its address, and from another
abbrev pub heard_at : {S : Type 0} → List ℕ → ChannelModel S → Option Heard
heard_at bytes c = option_and_then (λ group. heard_of c.address group bytes) (group_in c.stage)
