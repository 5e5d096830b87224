-- What a member does by each input that it does not refuse, and which inputs its rules ignore.
use Rattle.std.specs.Prelude.{◌≡◌, Bool, true, false, not, ◌&&◌, is_some, [], Option, None, Some, MatchBool, MatchOption}
use Rattle.std.specs.Option.{option_map_or}
use Rattle.address.specs.Ids.{Address}
use Rattle.wire.specs.Packets.{wire_refusal}
use Rattle.state_transfer.specs.Meanings.{Meaning}
use Rattle.wire_values.specs.Posted.{Posted}
use Rattle.step_output.specs.declared.output.Output.{Output}
use Rattle.step_output.specs.Outputs.{Grows, Puts}
use Rattle.membership.specs.declared.member_state.MemberState.{MemberState}
use Rattle.membership.specs.MemberStates.{is_connected}
use Rattle.membership.specs.Changes.{StaysAs}
use Rattle.member_rules.specs.Messages.{Sends, TicksInView}
use Rattle.member_rules.specs.Views.{Creates, Asks, OnSuspect, AnnouncesView, Leaves, is_suspectable, asks_again, flushes_again}
use Rattle.member_rules.specs.Ignoring.{is_hint_ignored}
use Rattle.member.specs.Hearing.{FollowsRule, ignores}
use Rattle.member.specs.declared.input.Input.{Input}
use Rattle.member.specs.declared.input.Input.TheVariants.{Create, Join, Send, Datagram, Tick, Suspect, MergeHint, Leave}
use Rattle.member.specs.Members.{MemberModel, came_at}
use Rattle.step_output.specs.Steps.{Who, who}
use Rattle.membership.specs.InSteps.{InStep, in_step}

-- what may be lost is put out again: while it asks to be let in, while it is blocked, and in a view
abbrev pub Ticks : {S : Type 0} → Who → InStep S → Output → Type 0
Ticks who old later =
    MatchBool (is_some old.member.view_state)
    (MatchBool old.member.promise.is_installed (TicksInView who old later) (Grows who.group old.out later (flushes_again who.address old.member) []))
    (Grows who.group old.out later (asks_again who.address old.member) [])

-- each input by its rule; came: the packet that was handed to it
abbrev pub DoesBy : {S : Type 0} → Meaning S → Option Posted → Who → Input → InStep S → InStep S → Type 0
DoesBy meaning came who Create old new = Creates who old new
DoesBy meaning came who (Join contact) old new = Asks who contact old new
DoesBy meaning came who (Send payload) old new = Sends meaning who payload.now old new
DoesBy meaning came who (Datagram bytes) old new = MatchOption came (StaysAs old new) (λ m. FollowsRule meaning who m.source m.body old new)
DoesBy meaning came who Tick old new = (new.member ≡ old.member) × Ticks who old new.out
DoesBy meaning came who (Suspect q) old new = OnSuspect meaning who q old new
DoesBy meaning came who (MergeHint q) old new = AnnouncesView who q old new
DoesBy meaning came who Leave old new = ⊥

-- from one that runs to one that runs; where it leaves, it ends
abbrev pub DoesAt : {S : Type 0} → Meaning S → Option Posted → Who → Input → Option (MemberState S) → Output → Option (MemberState S) → Output → Type 0
DoesAt meaning came who input (Some old) out (Some new) later = DoesBy meaning came who input (in_step old out) (in_step new later)
DoesAt meaning came who input (Some old) out None later = Leaves who (in_step old out) later
DoesAt meaning came who input None out new later = ⊥

-- it did so, and nothing else was put out or happened
pub record Does {S : Type 0} (meaning : Meaning S) (old : MemberModel S) (input : Input) (out : Output) (new : MemberModel S) :
    Type 0 where
  pub start : Output
  pub nothing : Puts [] [] start
  pub does : DoesAt meaning (came_at old input) (who old.address old.group) input old.member_state start new.member_state out

-- ---- ignored

-- a packet that is not for it, and one that the rule of its kind ignores; bytes that spell none are refused
abbrev pub ignores_packet : {S : Type 0} → Address → Option Posted → MemberState S → Bool
ignores_packet me came l = option_map_or (λ m. ignores me m.source m.body l) came true

abbrev pub ignores_input : {S : Type 0} → Address → Option Posted → MemberState S → Input → Bool
ignores_input me came l Create = false
ignores_input me came l (Join contact) = false
ignores_input me came l (Send payload) = false
ignores_input me came l (Datagram bytes) = not (is_some (wire_refusal bytes.now)) && ignores_packet me came l
ignores_input me came l Tick = not (is_connected l)
ignores_input me came l (Suspect q) = not (is_suspectable me q l)
ignores_input me came l (MergeHint q) = is_hint_ignored me q l
ignores_input me came l Leave = false

-- whether a member that runs ignores an input
abbrev pub is_ignored : {S : Type 0} → MemberModel S → Input → Bool
is_ignored m input = option_map_or (λ l. ignores_input m.address (came_at m input) l input) m.member_state false
