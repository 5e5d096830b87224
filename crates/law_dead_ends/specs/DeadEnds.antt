-- By how many suspicions a member comes to stand alone.
use Rattle.std.specs.Prelude.{◌≡◌, ℕ, ◌+◌, ◌*◌, ◌≤◌, suc, true, List, [], length, max, Some, Ok}
use Rattle.std.specs.Option.{option_map_or}
use Rattle.address.specs.Ids.{Address}
use Rattle.address.specs.declared.limits.TheConstants.{GREATEST_NUMBER}
use Rattle.view.specs.Members.{View}
use Rattle.state_transfer.specs.Meanings.{Meaning}
use Rattle.law_acts.specs.Acts.{others_of}
use Rattle.law_acts.specs.Decisions.{promised_counter}
use Rattle.step_output.specs.declared.output.Output.{Output}
use Rattle.membership.specs.declared.member_state.MemberState.{MemberState}
use Rattle.membership.specs.MemberStates.{view_in}
use Rattle.member.specs.declared.input.Input.TheVariants.{Suspect}
use Rattle.member_rules.specs.Views.{is_suspectable}
use Rattle.member.specs.Members.{MemberModel}
use Rattle.member.specs.Handling.{Handled}
use Rattle.law_processes.specs.Deployments.{Deployment, IsPlayed}

-- a member stands alone: it runs, nobody else is in its view, and it is not blocked
pub record StandsAlone {S : Type 0} (m : MemberModel S) : Type 0 where
  pub state : MemberState S
  pub runs : m.member_state ≡ Some state
  pub view : View
  pub current : view_in state.view_state ≡ Some view
  pub alone : others_of m.address view.members ≡ []
  pub unblocked : state.promise.is_installed ≡ true

-- by at most so many suspicions it comes to stand alone, whatever a call makes of it that takes one; each is of another, in its view or in the list that it promised, and is
-- chosen as the member then stands
pub data ComesAlone {S : Type 0} (meaning : Meaning S) : ℕ → MemberModel S → Type 0 where
  Stands : (count : ℕ) (m : MemberModel S) → StandsAlone m → ComesAlone meaning count m
  Suspects : (count : ℕ) (m : MemberModel S) (l : MemberState S) (q : Address) → m.member_state ≡ Some l → is_suspectable m.address q l ≡ true → ((out : Output) (new : MemberModel S) → Handled meaning m (Suspect q) (Ok out) new → ComesAlone meaning count new)
      → ComesAlone meaning (suc count) m

-- how many are enough: one for each member of its view, one for each address that it noted for its next view, and one more
abbrev pub enough : {S : Type 0} → MemberState S → ℕ
enough l = option_map_or (λ v. length v.members) (view_in l.view_state) 0 + length l.notes.joiners + length l.notes.merging + 1

-- the greatest counter that it promised or heard of
abbrev pub counter_of : {S : Type 0} → MemberState S → ℕ
counter_of l = max (promised_counter l.promise.proposal) l.notes.heard

-- NO DEAD END: each member of a deployment that has a view comes to stand alone, where its counter has room
abbrev pub NoDeadEnd : {S : Type 0} → Meaning S → Type 0
NoDeadEnd {S} meaning = (group : List ℕ) (d : Deployment S) → IsPlayed meaning group d → (p : Address) (m : MemberModel S) (l : MemberState S) (v : View) → d.members p ≡ Some m
    → m.member_state ≡ Some l → view_in l.view_state ≡ Some v → counter_of l + 2 * enough l ≤ GREATEST_NUMBER → ComesAlone meaning (enough l) m
