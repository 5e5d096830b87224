-- There are members that have just started.
use Rattle.std.proofs.Common.{ℕ, false, None, Some, List, [], Vec, Global, refl, subst, arith}
use denote.RawPtr.{null_ptr}
use Rattle.std.proofs.lemmas.Option.{none-some, same_Some}
use Rattle.address.specs.Ids.{Address, IsAddress}
use Rattle.state_transfer.specs.Meanings.{Meaning}
use Rattle.membership.specs.declared.sent_install.SentInstall.{SentInstall}
use Rattle.membership.specs.declared.member_state.MemberState.{MemberState}
use Rattle.membership.specs.MemberStates.{idle_member}
use Rattle.membership.proofs.KeepMemberState.{idle-is-member_state}
use Rattle.member.specs.Members.{MemberModel}
use Rattle.member.specs.Running.{IsRunning}
use Rattle.step_output.specs.Steps.{who}
use Rattle.law_processes.specs.Deployments.{IsNew}

-- no INSTALL was put out yet
abbrev no_installs : Vec SentInstall Global
no_installs = record { ptr = null_ptr; len = 0; cap = 0; alloc = record { memory = record { seal = record {} } }; items = []; ok = (refl, omega arith); small = omega arith }

abbrev idle_state : {S : Type 0} → Address → S → MemberState S
idle_state me s = record {
  contact = None;
  view_state = None;
  promise = record { member = me; proposal = None; is_installed = false };
  flush = None;
  sent_installs = no_installs;
  sent_state = None;
  chunks = [];
  receiver = s;
  notes = record { suspects = []; joiners = []; merging = []; heard = 0 };
}

module _ {S : Type 0} (meaning : Meaning S) (group : List ℕ) where
  abbrev pub new_member : Address → MemberModel S
  new_member p = record { address = p; group = group; member_state = Some (idle_state p meaning.opening) }

  alive-new : (p : Address) → IsRunning (who p group) (idle_state p meaning.opening)
  alive-new p = record { member_state = idle-is-member_state (who p group) meaning.opening (idle_state p meaning.opening) idle-so; ordered = λ v e. absurd (none-some v e) }
    where
      idle-so : idle_member p meaning.opening (idle_state p meaning.opening)
      idle-so = record { contact = refl; view_state = refl; promise = refl; flush = refl; sent_installs = refl; sent_state = refl; chunks = refl; receiver = refl; notes = refl }

  pub is-new : (p : Address) → IsAddress p → IsNew meaning group p (new_member p)
  is-new p real = record { real = real; address = refl; group_is = refl; core = refl; alive = λ l e. subst (IsRunning (who p group)) (same_Some (idle_state p meaning.opening) l e) (alive-new p) }
