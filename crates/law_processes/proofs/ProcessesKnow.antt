-- What the processes of a deployment know that run: what agreement's law says of them.
use Rattle.std.proofs.Common.{◌≡◌, ℕ, Option, Some, None, List, length, refl, sym, ap, ◌∙◌, subst}
use Rattle.std.specs.Option.{IsSomeAnd, option_and_then}
use Rattle.std.proofs.lemmas.Option.{none-some, same_Some}
use Rattle.address.specs.Ids.{Address, ViewId}
use Rattle.view.specs.Members.{View}
use Rattle.state_transfer.specs.Meanings.{Meaning}
use Rattle.trace_props.specs.declared.event.Event.{Event}
use Rattle.trace_props.specs.Observed.{delivered_in}
use Rattle.trace_props.specs.Places.{EachPlace}
use Rattle.trace_props.specs.Synchrony.{IsVirtuallySynchronous}
use Rattle.trace_props.specs.State.{state_of}
use Rattle.trace_props.proofs.RulesAlongLists.{EachPlace-whole}
use Rattle.law_processes.specs.Replicas.{ReplicasAgree, HasDelivered}
use Rattle.law_acts.specs.Cores.{Core, id_of}
use Rattle.law_acts.specs.Known.{Knows}
use Rattle.law_acts.proofs.KeepBySteps as steps
use Rattle.law_acts.proofs.KnownOfMembers.{members-know as core-knows}
use Rattle.member.specs.Members.{MemberModel, core_of}
use Rattle.law_processes.specs.Deployments.{Step, IsHistory, nothing_yet, after_steps, trace_of}
use Rattle.law_processes.specs.Known.{MembersKnow, StandsAt, ProcessesAgree, CopiesAgree, NeverClosed}
use Rattle.law_processes.specs.Law.{AreSynchronous}
use Rattle.law_processes.proofs.KeepBySteps.{IsDeployment, steps-keep, nothing, state-core, system_of}
use Rattle.law_processes.proofs.StatesAreReadable.{never-closed}

module _ {S : Type 0} (meaning : Meaning S) where
  keeps : (laws : steps.Laws meaning) (group : List ℕ) (all : List (Step S)) → IsHistory meaning group all → IsDeployment meaning laws group (after_steps nothing_yet all)
  keeps laws group all h = steps-keep meaning laws group nothing_yet all (nothing meaning laws group) h.does h.once h.network

  pub members-know : steps.Laws meaning → MembersKnow meaning
  members-know laws group all h p m there =
      let x = keeps laws group all h in
      let d = after_steps nothing_yet all in
      let c = state-core m.address m.member_state (x.here p m there).runs in
      subst (λ (o : Option (Core S)). IsSomeAnd o (Knows meaning d.trace p)) (sym c.1)
      (core-knows meaning (system_of meaning laws group d.members d.offered d.trace) p c.0 x.agreed (ap (option_and_then core_of) there ∙ c.1))

  stands : (t : List Event) (p : Address) (m : MemberModel S) (v : ViewId) (n : ℕ) (s : S) (x : StandsAt m v n s) → IsSomeAnd (core_of m) (Knows meaning t p)
      → HasDelivered p v n t × (state_of meaning p t ≡ s)
  stands t p m v n s x k =
      let is : Knows meaning t p x.core = subst (λ (o : Option (Core S)). IsSomeAnd o (Knows meaning t p)) x.runs k in
      (record { view = is.current ∙ x.view; many = by x.core.view refl is x.view ∙ x.delivered }, is.state ∙ x.state)
    where
      by : (o : Option View) → x.core.view ≡ o → Knows meaning t p x.core → id_of o ≡ Some v → length (delivered_in p v t) ≡ x.core.view_state.delivered
      by None e is at = absurd (none-some v at)
      by (Some w) e is at = ap (λ (u : ViewId). length (delivered_in p u t)) (sym (same_Some w.id v at)) ∙ is.delivered w e

  -- copies agree, and so the receivers of processes
  abbrev Replicas : Type 0
  Replicas = (t : List Event) → IsVirtuallySynchronous meaning t → EachPlace (ReplicasAgree meaning) t

  pub copies-agree : Replicas → AreSynchronous meaning → CopiesAgree meaning
  copies-agree law are group all h = law (trace_of all) (are group all h)

  pub processes-agree : steps.Laws meaning → CopiesAgree meaning → ProcessesAgree meaning
  processes-agree laws agree group all h p q m k v n s z at other x y =
      let a = stands (trace_of all) p m v n s x (members-know laws group all h p m at) in
      let b = stands (trace_of all) q k v n z y (members-know laws group all h q k other) in
      sym a.1 ∙ (EachPlace-whole (ReplicasAgree meaning) (trace_of all) (agree group all h)).level p q v n a.0 b.0 ∙ b.1

  pub are-never-closed : steps.Laws meaning → NeverClosed meaning
  are-never-closed laws group all h p m left input there may closed = never-closed meaning laws group (after_steps nothing_yet all) (keeps laws group all h) p m there input may left closed
