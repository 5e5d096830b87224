-- Each member of a deployment that was played waits in its own flush for a report, and so comes to stand alone.
use Rattle.std.proofs.Common.{◌≡◌, ℕ, Bool, true, false, cond, inr, Option, Some, None, Result, Ok, Err, List, [], ◌∷◌, suc, ◌+◌, length, is_some, refl, sym, ap, ◌∙◌, subst, arith}
use Rattle.std.specs.Prelude.{MatchBool}
use Rattle.std.specs.Option.{ForSome, IsSomeAnd, option_map, option_map_or, option_and_then}
use Rattle.std.proofs.lemmas.Option.{none-some, same_Some}
use Rattle.address.specs.Ids.{Address, same_address}
use Rattle.address.proofs.SameIds.{same_address-true}
use Rattle.address.specs.declared.refusal.Refusal.TheVariants.{Closed}
use Rattle.view.specs.Members.{View, stands_in}
use Rattle.view.proofs.MembersListed.{coordinator-in}
use Rattle.state_transfer.specs.Meanings.{Meaning}
use Rattle.law_acts.specs.Cores.{Core, idle}
use Rattle.law_acts.specs.Histories.{History}
use Rattle.law_acts.proofs.KeepBySteps as agree
use Rattle.law_acts.proofs.RegistersHoldPackets.{flush-stands}
use Rattle.law_acts.specs.Members.{MemberFact}
use Rattle.law_acts.specs.Packets.{PacketFact, BodyFact}
use Rattle.step_output.specs.declared.output.Output.{Output}
use Rattle.step_output.specs.Steps.{Who, who}
use Rattle.membership.specs.declared.member_state.MemberState.{MemberState}
use Rattle.membership.specs.MemberStates.{core_of as core_at, IsMemberState}
use Rattle.membership.specs.InSteps.{in_step}
use Rattle.member.specs.declared.error.Error.{Error}
use Rattle.member.specs.declared.error.Error.TheVariants.{Refused}
use Rattle.member.specs.declared.input.Input.{Input}
use Rattle.member.specs.Members.{MemberModel, core_of, came_at, refusal_of, is_unreadable}
use Rattle.member.specs.Errors.{is_memory}
use Rattle.member.specs.Doing.{DoesAt}
use Rattle.member.specs.Handling.{Handled}
use Rattle.law_processes.specs.Deployments.{Step, Start, Call, Crash, Deployment, nothing_yet, with_member, running_on, after, after_steps, EachStep, DoesSo, IsNew, IsPlayed}
use Rattle.law_processes.proofs.KeepBySteps.{IsDeployment, memory-is, system_of}
use Rattle.law_processes.proofs.DeploymentsGoOn.{played-keeps}
use Rattle.law_dead_ends.specs.DeadEnds.{NoDeadEnd, ComesAlone, enough}
use Rattle.law_dead_ends.proofs.CountersGo.{noted, noted-is}
use Rattle.law_dead_ends.proofs.KeepFlushes.{Waits, does-waits, none-waits}
use Rattle.law_dead_ends.proofs.ComesAlone.{Sound, members-come}

module _ {S : Type 0} (meaning : Meaning S) where
  -- ---- each member waits in its own flush

  -- what holds of a member between its calls
  record Well (who' : Who) (l : MemberState S) : Type 0 where
    pub kept : IsMemberState who' l
    pub waits : Waits meaning who' l

  abbrev AllWell : (Address → Option (MemberModel S)) → Type 0
  AllWell members = (p : Address) (m : MemberModel S) → members p ≡ Some m → ForSome m.member_state (Well (who m.address m.group))

  well-with : (p : Address) (o : Option (MemberModel S)) (members : Address → Option (MemberModel S)) → ((m : MemberModel S) → o ≡ Some m → ForSome m.member_state (Well (who m.address m.group)))
      → AllWell members → AllWell (with_member p o members)
  well-with p o members now all q m at = by (same_address q p) at
    where
      by : (b : Bool) → cond b o (members q) ≡ Some m → ForSome m.member_state (Well (who m.address m.group))
      by true at = now m at
      by false at = all q m at

  -- one that has just started
  new-well : (group : List ℕ) (p : Address) (m : MemberModel S) → IsNew meaning group p m → ForSome m.member_state (Well (who m.address m.group))
  new-well group p m new l at =
      let core : Some (core_at m.address l) ≡ Some (idle meaning.opening p) = sym (ap (option_map (core_at m.address)) at) ∙ new.core in
      record {
        kept = (new.alive l at).member_state;
        waits = none-waits meaning (who m.address m.group) l (ap (λ (c : Core S). c.flush) (same_Some (core_at m.address l) (idle meaning.opening p) core));
      }

  -- one that was called
  called-well : (m left : MemberModel S) (input : Input) (result : Result Output Error) → ForSome m.member_state (Well (who m.address m.group)) → Handled meaning m input result left
      → ForSome left.member_state (Well (who left.address left.group))
  called-well m left input (Ok out) well h z at = record {
    kept = (h.alive z at).member_state;
    waits = does m.member_state refl (subst (λ (o : Option (MemberState S)). DoesAt meaning (came_at m input) (who m.address m.group) input m.member_state h.does.start o out) at h.does.does);
  }
    where
      does : (o : Option (MemberState S)) → m.member_state ≡ o → DoesAt meaning (came_at m input) (who m.address m.group) input o h.does.start (Some z) out → Waits meaning (who left.address left.group) z
      does None is bad = absurd bad
      does (Some l) is d =
          subst (λ (w : Who). Waits meaning w z) (λ j. who (sym h.address j) (sym h.group j))
          (does-waits meaning (who m.address m.group) (came_at m input) input (in_step l h.does.start) (in_step z out) (well l is).kept (well l is).waits d)
  called-well m left input (Err e) well h z at = by (is_memory e) refl h.refused
    where
      ended : core_of left ≡ None → Well (who left.address left.group) z
      ended none = absurd (none-some (core_at left.address z) (sym none ∙ ap (option_map (core_at left.address)) at))

      unread : (b : Bool) → MatchBool b ((e ≡ Refused Closed) × (core_of left ≡ None)) ((refusal_of m input ≡ Some e) × (left ≡ m)) → Well (who left.address left.group) z
      unread true x = ended x.1
      unread false x =
          subst (λ (k : MemberModel S). ForSome k.member_state (Well (who k.address k.group))) (sym x.1) well z at

      by : (b : Bool) → is_memory e ≡ b
          → MatchBool b (refusal_of m input ≡ None) (MatchBool (is_unreadable meaning m input) ((e ≡ Refused Closed) × (core_of left ≡ None)) ((refusal_of m input ≡ Some e) × (left ≡ m)))
          → Well (who left.address left.group) z
      by true is x = ended (h.memory (ap Err (memory-is e is))).0
      by false is x = unread (is_unreadable meaning m input) x

  step-well : (group : List ℕ) (d : Deployment S) (x : Step S) → DoesSo meaning group d x → AllWell d.members → AllWell (after d x).members
  step-well group d (Start p m) new all =
      well-with p (Some m) d.members (λ k e. subst (λ (n : MemberModel S). ForSome n.member_state (Well (who n.address n.group))) (same_Some m k e) (new-well group p m new)) all
  step-well group d (Call p input result left) call all =
      well-with p (running_on left) d.members (λ k e. by (is_some left.member_state) k e) all
    where
      by : (b : Bool) (k : MemberModel S) → cond b (Some left) None ≡ Some k → ForSome k.member_state (Well (who k.address k.group))
      by true k e =
          subst (λ (n : MemberModel S). ForSome n.member_state (Well (who n.address n.group))) (same_Some left k e)
          (called-well call.member left input result (all p call.member call.runs) call.handled)
      by false k e = absurd (none-some k e)
  step-well group d (Crash p) runs all = well-with p None d.members (λ k e. absurd (none-some k e)) all

  steps-well : (group : List ℕ) (d : Deployment S) (steps : List (Step S)) → EachStep (DoesSo meaning group) d steps → AllWell d.members → AllWell (after_steps d steps).members
  steps-well group d [] each all = all
  steps-well group d (x ∷ steps) each all = steps-well group (after d x) steps each.1 (step-well group d x each.0 all)

  played-well : (group : List ℕ) (d : Deployment S) → IsPlayed meaning group d → AllWell d.members
  played-well group d y =
      subst (λ (e : Deployment S). AllWell e.members) y.end (steps-well group nothing_yet y.steps y.history.does (λ p m at. absurd (none-some m at)))

  -- ---- what it promised has its creator in its list

  sound : (laws : agree.Laws meaning) (group : List ℕ) (d : Deployment S) → IsPlayed meaning group d → (p : Address) (m : MemberModel S) (l : MemberState S) → d.members p ≡ Some m
      → m.member_state ≡ Some l → Sound meaning l
  sound laws group d played p m l there runs = record {
    proper = λ w is. proper w is (same_address w.id.creator p) refl;
    promised = λ waiting v view. promised _ (fact.promise.above waiting v view);
  }
    where
      x : IsDeployment meaning laws group d
      x = played-keeps meaning group laws d played

      h : History
      h = (system_of meaning laws group d.members d.offered d.trace).history

      fact : MemberFact meaning h p (core_at m.address l)
      fact = x.agreed.agreed.members p (core_at m.address l) (ap (option_and_then core_of) there ∙ ap (option_map (core_at m.address)) runs)

      promised : (P : View → Type 0) → IsSomeAnd l.promise.proposal P → is_some l.promise.proposal ≡ true
      promised P s = by l.promise.proposal s
        where
          by : (o : Option View) → IsSomeAnd o P → is_some o ≡ true
          by None bad = absurd bad
          by (Some w) s = refl

      proper : (w : View) → l.promise.proposal ≡ Some w → (b : Bool) → same_address w.id.creator p ≡ b → stands_in w.id.creator w.members ≡ true
      proper w is true same = ap (λ (q : Address). stands_in q w.members) (same_address-true w.id.creator p same) ∙ fact.promise.listed w is
      proper w is false apart =
          let f = flush-stands w.id w.members h.pool (fact.announced w is apart) in
          let put = f.2 in
          let says : PacketFact h put.posted = x.agreed.agreed.packets put.place put.posted put.stands in
          coordinator-in w.id w.members
          (subst (λ b. BodyFact h put.posted.source put.posted.destination b) put.says says).view

  -- ---- the law

  pub no-dead-end : agree.Laws meaning → NoDeadEnd meaning
  no-dead-end laws group d played p m l v there runs view room =
      let well = played-well group d played p m there l runs in
      let k = noted l.notes in
      let total : enough l ≡ length v.members + suc k =
      ap (λ (o : Option View). option_map_or (λ (u : View). length u.members) o 0 + length l.notes.joiners + length l.notes.merging + 1) view
      ∙ (let n = noted-is l.notes in omega (arith, n)) in
      subst (λ n. ComesAlone meaning n m) (sym total)
      (members-come meaning v.members k m l v (record { runs = runs; kept = well.kept; waits = well.waits }) (sound laws group d played p m l there runs) view
      (λ q in_it apart. inr in_it) (λ q in_it. in_it) (omega arith) (omega (arith, total, room)))
