-- Each step of a deployment keeps the invariant of agreement, so what happened is virtually synchronous.
use Rattle.std.proofs.Common.{◌≡◌, ℕ, Bool, true, false, cond, Option, Some, None, Result, Ok, Err, List, [], ◌∷◌, ◌++◌, map, refl, sym, ap, ◌∙◌, subst}
use Rattle.std.specs.Prelude.{is_some, MatchBool}
use Rattle.std.specs.Option.{option_map, option_and_then}
use Rattle.std.specs.List.{AllByRecursion}
use Rattle.std.proofs.lemmas.Option.{none-some, same_Some}
use Rattle.std.proofs.lemmas.List.{append-nil}
use Rattle.address.specs.Ids.{Address, same_address}
use Rattle.wire.specs.Packets.{IsPacket}
use Rattle.state_transfer.specs.Meanings.{Meaning}
use Rattle.trace_props.specs.declared.event.Event.{Event}
use Rattle.trace_props.specs.declared.event.Event.TheVariants.{Started, Crashed}
use Rattle.trace_props.specs.Observed.{has_started}
use Rattle.address.proofs.SameIds.{same_address-true}
use Rattle.wire_values.specs.Posted.{Posted}
use Rattle.law_acts.specs.Cores.{Core, idle}
use Rattle.law_acts.specs.Chains.{Acted}
use Rattle.law_acts.specs.Steps.{System, put}
use Rattle.law_acts.specs.Steps as agree
use Rattle.law_acts.specs.Invariant.{Kept}
use Rattle.law_acts.proofs.KeepAtFirst.{nothing-holds}
use Rattle.law_acts.proofs.KeepBySteps as steps
use Rattle.law_acts.proofs.KeepByCall as call
use Rattle.membership.specs.declared.member_state.MemberState.{MemberState}
use Rattle.membership.specs.MemberStates.{core_of as core_at}
use Rattle.step_output.specs.Outputs.{packet_in, spelled}
use Rattle.step_output.specs.declared.output.Output.{Output}
use Rattle.step_output.specs.Steps.{who}
use Rattle.member.specs.Running.{IsAlive}
use Rattle.address.specs.declared.refusal.Refusal.{Refusal}
use Rattle.address.specs.declared.refusal.Refusal.TheVariants as refusal
use Rattle.address.specs.Refusals as refusals
use Rattle.law_acts.proofs.LawsOfActs.{nothing-acted}
use Rattle.member.specs.declared.error.Error.{Error}
use Rattle.member.specs.declared.error.Error.TheVariants.{Refused, Wire}
use Rattle.member.specs.declared.input.Input.{Input}
use Rattle.member.specs.Members.{MemberModel, core_of, came_at, refusal_of, is_unreadable}
use Rattle.member.specs.Errors.{is_memory}
use Rattle.member.specs.Handling.{Handled, HasActed}
use Rattle.law_processes.specs.Deployments.{Step, Start, Call, Crash, Deployment, nothing_yet, with_member, running_on, bytes_of, after, after_steps, EachStep, IsNew, DoesSo, StartsOnce, MayBeHanded, HandsOver}
use Rattle.law_processes.specs.Law.{AreSynchronous}
use Rattle.law_processes.proofs.PostsAreSpelled.{posts_in, EachSpelled, EachSound, bytes_for, posts-more, posted-spelled, spelled-more}
use Rattle.law_processes.proofs.CallsBringPosts.{Comes, input-comes}

-- memory was refused
memory-by : (r : Refusal) → refusals.is_memory r ≡ true → r ≡ refusal.Memory
memory-by refusal.NotConnected x = absurd (let bad : false ≡ true = x in cc)
memory-by refusal.Blocked x = absurd (let bad : false ≡ true = x in cc)
memory-by refusal.Busy x = absurd (let bad : false ≡ true = x in cc)
memory-by refusal.TooLong x = absurd (let bad : false ≡ true = x in cc)
memory-by refusal.AlreadyConnected x = absurd (let bad : false ≡ true = x in cc)
memory-by refusal.Closed x = absurd (let bad : false ≡ true = x in cc)
memory-by refusal.Memory x = refl
memory-by refusal.Exhausted x = absurd (let bad : false ≡ true = x in cc)
memory-by refusal.BadName x = absurd (let bad : false ≡ true = x in cc)

pub memory-is : (e : Error) → is_memory e ≡ true → e ≡ Refused refusal.Memory
memory-is (Refused r) x = ap Refused (memory-by r x)
memory-is (Wire w) x = absurd (let bad : false ≡ true = x in cc)

-- ---- the members that run, as a system of agreement

module _ {S : Type 0} where
  abbrev pub cores : (Address → Option (MemberModel S)) → Address → Option (Core S)
  cores members p = option_and_then core_of (members p)

  cores-by : (b : Bool) (o x : Option (MemberModel S)) → option_and_then core_of (cond b o x) ≡ cond b (option_and_then core_of o) (option_and_then core_of x)
  cores-by true o x = refl
  cores-by false o x = refl

  -- with one changed
  cores-with : (p : Address) (o : Option (MemberModel S)) (end : Option (Core S)) (members : Address → Option (MemberModel S)) → option_and_then core_of o ≡ end
      → cores (with_member p o members) ≡ put p end (cores members)
  cores-with p o end members e = (λ i q. cores-by (same_address q p) o (members q) i) ∙ ap (λ (c : Option (Core S)). put p c (cores members)) e

  -- a member that runs on, or is let go
  on-by : (address : Address) (group : List ℕ) (state : Option (MemberState S)) → let m : MemberModel S = record { address = address; group = group; member_state = state } in
      option_and_then core_of (running_on m) ≡ core_of m
  on-by address group None = refl
  on-by address group (Some l) = refl

  on-core : (m : MemberModel S) → option_and_then core_of (running_on m) ≡ core_of m
  on-core m = on-by m.address m.group m.member_state

  pub state-core : (address : Address) (state : Option (MemberState S)) → is_some state ≡ true → (c : Core S) × (option_map (core_at address) state ≡ Some c)
  state-core address None e = absurd (let bad : false ≡ true = e in cc)
  state-core address (Some l) e = (core_at address l, refl)

  core-state : (address : Address) (state : Option (MemberState S)) (c : Core S) → option_map (core_at address) state ≡ Some c → is_some state ≡ true
  core-state address None c e = absurd (none-some c e)
  core-state address (Some l) c e = refl

-- ---- what every deployment keeps

-- a member that runs at an address: of that address, of the group, and not ended
pub record IsHere {S : Type 0} (group : List ℕ) (p : Address) (m : MemberModel S) : Type 0 where
  pub address : m.address ≡ p
  pub group_is : m.group ≡ group
  pub runs : is_some m.member_state ≡ true
  pub alive : IsAlive (who m.address m.group) m.member_state

abbrev pub AreHere : {S : Type 0} → List ℕ → (Address → Option (MemberModel S)) → Type 0
AreHere {S} group members = (p : Address) (m : MemberModel S) → members p ≡ Some m → IsHere group p m

-- where one is put that is there, all are
here-by : {S : Type 0} (group : List ℕ) (p q : Address) (b : Bool) (o x : Option (MemberModel S)) (m : MemberModel S) → same_address q p ≡ b
    → ((k : MemberModel S) → o ≡ Some k → IsHere group p k) → ((k : MemberModel S) → x ≡ Some k → IsHere group q k) → cond b o x ≡ Some m → IsHere group q m
here-by group p q true o x m same now was e = subst (λ (r : Address). IsHere group r m) (sym (same_address-true q p same)) (now m e)
here-by group p q false o x m same now was e = was m e

here-with : {S : Type 0} (group : List ℕ) (p : Address) (o : Option (MemberModel S)) (members : Address → Option (MemberModel S))
    → ((k : MemberModel S) → o ≡ Some k → IsHere group p k) → AreHere group members → AreHere group (with_member p o members)
here-with group p o members now was q m e = here-by group p q (same_address q p) o (members q) m refl now (was q) e

module _ {S : Type 0} (meaning : Meaning S) (laws : steps.Laws meaning) (group : List ℕ) where
  abbrev Holding : System S → Type 0
  Holding s = Kept meaning s

  abbrev pub system_of : (Address → Option (MemberModel S)) → List (List ℕ) → List Event → System S
  system_of members offered t = record { running = cores members; history = record { pool = posts_in offered; trace = t } }

  abbrev system_at : (Address → Option (Core S)) → List Posted → List Event → System S
  system_at running pool t = record { running = running; history = record { pool = pool; trace = t } }

  pub record IsDeployment (d : Deployment S) : Type 0 where
    pub agreed : Kept meaning (system_of d.members d.offered d.trace)
    pub spelled : EachSpelled group d.offered
    pub here : AreHere group d.members

  pub nothing : IsDeployment nothing_yet
  nothing = record {
    agreed = nothing-holds meaning;
    spelled = λ k bytes at. absurd (none-some bytes at);
    here = λ p m at. absurd (none-some m at);
  }

  -- the system after one member was changed
  to-system : (p : Address) (o : Option (MemberModel S)) (end : Option (Core S)) (members : Address → Option (MemberModel S)) (offered : List (List ℕ)) (posts : List Posted) (t : List Event)
      → option_and_then core_of o ≡ end → posts_in offered ≡ posts → Holding (system_at (put p end (cores members)) posts t) → Holding (system_of (with_member p o members) offered t)
  to-system p o end members offered posts t e same i =
      subst (λ (r : Address → Option (Core S)). Holding (system_at r (posts_in offered) t)) (sym (cores-with p o end members e))
      (subst (λ (l : List Posted). Holding (system_at (put p end (cores members)) l t)) (sym same) i)

  -- nothing more was put out
  none-more : (offered : List (List ℕ)) → posts_in (offered ++ []) ≡ posts_in offered ++ []
  none-more offered = ap posts_in (append-nil offered) ∙ sym (append-nil (posts_in offered))

  still-spelled : (offered : List (List ℕ)) → EachSpelled group offered → EachSpelled group (offered ++ [])
  still-spelled offered x = subst (EachSpelled group) (sym (append-nil offered)) x

  -- ---- a start

  pub start-keeps : (d : Deployment S) (p : Address) (m : MemberModel S) → IsDeployment d → IsNew meaning group p m → has_started p d.trace ≡ false → IsDeployment (after d (Start p m))
  start-keeps d p m x new once = record {
    agreed = to-system p (Some m) (Some (idle meaning.opening p)) d.members (d.offered ++ []) (posts_in d.offered ++ []) (d.trace ++ Started p ∷ []) new.core (none-more d.offered)
        (steps.step-keeps meaning laws (system_of d.members d.offered d.trace) (agree.Start p) x.agreed (new.real, once));
    spelled = still-spelled d.offered x.spelled;
    here = here-with group p (Some m) d.members
        (λ k e. subst (IsHere group p) (same_Some m k e) (record { address = new.address; group_is = new.group_is; runs = core-state m.address m.member_state (idle meaning.opening p) new.core; alive = new.alive })) x.here;
  }

  -- ---- a crash

  crash-agreed : (d : Deployment S) (p : Address) (m : MemberModel S) → IsDeployment d → d.members p ≡ Some m
      → Holding (system_of (with_member p None d.members) (d.offered ++ []) (d.trace ++ Crashed p ∷ []))
  crash-agreed d p m x there =
      let c = state-core m.address m.member_state (x.here p m there).runs in
      to-system p None None d.members (d.offered ++ []) (posts_in d.offered ++ []) (d.trace ++ Crashed p ∷ []) refl (none-more d.offered)
      (steps.step-keeps meaning laws (system_of d.members d.offered d.trace) (agree.Crash p) x.agreed (ap is_some (ap (option_and_then core_of) there ∙ c.1)))

  crash-keeps : (d : Deployment S) (p : Address) (m : MemberModel S) → IsDeployment d → d.members p ≡ Some m → IsDeployment (after d (Crash p))
  crash-keeps d p m x there = record {
    agreed = crash-agreed d p m x there;
    spelled = still-spelled d.offered x.spelled;
    here = here-with group p None d.members (λ k e. absurd (none-some k e)) x.here;
  }

  what-is : (o : Option (MemberModel S)) → is_some o ≡ true → (m : MemberModel S) × (o ≡ Some m)
  what-is None e = absurd (let bad : false ≡ true = e in cc)
  what-is (Some m) e = (m, refl)

  -- ---- a call

  module _ (d : Deployment S) (p : Address) (m left : MemberModel S) (input : Input) (x : IsDeployment d) (there : d.members p ≡ Some m) where
    is-here : IsHere group p m
    is-here = x.here p m there

    core-is : (c : Core S) × (core_of m ≡ Some c)
    core-is = state-core m.address m.member_state is-here.runs

    left-by : (b : Bool) (k : MemberModel S) → is_some left.member_state ≡ b → left.address ≡ m.address → left.group ≡ m.group → IsAlive (who left.address left.group) left.member_state → cond b (Some left) None ≡ Some k → IsHere group p k
    left-by false k runs address same alive e = absurd (none-some k e)
    left-by true k runs address same alive e =
        subst (IsHere group p) (same_Some left k e) (record { address = address ∙ is-here.address; group_is = same ∙ is-here.group_is; runs = runs; alive = alive })

    left-here : left.address ≡ m.address → left.group ≡ m.group → IsAlive (who left.address left.group) left.member_state → AreHere group (with_member p (running_on left) d.members)
    left-here address same alive = here-with group p (running_on left) d.members (λ k e. left-by (is_some left.member_state) k refl address same alive e) x.here

    -- that is taken
    module _ (out : Output) (did : HasActed meaning m input out left) (may : MayBeHanded group d.offered input) where
      sound : EachSound group did.posted
      sound = subst (λ (g : List ℕ). AllByRecursion (λ k. IsPacket (packet_in g k)) did.posted) is-here.group_is did.sound

      bytes-are : map bytes_of out.packets.items ≡ bytes_for group did.posted
      bytes-are = ap (map bytes_of) did.spelled ∙ ap (λ (g : List ℕ). map bytes_of (map (spelled g) did.posted)) is-here.group_is

      comes : Comes (posts_in d.offered) core-is.0 (came_at m input)
      comes = input-comes group d.offered m core-is.0 core-is.1 is-here.group_is input x.spelled may

      taken-agreed : Holding (system_of (with_member p (running_on left) d.members) (d.offered ++ map bytes_of out.packets.items) (d.trace ++ out.events.items))
      taken-agreed =
          to-system p (running_on left) (core_of left) d.members (d.offered ++ map bytes_of out.packets.items) (posts_in d.offered ++ did.posted) (d.trace ++ out.events.items)
          (on-core left) (ap (λ (l : List (List ℕ)). posts_in (d.offered ++ l)) bytes-are ∙ posts-more group d.offered did.posted sound)
          (call.acted-keeps meaning laws (system_of d.members d.offered d.trace) p core-is.0 (core_of left) comes.which (came_at m input) did.posted out.events.items x.agreed
          (ap (option_and_then core_of) there ∙ core-is.1) comes.from comes.none
          (subst (λ (o : Option (Core S)). Acted meaning (came_at m input) o did.posted out.events.items (core_of left)) core-is.1 did.acted))

      taken-spelled : EachSpelled group (d.offered ++ map bytes_of out.packets.items)
      taken-spelled = subst (λ (l : List (List ℕ)). EachSpelled group (d.offered ++ l)) (sym bytes-are)
          (spelled-more group d.offered (bytes_for group did.posted) x.spelled (posted-spelled group did.posted sound))

    -- that fails: it runs on as it was, or has ended
    ended-is : core_of left ≡ None → is_some left.member_state ≡ true → left ≡ m
    ended-is none runs = let c = state-core left.address left.member_state runs in absurd (none-some c.0 (sym none ∙ c.1))

    same-by : (b u : Bool) (e : Error) → (b ≡ true → core_of left ≡ None) → is_some left.member_state ≡ true
        → MatchBool b (refusal_of m input ≡ None) (MatchBool u ((e ≡ Refused refusal.Closed) × (core_of left ≡ None)) ((refusal_of m input ≡ Some e) × (left ≡ m))) → left ≡ m
    same-by true u e lost runs r = ended-is (lost refl) runs
    same-by false true e lost runs r = ended-is r.1 runs
    same-by false false e lost runs r = r.1

    same-left : (e : Error) → is_some left.member_state ≡ true → Handled meaning m input (Err e) left → left ≡ m
    same-left e runs h = same-by (is_memory e) (is_unreadable meaning m input) e (λ b. (h.memory (ap Err (memory-is e b))).0) runs h.refused

    still-agreed : left ≡ m → Holding (system_of (with_member p (Some left) d.members) (d.offered ++ []) (d.trace ++ []))
    still-agreed same =
        to-system p (Some left) (Some core-is.0) d.members (d.offered ++ []) (posts_in d.offered ++ []) (d.trace ++ []) (ap core_of same ∙ core-is.1) (none-more d.offered)
        (call.acted-keeps meaning laws (system_of d.members d.offered d.trace) p core-is.0 (Some core-is.0) None None [] [] x.agreed
        (ap (option_and_then core_of) there ∙ core-is.1) refl (λ e. refl) (nothing-acted meaning None (Some core-is.0)))

    fails-by : (b : Bool) (e : Error) → is_some left.member_state ≡ b → Handled meaning m input (Err e) left
        → IsDeployment (record { members = with_member p (cond b (Some left) None) d.members; offered = d.offered ++ []; trace = d.trace ++ cond b [] (Crashed p ∷ []) })
    fails-by true e runs h = record {
      agreed = still-agreed (same-left e runs h);
      spelled = still-spelled d.offered x.spelled;
      here = here-with group p (Some left) d.members (λ k at. left-by true k runs h.address h.group h.alive at) x.here;
    }
    fails-by false e runs h = record {
      agreed = crash-agreed d p m x there;
      spelled = still-spelled d.offered x.spelled;
      here = here-with group p None d.members (λ k at. absurd (none-some k at)) x.here;
    }

    pub call-keeps : (result : Result Output Error) → Handled meaning m input result left → MayBeHanded group d.offered input → IsDeployment (after d (Call p input result left))
    call-keeps (Ok out) h may = record { agreed = taken-agreed out h.acted may; spelled = taken-spelled out h.acted may; here = left-here h.address h.group h.alive }
    call-keeps (Err e) h may = fails-by (is_some left.member_state) e refl h

  -- ---- any step, and any number of them

  pub step-keeps : (d : Deployment S) (step : Step S) → IsDeployment d → DoesSo meaning group d step → StartsOnce d step → HandsOver group d step → IsDeployment (after d step)
  step-keeps d (Start p m) x does once over = start-keeps d p m x does once
  step-keeps d (Call p input result left) x does once over = call-keeps d p does.member left input x does.runs result does.handled over
  step-keeps d (Crash p) x does once over = let m = what-is (d.members p) does in crash-keeps d p m.0 x m.1

  pub steps-keep : (d : Deployment S) (all : List (Step S)) → IsDeployment d → EachStep (DoesSo meaning group) d all → EachStep StartsOnce d all → EachStep (HandsOver group) d all
      → IsDeployment (after_steps d all)
  steps-keep d [] x does once over = x
  steps-keep d (s ∷ all) x does once over = steps-keep (after d s) all (step-keeps d s x does.0 once.0 over.0) does.1 once.1 over.1

module _ {S : Type 0} (meaning : Meaning S) where
  pub are-synchronous : steps.Laws meaning → AreSynchronous meaning
  are-synchronous laws group all h = (steps-keep meaning laws group nothing_yet all (nothing meaning laws group) h.does h.once h.network).agreed.agreed.trace.synchronous
