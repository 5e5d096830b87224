-- Whether there are the two whom a catch-up is about, as the trace says.
use Rattle.std.proofs.Common.{◌≡◌, ℕ, Bool, true, false, cond, not, ◌&&◌, Option, Some, None, List, refl, sym, subst}
use Rattle.std.specs.Prelude.{is_some}
use Rattle.std.specs.Option.{option_eq, option_map_or, option_and_then}
use Rattle.address.specs.Ids.{Address, ViewId, same_address, same_view_id}
use Rattle.view.specs.Members.{View}
use Rattle.state_transfer.specs.Meanings.{Meaning}
use Rattle.trace_props.specs.declared.event.Event.{Event}
use Rattle.trace_props.specs.Observed.{current_view, is_blocked}
use Rattle.address.proofs.SameIds.{same_address-true}
use Rattle.law_acts.specs.Cores.{Core, id_of, is_frozen}
use Rattle.law_acts.proofs.KeepBySteps
use Rattle.member.specs.Members.{MemberModel}
use Rattle.world_model.specs.Histories.{History, running}
use Rattle.world.specs.declared.gaps.Pair.{Pair}
use Rattle.world.specs.declared.node_state.NodeState.{NodeState}
use Rattle.world.specs.declared.node_state.NodeState.TheVariants.{Vacant, Ended, Running}
use Rattle.world.specs.Gaps.{is_open_in, pair_of, pair_in, pair_at, runs_open_in, has_open_pair}
use Rattle.world.proofs.KeepByTurn
use Rattle.world.proofs.MembersAtNodes
use Rattle.world.proofs.WorldsAfterEvents

-- ---- one member

-- in a view of this id, and not blocked
inside-by : (b : Bool) (view : Option View) (v : ViewId) → option_map_or (λ w. same_view_id w.id v) (cond b None view) false ≡ not b && option_eq same_view_id (id_of view) (Some v)
inside-by true view v = refl
inside-by false None v = refl
inside-by false (Some w) v = refl

-- what a trace says of a member that runs
pub record Says (p : Address) (view : Option View) (installed : Bool) (t : List Event) : Type 0 where
  pub runs : running p.node t ≡ Some p
  pub current : current_view p t ≡ id_of view
  pub block : is_blocked p t ≡ is_frozen view installed

open-by : (b : Bool) (p q : Address) (view : Option View) (installed : Bool) (v : ViewId) (t : List Event) → same_address p q ≡ b → running q.node t ≡ Some p → Says p view installed t
    → b && option_map_or (λ w. same_view_id w.id v) (cond (is_frozen view installed) None view) false ≡ runs_open_in q v t
open-by true p q view installed v t same here s =
    let e : p ≡ q = same_address-true p q same in
    let block : is_blocked q t ≡ is_frozen view installed = subst (λ (a : Address). is_blocked a t ≡ is_frozen view installed) e s.block in
    let current : current_view q t ≡ id_of view = subst (λ (a : Address). current_view a t ≡ id_of view) e s.current in
    rw (here, same, block, current) (inside-by (is_frozen view installed) view v)
open-by false p q view installed v t same here s = rw (here, same) refl

module _ {S : Type 0} (meaning : Meaning S) (laws : KeepBySteps.Laws meaning) (at : ℕ → NodeState S) (h : History) (w : KeepByTurn.World meaning at h) where
  says : (n : ℕ) (m : MemberModel S) (c : Core S) → MembersAtNodes.Runs meaning h n m c → Says m.address c.view c.installed h.trace
  says n m c x = record {
    runs = subst (λ (k : ℕ). running k h.trace ≡ Some m.address) (sym x.node) (MembersAtNodes.is-running meaning h n m c x);
    current = x.fact.standing.current;
    block = x.fact.standing.block;
  }

  pub open-at : (s : NodeState S) (q : Address) (v : ViewId) → at q.node ≡ s → is_open_in q v s ≡ runs_open_in q v h.trace
  open-at Vacant q v e = rw (← WorldsAfterEvents.nobody-yet meaning at h q.node w e) refl
  open-at (Ended p) q v e = rw (← WorldsAfterEvents.nobody-more meaning at h q.node p w e) refl
  open-at (Running m) q v e =
      let x = MembersAtNodes.running-here meaning laws at h q.node m w e in
      let c = x.0 in
      rw x.1.core
      (open-by (same_address m.address q) m.address q c.view c.installed v h.trace refl (MembersAtNodes.is-running meaning h q.node m c x.1) (says q.node m c x.1))

  -- ---- the two

  found-by : (same there : Bool) (p : Address) (v : ViewId) → let pair : Pair = record { member = p; view = v } in is_some (cond same None (cond there (Some pair) None)) ≡ not same && there
  found-by true there p v = refl
  found-by false true p v = refl
  found-by false false p v = refl

  pair-is : (p : Address) (v : ViewId) → is_some (pair_of at p v) ≡ not (same_address v.creator p) && runs_open_in v.creator v h.trace
  pair-is p v =
      rw (← open-at (at v.creator.node) v.creator v refl)
      (found-by (same_address v.creator p) (is_open_in v.creator v (at v.creator.node)) p v)

  view-by : (b : Bool) (p : Address) (view : Option View)
      → is_some (option_and_then (λ (u : View). pair_of at p u.id) (cond b None view))
      ≡ option_map_or (λ v. not b && (not (same_address v.creator p) && runs_open_in v.creator v h.trace)) (id_of view) false
  view-by true p None = refl
  view-by true p (Some u) = refl
  view-by false p None = refl
  view-by false p (Some u) = pair-is p u.id

  pair-at : (n : ℕ) (s : NodeState S) → at n ≡ s → is_some (pair_in at s) ≡ has_open_pair n h.trace
  pair-at n Vacant e = rw (← WorldsAfterEvents.nobody-yet meaning at h n w e) refl
  pair-at n (Ended p) e = rw (← WorldsAfterEvents.nobody-more meaning at h n p w e) refl
  pair-at n (Running m) e =
      let x = MembersAtNodes.running-here meaning laws at h n m w e in
      let c = x.0 in
      let s = says n m c x.1 in
      let runs : running n h.trace ≡ Some m.address = MembersAtNodes.is-running meaning h n m c x.1 in
      rw (x.1.core, runs, s.current, s.block) (view-by (is_frozen c.view c.installed) m.address c.view)

  -- there are those two exactly where the trace says so
  pub open-pair-is : (n : ℕ) → is_some (pair_at at n) ≡ has_open_pair n h.trace
  open-pair-is n = pair-at n (at n) refl
