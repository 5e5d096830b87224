-- Whom a catch-up is about, and how its first steps go.
use Rattle.std.proofs.Common.{◌≡◌, ℕ, Bool, true, false, cond, Option, Some, None, length, refl, sym, ap, ◌∙◌, subst}
use Rattle.std.specs.Prelude.{◌||◌, is_some}
use Rattle.std.specs.Option.{option_map, option_map_or, option_and_then}
use Rattle.std.proofs.lemmas.Bool.{and_parts}
use Rattle.std.proofs.lemmas.Option.{none-some, same_Some}
use Rattle.address.specs.Ids.{Address, ViewId, same_address, same_view_id}
use Rattle.view.specs.Members.{View}
use Rattle.wire_values.specs.declared.packet.Body.TheVariants as bodies
use Rattle.wire_values.specs.Posted.{packet}
use Rattle.state_transfer.specs.Meanings.{Meaning}
use Rattle.address.proofs.SameIds.{same_address-refl, same_address-true, same_address-sym, same_view_id-true}
use Rattle.law_acts.specs.Cores.{Core, is_frozen}
use Rattle.law_acts.proofs.KeepBySteps
use Rattle.traffic.specs.declared.coordinator.Coordinator.{Coordinator}
use Rattle.traffic.specs.declared.follower.Follower.{Follower}
use Rattle.traffic.specs.declared.view_state.ViewState.{ViewState}
use Rattle.traffic.specs.declared.view_state.ViewState.TheVariants as kinds
use Rattle.traffic.specs.ViewStates.{view_of}
use Rattle.traffic.specs.Takes.{progress_of}
use Rattle.membership.specs.declared.member_state.MemberState.{MemberState}
use Rattle.membership.specs.MemberStates.{core_of as core_at}
use Rattle.member_rules.specs.Ordered.{IsOrderly}
use Rattle.member.specs.Members.{MemberModel}
use Rattle.world_model.specs.declared.WorldEvent.TheVariants.{Deliver, Tick}
use Rattle.world_model.specs.Histories.{last_of, is_connected}
use Rattle.world.specs.declared.gaps.Pair.{Pair}
use Rattle.world.specs.declared.node_state.NodeState.{NodeState}
use Rattle.world.specs.declared.node_state.NodeState.TheVariants.{Vacant, Ended, Running}
use Rattle.world.proofs.MembersAtNodes
use Rattle.world.proofs.MembersAsSystem.{system_of}
use Rattle.world.specs.Invariant.{IsWorld, IsNodeStateOf}
use Rattle.world.specs.Worlds.{WorldModel}
use Rattle.world.specs.Pools.{first_for}
use Rattle.world.specs.Plays.{lacks_memory, Plays}
use Rattle.world.specs.Gaps.{open_view, is_open_in, pair_of, pair_in, pair_at, Hands}
use Rattle.world.proofs.PairsCompared
use Rattle.world.proofs.KeepOfWorlds
use Rattle.world.proofs.RepliesPlayed
use Rattle.world.proofs.Standing
use Rattle.world.proofs.CatchUpLevels

-- ---- one that is open in a view

module _ {S : Type 0} where
  pub record IsOpen (m : MemberModel S) (v : View) : Type 0 where
    pub member_state : MemberState S
    pub view_state : ViewState
    pub lives : m.member_state ≡ Some member_state
    pub keeps : member_state.view_state ≡ Some view_state
    pub view : view_of view_state ≡ v
    pub installed : member_state.promise.is_installed ≡ true

  open-by : (m : MemberModel S) (v : View) (l : MemberState S) (t : ViewState) (b : Bool) → m.member_state ≡ Some l → l.view_state ≡ Some t → l.promise.is_installed ≡ b
      → cond (is_frozen (Some (view_of t)) b) None (Some (view_of t)) ≡ Some v → IsOpen m v
  open-by m v l t true lives keeps inst e = record { member_state = l; view_state = t; lives = lives; keeps = keeps; view = same_Some (view_of t) v e; installed = inst }
  open-by m v l t false lives keeps inst e = absurd (none-some v e)

  open-member_state : (m : MemberModel S) (v : View) (l : MemberState S) (o : Option ViewState) → m.member_state ≡ Some l → l.view_state ≡ o
      → cond (is_frozen (option_map view_of o) l.promise.is_installed) None (option_map view_of o) ≡ Some v → IsOpen m v
  open-member_state m v l None lives keeps e = absurd (none-some v e)
  open-member_state m v l (Some t) lives keeps e = open-by m v l t l.promise.is_installed lives keeps refl e

  pub open-is : (m : MemberModel S) (v : View) → open_view (Running m) ≡ Some v → IsOpen m v
  open-is m v e = by m.member_state refl e
    where
      by : (o : Option (MemberState S)) → m.member_state ≡ o
          → option_and_then (λ (c : Core S). cond (is_frozen c.view c.installed) None c.view) (option_map (core_at m.address) o) ≡ Some v → IsOpen m v
      by None lives x = absurd (none-some v x)
      by (Some l) lives x = open-member_state m v l l.view_state lives refl x

  -- where a member of an address is open in a view of an id
  pub record IsOpenIn (p : Address) (v : ViewId) (s : NodeState S) : Type 0 where
    pub member : MemberModel S
    pub node_state : s ≡ Running member
    pub address : member.address ≡ p
    pub view : View
    pub opens : open_view (Running member) ≡ Some view
    pub id : view.id ≡ v

  viewed : (m : MemberModel S) (p : Address) (v : ViewId) (s : NodeState S) (o : Option View) → s ≡ Running m → m.address ≡ p → open_view (Running m) ≡ o
      → option_map_or (λ (w : View). same_view_id w.id v) o false ≡ true → IsOpenIn p v s
  viewed m p v s None node_state is e x = absurd (let bad : false ≡ true = x in cc)
  viewed m p v s (Some w) node_state is e x = record { member = m; node_state = node_state; address = is; view = w; opens = e; id = same_view_id-true w.id v x }

  pub open-in : (p : Address) (v : ViewId) (s : NodeState S) → is_open_in p v s ≡ true → IsOpenIn p v s
  open-in p v Vacant x = absurd (let bad : false ≡ true = x in cc)
  open-in p v (Ended q) x = absurd (let bad : false ≡ true = x in cc)
  open-in p v (Running m) x =
      let both = and_parts (same_address m.address p) (option_map_or (λ w. same_view_id w.id v) (open_view (Running m)) false) x in
      viewed m p v (Running m) (open_view (Running m)) refl (same_address-true m.address p both.0) refl both.1

  -- ---- a pair

  pub record IsPair (at : ℕ → NodeState S) (n : ℕ) (pair : Pair) : Type 0 where
    pub member : MemberModel S
    pub node_state : at n ≡ Running member
    pub address : member.address ≡ pair.member
    pub view : View
    pub opens : open_view (Running member) ≡ Some view
    pub id : view.id ≡ pair.view
    pub apart : same_address pair.view.creator pair.member ≡ false
    pub first : is_open_in pair.view.creator pair.view (at pair.view.creator.node) ≡ true

  paired : (at : ℕ → NodeState S) (n : ℕ) (pair : Pair) (m : MemberModel S) (v : View) (a b : Bool) → at n ≡ Running m → open_view (Running m) ≡ Some v
      → same_address v.id.creator m.address ≡ a → is_open_in v.id.creator v.id (at v.id.creator.node) ≡ b
      → cond a None (cond b (Some (record { member = m.address; view = v.id })) None) ≡ Some pair → IsPair at n pair
  paired at n pair m v true b node_state opens same first e = absurd (none-some pair e)
  paired at n pair m v false false node_state opens same first e = absurd (none-some pair e)
  paired at n pair m v false true node_state opens same first e =
      subst (IsPair at n) (same_Some _ pair e)
      (record { member = m; node_state = node_state; address = refl; view = v; opens = opens; id = refl; apart = same; first = first })

  pub pair-is : (at : ℕ → NodeState S) (n : ℕ) (pair : Pair) → pair_at at n ≡ Some pair → IsPair at n pair
  pair-is at n pair e = by (at n) refl e
    where
      viewed-by : (m : MemberModel S) (o : Option View) → at n ≡ Running m → open_view (Running m) ≡ o → option_and_then (λ (w : View). pair_of at m.address w.id) o ≡ Some pair → IsPair at n pair
      viewed-by m None node_state opens x = absurd (none-some pair x)
      viewed-by m (Some v) node_state opens x = paired at n pair m v _ _ node_state opens refl refl x

      by : (s : NodeState S) → at n ≡ s → pair_in at s ≡ Some pair → IsPair at n pair
      by Vacant node_state x = absurd (none-some pair x)
      by (Ended p) node_state x = absurd (none-some pair x)
      by (Running m) node_state x = viewed-by m (open_view (Running m)) node_state refl x

-- ---- a catch-up

module _ {S : Type 0} (meaning : Meaning S) (laws : KeepBySteps.Laws meaning) where
  abbrev pub Keeps : WorldModel S → Type 0
  Keeps w = IsWorld meaning w.node_states w.history

  abbrev Couple : WorldModel S → Address → Address → MemberState S → MemberState S → Coordinator → Follower → Type 0
  Couple w c q lc lq kc kq = CatchUpLevels.Couple meaning laws w c q lc lq kc kq

  -- who runs at a node, as it runs
  node_state-of : (w : WorldModel S) (n : ℕ) (m : MemberModel S) → Keeps w → w.node_states n ≡ Running m → IsNodeStateOf n (last_of n w.history.trace) (is_connected n w.history) w.history.trace (Running m)
  node_state-of w n m keeps node_state = subst (IsNodeStateOf n (last_of n w.history.trace) (is_connected n w.history) w.history.trace) node_state (keeps.node_states n)

  pub runs-open : (w : WorldModel S) (n : ℕ) (p : Address) (m : MemberModel S) (v : View) → Keeps w → w.node_states n ≡ Running m → m.address ≡ p → (o : IsOpen m v)
      → RepliesPlayed.RunsAs meaning w p o.member_state o.view_state
  runs-open w n p m v keeps node_state is o =
      let k = node_state-of w n m keeps node_state in
      let here = MembersAtNodes.is-here meaning laws w.node_states w.history n m keeps node_state k.1 in
      let node : p.node ≡ n = ap (λ (q : Address). q.node) (sym is) ∙ k.1 in
      record {
        stands = record {
          member = m;
          node_state = ap (λ (j : ℕ). w.node_states j) node ∙ node_state;
          address = is;
          group = here.group_is;
          member_state = o.lives;
          connected = ap (λ (z : Option ViewState). is_some z || is_some o.member_state.contact) o.keeps;
        };
        view_state = o.keeps;
        installed = o.installed;
      }

  pub orderly-of : (w : WorldModel S) (n : ℕ) (p : Address) (m : MemberModel S) (v : View) → Keeps w → w.node_states n ≡ Running m → m.address ≡ p → (o : IsOpen m v) → IsOrderly p o.view_state
  orderly-of w n p m v keeps node_state is o =
      let k = MembersAtNodes.is-here meaning laws w.node_states w.history n m keeps node_state (node_state-of w n m keeps node_state).1 in
      subst (λ (q : Address). IsOrderly q o.view_state) is ((k.alive o.member_state o.lives).ordered o.view_state o.keeps)

  pub record Found (w : WorldModel S) (pair : Pair) : Type 0 where
    pub first : MemberState S
    pub other : MemberState S
    pub leads : Coordinator
    pub follows : Follower
    pub couple : Couple w pair.view.creator pair.member first other leads follows
    pub id : leads.view.id ≡ pair.view

  module _ (w : WorldModel S) (pair : Pair) (keeps : Keeps w) (apart : same_address pair.view.creator pair.member ≡ false) where
    abbrev c : Address
    c = pair.view.creator

    abbrev q : Address
    q = pair.member

    joined : (lc lq : MemberState S) (kc : Coordinator) (kq : Follower) → RepliesPlayed.RunsAs meaning w c lc (kinds.Coordinator kc)
        → RepliesPlayed.RunsAs meaning w q lq (kinds.Follower kq) → kc.view.id ≡ pair.view → kq.view.id ≡ pair.view → Found w pair
    joined lc lq kc kq rc rq ic iq =
        let one = PairsCompared.one-view meaning (system_of w.node_states w.history.pool w.history.trace) (MembersAtNodes.agreed meaning laws w.node_states w.history keeps).agreed c q (core_at c lc) (core_at q lq) kc.view kq.view
        (CatchUpLevels.runs-in meaning laws w c lc (kinds.Coordinator kc) rc) (CatchUpLevels.runs-in meaning laws w q lq (kinds.Follower kq) rq)
        (rw rc.view_state refl) (rw rq.view_state refl) (iq ∙ sym ic) in
        record {
          first = lc;
          other = lq;
          leads = kc;
          follows = kq;
          couple = record { keeps = keeps; first = rc; other = rq; own = ap (λ (v : ViewId). v.creator) ic; same = one; apart = same_address-sym q c ∙ apart };
          id = ic;
        }

    -- the coordinator of a view keeps what a coordinator does, and another member what another does
    kinds-by : (lc lq : MemberState S) (tc tq : ViewState) → RepliesPlayed.RunsAs meaning w c lc tc → RepliesPlayed.RunsAs meaning w q lq tq → IsOrderly c tc → IsOrderly q tq
        → (view_of tc).id ≡ pair.view → (view_of tq).id ≡ pair.view → Found w pair
    kinds-by lc lq (kinds.Follower k) tq rc rq oc oq ic iq =
        let bad : true ≡ false = sym (same_address-refl c) ∙ ap (λ (v : ViewId). same_address c v.creator) (sym ic) ∙ oc.0 in
        absurd cc
    kinds-by lc lq (kinds.Coordinator k) (kinds.Coordinator j) rc rq oc oq ic iq =
        let bad : true ≡ false = sym oq.0.coordinator ∙ ap (λ (v : ViewId). same_address q v.creator) iq ∙ same_address-sym q c ∙ apart in
        absurd cc
    kinds-by lc lq (kinds.Coordinator k) (kinds.Follower j) rc rq oc oq ic iq = joined lc lq k j rc rq ic iq

  pub found : (w : WorldModel S) (n : ℕ) (pair : Pair) → Keeps w → pair_at w.node_states n ≡ Some pair → Found w pair
  found w n pair keeps e =
      let x = pair-is w.node_states n pair e in
      let f = open-in pair.view.creator pair.view (w.node_states pair.view.creator.node) x.first in
      let oq = open-is x.member x.view x.opens in
      let oc = open-is f.member f.view f.opens in
      kinds-by w pair keeps x.apart oc.member_state oq.member_state oc.view_state oq.view_state
      (runs-open w pair.view.creator.node pair.view.creator f.member f.view keeps f.node_state f.address oc)
      (runs-open w n pair.member x.member x.view keeps x.node_state x.address oq)
      (orderly-of w pair.view.creator.node pair.view.creator f.member f.view keeps f.node_state f.address oc)
      (orderly-of w n pair.member x.member x.view keeps x.node_state x.address oq)
      (ap (λ (v : View). v.id) oc.view ∙ f.id) (ap (λ (v : View). v.id) oq.view ∙ x.id)

  -- ---- level

  keeps-on : (old new : WorldModel S) (e : _) → Plays meaning old e new → Keeps old → Keeps new
  keeps-on old new e x w = KeepOfWorlds.step-keeps meaning laws old new e x.step w

  -- after the tick
  pub announced-so : (old announced : WorldModel S) (pair : Pair) (f : Found old pair) → Plays meaning old (Tick pair.view.creator.node) announced
      → CatchUpLevels.AnnouncedSo meaning laws old announced pair.view.creator pair.member f.first f.other f.leads f.follows
  announced-so old announced pair f x =
      let t = CatchUpLevels.sure meaning laws (lacks_memory x.step.answer) x.whole (RepliesPlayed.ticked meaning old announced pair.view.creator f.first f.leads f.couple.first x.step) in
      CatchUpLevels.announced-by meaning laws old announced pair.view.creator pair.member f.first f.other f.leads f.follows f.couple
      (keeps-on old announced (Tick pair.view.creator.node) x f.couple.keeps) t

  -- after the STATUS
  pub asked-so : (old announced asked : WorldModel S) (pair : Pair) (f : Found old pair) (t : CatchUpLevels.AnnouncedSo meaning laws old announced pair.view.creator pair.member f.first f.other f.leads f.follows)
      → Hands meaning (first_for pair.member (length old.history.pool) announced.history.pool) announced asked
      → CatchUpLevels.AskedSo meaning laws announced asked pair.view.creator pair.member f.first f.leads f.follows
  asked-so old announced asked pair f t hands =
      let x : Plays meaning announced (Deliver t.number) asked =
      subst (λ (o : Option ℕ). Hands meaning o announced asked) t.found hands in
      let m = packet pair.view.creator (bodies.Status f.leads.view.id (progress_of f.leads.window)) pair.member in
      let h = CatchUpLevels.sure meaning laws (lacks_memory x.step.answer) x.whole
      (Standing.heard meaning laws announced asked t.couple.keeps t.number pair.member f.other t.couple.other.stands m t.status x.step) in
      CatchUpLevels.asked-by meaning laws announced asked pair.view.creator pair.member f.first f.other f.leads f.follows t.couple
      (keeps-on announced asked (Deliver t.number) x t.couple.keeps) h
