-- All members of a view, open in it: its coordinator and the others; what holds of them.
use Rattle.std.proofs.Common.{◌≡◌, ℕ, zero, suc, ◌+◌, ◌-◌, ◌<◌, ◌≤◌, Bool, true, false, Option, Some, None, List, [], ◌∷◌, ◌++◌, length, take, drop, nat_lt, inl, inr, ◌⊎◌, refl, sym, ap, ◌∙◌, subst, arith}
use Rattle.std.specs.Prelude.{slice_get, is_some}
use Rattle.std.proofs.lemmas.Option.{none-some, same_Some}
use Rattle.std.proofs.lemmas.Bool.Decides.{nat_tests}
use Rattle.std.proofs.lemmas.List.{length-append, length-take, take-append-drop}
use Rattle.std.proofs.lemmas.List.Elements.{filter_map-append}
use Rattle.address.specs.declared.limits.TheConstants.{WINDOW, OUTSTANDING}
use Rattle.address.specs.Ids.{Address, ViewId, same_address}
use Rattle.address.proofs.SameIds.{same_address-refl, same_address-true, same_address-sym}
use Rattle.view.specs.Members.{View, stands_in}
use Rattle.view.specs.View.{view_refusal}
use Rattle.state_transfer.specs.Meanings.{Meaning}
use Rattle.trace_props.specs.declared.event.Event.{Event}
use Rattle.trace_props.specs.declared.event.Numbered.{Numbered}
use Rattle.trace_props.specs.declared.event.Message.{Message}
use Rattle.trace_props.specs.Synchrony.{KeepsRules}
use Rattle.trace_props.specs.Observed.{entry_of, delivered_in, sent_in, own, own_by}
use Rattle.law_acts.specs.Cores.{ViewCore}
use Rattle.law_acts.specs.Packets.{HoldsAll}
use Rattle.wire_values.specs.Values.{held_at}
use Rattle.law_acts.specs.Words.{members_of, open_count, Tally}
use Rattle.trace_props.specs.declared.event.Install.{Install}
use Rattle.std.specs.Option.{option_map, option_map_or}
use Rattle.law_acts.specs.Members.{IsInside}
use Rattle.law_acts.proofs.KeepBySteps
use Rattle.law_acts.proofs.KeepTrace.{rules-of}
use Rattle.law_acts.proofs.Lists.{slice_get-right}
use Rattle.law_acts.proofs.OrderedDeliveries.{many-delivered}
use Rattle.traffic.specs.declared.coordinator.Coordinator.{Coordinator}
use Rattle.traffic.specs.declared.follower.Follower.{Follower}
use Rattle.traffic.specs.declared.view_state.ViewState.{ViewState}
use Rattle.traffic.specs.declared.view_state.ViewState.TheVariants as kinds
use Rattle.traffic.specs.ViewStates.{view_of, view_core_of, ordered_of}
use Rattle.membership.specs.declared.member_state.MemberState.{MemberState}
use Rattle.membership.specs.MemberStates.{core_of as core_at, view_core_in}
use Rattle.member_rules.specs.Ordered.{IsOrderly}
use Rattle.world.specs.Invariant.{IsWorld}
use Rattle.world.specs.Turns.{OthersStand}
use Rattle.world.specs.Worlds.{WorldModel}
use Rattle.world.specs.Gaps.{is_open_in}
use Rattle.world.specs.Calm.{AllOpen}
use Rattle.world.proofs.CatchUpLevels
use Rattle.world.proofs.CatchUpStops.{open-run}
use Rattle.world_model.proofs.FewOutstanding
use Rattle.world.proofs.MembersAtNodes
use Rattle.world.proofs.MembersAsSystem.{system_of}
use Rattle.world.proofs.RepliesPlayed
use Rattle.world.proofs.Standing

-- own messages of a beginning are no more
pub own-take : (q : Address) (n : ℕ) (l : List Message) → length (own q (take n l)) ≤ length (own q l)
own-take q n l =
    let e : own q l ≡ own q (take n l) ++ own q (drop n l) = ap (own q) (sym (take-append-drop n l)) ∙ filter_map-append (own_by q) (take n l) (drop n l) in
    let f : length (own q l) ≡ length (own q (take n l)) + length (own q (drop n l)) = ap length e ∙ length-append (own q (take n l)) (own q (drop n l)) in
    omega (arith, f)

-- what stands in a list stands before its end, and something stands at each place before that
pub slice_get-short : {X : Type 0} (l : List X) (j : ℕ) (x : X) → slice_get l j ≡ Some x → j < length l
slice_get-short [] j x at = absurd (none-some x at)
slice_get-short (y ∷ l) zero x at = omega arith
slice_get-short (y ∷ l) (suc j) x at = let z = slice_get-short l j x at in omega (arith, z)

pub slice_get-there : {X : Type 0} (l : List X) (j : ℕ) → j < length l → (x : X) × (slice_get l j ≡ Some x)
slice_get-there [] j short = absurd (omega (arith, short))
slice_get-there (y ∷ l) zero short = (y, refl)
slice_get-there (y ∷ l) (suc j) short = slice_get-there l j (omega (arith, short))

reach-by : (t : ViewCore) (b : Bool) → nat_lt t.stable t.delivered ≡ b → HoldsAll t.stable t.delivered t.held → ((g : ℕ) → is_some (held_at g t.held) ≡ true → g ≤ t.stable + WINDOW) → t.delivered ≤ t.stable + WINDOW
reach-by t true e all near = let low : t.stable < t.delivered = grind (arith, nat_tests) in near t.delivered (all t.delivered low (omega arith))
reach-by t false e all near = let low : t.delivered ≤ t.stable = grind (arith, nat_tests) in omega (arith, low)

members-by : (o : Option Install) (v : View) → option_map (λ (e : Install). e.view) o ≡ Some v → option_map_or (λ (e : Install). e.view.members) o [] ≡ v.members
members-by None v e = absurd (none-some v e)
members-by (Some x) v e = ap (λ (w : View). w.members) (same_Some x.view v e)

module _ {S : Type 0} (meaning : Meaning S) (laws : KeepBySteps.Laws meaning) where
  abbrev pub Keeps : WorldModel S → Type 0
  Keeps w = IsWorld meaning w.node_states w.history

  abbrev pub RunsAs : WorldModel S → Address → MemberState S → ViewState → Type 0
  RunsAs w p l t = RepliesPlayed.RunsAs meaning w p l t

  -- another member of the view
  pub record Another (w : WorldModel S) (v : View) (q : Address) : Type 0 where
    pub member_state : MemberState S
    pub follows : Follower
    pub runs : RunsAs w q member_state (kinds.Follower follows)
    pub view : follows.view ≡ v

  -- all of them
  pub record Group (w : WorldModel S) (c : Address) (l : MemberState S) (k : Coordinator) : Type 0 where
    pub keeps : Keeps w
    pub first : RunsAs w c l (kinds.Coordinator k)
    pub own : k.view.id.creator ≡ c
    pub sound : view_refusal k.view.id k.view.members ≡ None
    pub others : (q : Address) → stands_in q k.view.members ≡ true → same_address q c ≡ false → Another w k.view q

  pub couple : (w : WorldModel S) (c : Address) (l : MemberState S) (k : Coordinator) → Group w c l k → (q : Address) → same_address q c ≡ false → (a : Another w k.view q)
      → CatchUpLevels.Couple meaning laws w c q l a.member_state k a.follows
  couple w c l k g q other a = record { keeps = g.keeps; first = g.first; other = a.runs; own = g.own; same = a.view; apart = other }

  -- the coordinator did something
  pub first-moves : (old new : WorldModel S) (c : Address) (l after : MemberState S) (k now : Coordinator) → Group old c l k → Keeps new → RunsAs new c after (kinds.Coordinator now) → now.view ≡ k.view
      → OthersStand c.node old.node_states new.node_states → Group new c after now
  first-moves old new c l after k now g keeps runs view others = record {
    keeps = keeps;
    first = runs;
    own = ap (λ (v : View). v.id.creator) view ∙ g.own;
    sound = subst (λ (v : View). view_refusal v.id v.members ≡ None) (sym view) g.sound;
    others = λ q there other.
        let a = g.others q (ap (λ (v : View). stands_in q v.members) (sym view) ∙ there) other in
        record {
          member_state = a.member_state;
          follows = a.follows;
          runs = RepliesPlayed.runs-still meaning old q a.member_state (kinds.Follower a.follows) a.runs new c
              (Standing.nodes-apart meaning old c q l a.member_state g.first.stands a.runs.stands other) others;
          view = a.view ∙ sym view;
        };
  }

  -- another member did something
  pub other-moves : (old new : WorldModel S) (c : Address) (l : MemberState S) (k : Coordinator) → Group old c l k → Keeps new → (q : Address) → same_address q c ≡ false
      → (lq after : MemberState S) (kq now : Follower) → RunsAs old q lq (kinds.Follower kq) → RunsAs new q after (kinds.Follower now) → now.view ≡ k.view → OthersStand q.node old.node_states new.node_states
      → Group new c l k
  other-moves old new c l k g keeps q other lq after kq now before runs view stand = record {
    keeps = keeps;
    first = RepliesPlayed.runs-still meaning old c l (kinds.Coordinator k) g.first new q (Standing.nodes-apart meaning old q c lq l before.stands g.first.stands (same_address-sym c q ∙ other)) stand;
    own = g.own;
    sound = g.sound;
    others = λ p there apart. by p (same_address p q) refl (g.others p there apart);
  }
    where
      by : (p : Address) (b : Bool) → same_address p q ≡ b → Another old k.view p → Another new k.view p
      by p true is a =
          let e : q ≡ p = sym (same_address-true p q is) in
          subst (λ (z : Address). Another new k.view z) e (record { member_state = after; follows = now; runs = runs; view = view })
      by p false is a = record {
        member_state = a.member_state;
        follows = a.follows;
        runs = RepliesPlayed.runs-still meaning old p a.member_state (kinds.Follower a.follows) a.runs new q (Standing.nodes-apart meaning old q p lq a.member_state before.stands a.runs.stands is) stand;
        view = a.view;
      }

  -- all of them are open in the view
  pub group-open : (w : WorldModel S) (c : Address) (l : MemberState S) (k : Coordinator) → Group w c l k → AllOpen k.view w
  group-open w c l k g q there = by (same_address q c) refl
    where
      by : (b : Bool) → same_address q c ≡ b → is_open_in q k.view.id (w.node_states q.node) ≡ true
      by true e =
          subst (λ (z : Address). is_open_in z k.view.id (w.node_states z.node) ≡ true) (sym (same_address-true q c e)) (open-run meaning w c l (kinds.Coordinator k) k.view.id g.first refl)
      by false e = let a = g.others q there e in open-run meaning w q a.member_state (kinds.Follower a.follows) k.view.id a.runs (ap (λ (v : View). v.id) a.view)

  -- ---- what holds of the coordinator between its steps

  pub orderly : (w : WorldModel S) (c : Address) (l : MemberState S) (k : Coordinator) → Group w c l k → IsOrderly c (kinds.Coordinator k)
  orderly w c l k g =
      let m = g.first.stands.member in
      let h = MembersAtNodes.is-here meaning laws w.node_states w.history c.node m g.keeps g.first.stands.node_state (ap (λ (p : Address). p.node) g.first.stands.address) in
      subst (λ (p : Address). IsOrderly p (kinds.Coordinator k)) g.first.stands.address ((h.alive l g.first.stands.member_state).ordered (kinds.Coordinator k) g.first.view_state)

  -- ---- what the trace says of a member

  pub record Facts (w : WorldModel S) (p : Address) (v : View) (t : ViewCore) : Type 0 where
    pub inside : IsInside w.history.trace p v
    pub delivered : length (delivered_in p v.id w.history.trace) ≡ t.delivered
    pub mine : sent_in p v.id w.history.trace ≡ own p (delivered_in p v.id w.history.trace) ++ t.outstanding
    pub count : length (sent_in p v.id w.history.trace) ≡ t.sent
    pub ordered : (q : Address) → same_address p v.id.creator ≡ true → t.ordered q ≡ length (own q (delivered_in p v.id w.history.trace))
    pub low : t.stable ≤ t.delivered
    pub reach : t.delivered ≤ t.stable + WINDOW

  pub facts : (w : WorldModel S) (p : Address) (l : MemberState S) (t : ViewState) → Keeps w → RunsAs w p l t → Facts w p (view_of t) (view_core_of t)
  facts w p l t keeps r =
      let f = ((Standing.agreed-in meaning laws w keeps).agreed.members p (core_at p l) (Standing.runs-in meaning w p l r.stands)).view (view_of t) (rw r.view_state refl) in
      let a : view_core_in l.view_state ≡ view_core_of t = rw r.view_state refl in
      record {
        inside = f.inside;
        delivered = sym (many-delivered p (view_of t).id w.history.trace) ∙ f.counts.delivered_count ∙ ap (λ (z : ViewCore). z.delivered) a;
        mine = f.mine.sent ∙ ap (λ (z : ViewCore). own p (delivered_in p (view_of t).id w.history.trace) ++ z.outstanding) a;
        count = f.mine.count ∙ ap (λ (z : ViewCore). z.sent) a;
        ordered = λ q is. ap (λ (z : ViewCore). z.ordered q) (sym a) ∙ f.ordered q is;
        reach = subst (λ (z : ViewCore). z.delivered ≤ z.stable + WINDOW) a (reach-by (view_core_in l.view_state) (nat_lt (view_core_in l.view_state).stable (view_core_in l.view_state).delivered) refl f.window.all f.window.near);
        low =
            let u = (view_of t).id in
            let members : members_of u w.history.trace ≡ (view_of t).members = members-by (entry_of u.creator u w.history.trace) (view_of t) f.inside.first in
            let x : (view_core_in l.view_state).stable ≤ open_count p u w.history.trace + 0 = f.window.all_have p (subst (λ (z : List Address). stands_in p z ≡ true) (sym members) f.inside.listed) in
            let y : open_count p u w.history.trace ≡ (view_core_in l.view_state).delivered = ap (λ (z : Tally). z.count) f.counts.tally in
            subst (λ (z : ViewCore). z.stable ≤ z.delivered) a (omega (arith, x, y));
      }

  -- at most eight of its messages are outstanding
  pub few-outstanding : (w : WorldModel S) (p : Address) (l : MemberState S) (t : ViewState) → Keeps w → RunsAs w p l t → length (view_core_of t).outstanding ≤ OUTSTANDING
  few-outstanding w p l t keeps r =
      let f = facts w p l t keeps r in
      let v = (view_of t).id in
      let mine = own p (delivered_in p v w.history.trace) in
      let parts : length (sent_in p v w.history.trace) ≡ length mine + length (view_core_of t).outstanding = ap length f.mine ∙ length-append mine (view_core_of t).outstanding in
      let few = FewOutstanding.few w.history keeps.faithful p v in
      omega (arith, parts, few)

  -- ---- the coordinator, and another member

  module _ (w : WorldModel S) (c : Address) (l : MemberState S) (k : Coordinator) (g : Group w c l k) (q : Address) (there : stands_in q k.view.members ≡ true) (other : same_address q c ≡ false) (lq : MemberState S) (kq : Follower)
      (r : RunsAs w q lq (kinds.Follower kq)) (same : kq.view ≡ k.view) where
    abbrev t : List Event
    t = w.history.trace

    abbrev v : ViewId
    v = k.view.id

    pub facts-other : Facts w q k.view (view_core_of (kinds.Follower kq))
    facts-other = subst (λ (u : View). Facts w q u (view_core_of (kinds.Follower kq))) same (facts w q lq (kinds.Follower kq) g.keeps r)

    pub facts-first : Facts w c k.view (view_core_of (kinds.Coordinator k))
    facts-first = facts w c l (kinds.Coordinator k) g.keeps g.first

    pub rules : KeepsRules meaning t
    rules = rules-of meaning (system_of w.node_states w.history.pool w.history.trace).history (Standing.agreed-in meaning laws w g.keeps).agreed.trace

    -- the coordinator ordered at least as many of its messages as it delivered
    pub ordered-least : length (own q (delivered_in q v t)) ≤ ordered_of k.orderer.queues q
    ordered-least =
        let one : delivered_in q v t ≡ take (length (delivered_in q v t)) (delivered_in v.creator v t) = rules.ordered.order q v in
        let a : length (own q (delivered_in q v t)) ≤ length (own q (delivered_in v.creator v t)) =
        subst (λ (z : List Message). length (own q z) ≤ length (own q (delivered_in v.creator v t))) (sym one) (own-take q (length (delivered_in q v t)) (delivered_in v.creator v t)) in
        let b : length (own q (delivered_in v.creator v t)) ≡ length (own q (delivered_in c v t)) = ap (λ (p : Address). length (own q (delivered_in p v t))) g.own in
        let d : ordered_of k.orderer.queues q ≡ length (own q (delivered_in c v t)) = facts-first.ordered q (ap (same_address c) g.own ∙ same_address-refl c) in
        omega (arith, a, b, d)

    -- and no more than it sent
    pub ordered-most : ordered_of k.orderer.queues q ≤ length (sent_in q v t)
    ordered-most =
        let d : ordered_of k.orderer.queues q ≡ length (own q (delivered_in c v t)) = facts-first.ordered q (ap (same_address c) g.own ∙ same_address-refl c) in
        let one : own q (delivered_in c v t) ≡ take (length (own q (delivered_in c v t))) (sent_in q v t) = rules.ordered.messages.in_turn c q v in
        let m : length (own q (delivered_in c v t)) ≡ length (take (length (own q (delivered_in c v t))) (sent_in q v t)) = ap length one in
        let n = length-take (length (own q (delivered_in c v t))) (sent_in q v t) in
        omega (arith, d, m, n)

    pub sent-parts : length (sent_in q v t) ≡ length (own q (delivered_in q v t)) + length kq.forwards.rest
    sent-parts = ap length facts-other.mine ∙ length-append (own q (delivered_in q v t)) kq.forwards.rest

    -- the number of an outstanding message
    pub numbered-so : (j : ℕ) (f : Numbered) → slice_get kq.forwards.rest j ≡ Some f → f.number ≡ length (own q (delivered_in q v t)) + j + 1
    numbered-so j f at =
        let here : slice_get (sent_in q v t) (length (own q (delivered_in q v t)) + j) ≡ Some f = ap (λ (z : List Numbered). slice_get z (length (own q (delivered_in q v t)) + j)) facts-other.mine
        ∙ slice_get-right (own q (delivered_in q v t)) kq.forwards.rest j ∙ at in
        rules.ordered.messages.numbers q v (length (own q (delivered_in q v t)) + j) f here

    -- it is near: it is taken
    pub near : length kq.forwards.rest ≤ OUTSTANDING → (j : ℕ) (f : Numbered) → slice_get kq.forwards.rest j ≡ Some f → f.number ≤ ordered_of k.orderer.queues q + OUTSTANDING
    near few j f at =
        let n = numbered-so j f at in
        let low = ordered-least in
        let short = slice_get-short kq.forwards.rest j f at in
        omega (arith, n, low, short, few)

    -- each number that it sent was ordered, or is that of an outstanding message
    pub each-number : (n : ℕ) → n ≤ length (sent_in q v t) → (n ≤ ordered_of k.orderer.queues q) ⊎ ((j : ℕ) × (f : Numbered) × (slice_get kq.forwards.rest j ≡ Some f) × (f.number ≡ n))
    each-number n low = by (nat_lt (length (own q (delivered_in q v t))) n) refl
      where
        by : (b : Bool) → nat_lt (length (own q (delivered_in q v t))) n ≡ b → (n ≤ ordered_of k.orderer.queues q) ⊎ ((j : ℕ) × (f : Numbered) × (slice_get kq.forwards.rest j ≡ Some f) × (f.number ≡ n))
        by false e = let x : n ≤ length (own q (delivered_in q v t)) = grind (arith, nat_tests) in let y = ordered-least in inl (omega (arith, x, y))
        by true e =
            let x : length (own q (delivered_in q v t)) < n = grind (arith, nat_tests) in
            let parts = sent-parts in
            let j = n - length (own q (delivered_in q v t)) - 1 in
            let o = slice_get-there kq.forwards.rest j (omega (arith, x, low, parts)) in
            let m = numbered-so j o.0 o.1 in
            inr (j, o.0, o.1, omega (arith, m, x))
