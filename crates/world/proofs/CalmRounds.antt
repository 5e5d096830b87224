-- Four rounds in a calm view deliver all.
use Rattle.std.proofs.Common.{◌≡◌, ℕ, ◌+◌, ◌-◌, ◌*◌, ◌<◌, ◌≤◌, Bool, true, false, cond, not, Option, Some, None, List, [], ◌∷◌, length, nat_eq, nat_lt, inl, inr, ◌⊎◌, refl, sym, ap, ◌∙◌, subst, arith}
use Rattle.std.specs.Prelude.{slice_get}
use Rattle.std.specs.Option.{option_map, option_and_then}
use Rattle.std.specs.List.{list_all}
use Rattle.std.proofs.lemmas.Bool.Decides.{nat_tests}
use Rattle.std.proofs.lemmas.Option.{none-some, same_Some}
use Rattle.std.proofs.lemmas.Bool.{and_parts}
use Rattle.std.proofs.lemmas.List.{length-append, take_all}
use Rattle.address.specs.declared.limits.TheConstants.{WINDOW, OUTSTANDING, MEMBERS, GREATEST_NUMBER}
use Rattle.address.specs.Ids.{Address, ViewId, same_address}
use Rattle.address.proofs.SameIds.{same_address-refl, same_address-true}
use Rattle.view.specs.Members.{View, stands_in, is_distinct}
use Rattle.view.specs.View.{view_refusal, begins_with}
use Rattle.view.specs.declared.ViewError.TheVariants as errors
use Rattle.view.proofs.MembersListed.{coordinator-in, all-by as listed-by}
use Rattle.state_transfer.specs.Meanings.{Meaning}
use Rattle.trace_props.specs.declared.event.Numbered.{Numbered}
use Rattle.trace_props.specs.Observed.{delivered_in, sent_in, own}
use Rattle.stability.specs.declared.Ack.{Ack}
use Rattle.stability.specs.Counts.{count_of, members_of}
use Rattle.sequencer.specs.Queues.{first_next}
use Rattle.law_acts.proofs.KeepBySteps
use Rattle.law_acts.proofs.KeepTrace.{rules-of}
use Rattle.law_acts.proofs.Lists.{slice_get-right}
use Rattle.traffic.specs.declared.coordinator.Coordinator.{Coordinator}
use Rattle.traffic.specs.declared.follower.Follower.{Follower}
use Rattle.traffic.specs.declared.view_state.ViewState.{ViewState}
use Rattle.traffic.specs.declared.view_state.ViewState.TheVariants as kinds
use Rattle.traffic.specs.Turns.{own_queue}
use Rattle.traffic.specs.ViewStates.{view_of, view_core_of, ordered_of, senders_of}
use Rattle.membership.specs.declared.member_state.MemberState.{MemberState}
use Rattle.world.specs.Invariant.{IsWorld}
use Rattle.world.specs.Worlds.{WorldModel}
use Rattle.world.specs.Gaps.{is_open_in, open_view}
use Rattle.member.specs.Members.{MemberModel}
use Rattle.membership.specs.MemberStates.{core_of as core_at}
use Rattle.member_rules.specs.Ordered.{IsOrderly}
use Rattle.world.specs.declared.node_state.NodeState.{NodeState}
use Rattle.world.specs.declared.node_state.NodeState.TheVariants.{Vacant, Ended, Running}
use Rattle.world.proofs.MembersAtNodes
use Rattle.world.proofs.PairsCompared
use Rattle.world.specs.Known.{stable_at}
use Rattle.world.specs.Calm.{calm_at, calm_of, is_calm, has_numbers, AllSpeak, AllLevel, CalmRound, DeliversAll, IsThrough, AllOpen, most_calm_events}
use Rattle.world.proofs.CatchUpEnds
use Rattle.world.proofs.CatchUpLevels
use Rattle.world.proofs.MembersAsSystem.{system_of}
use Rattle.world.proofs.RepliesPlayed
use Rattle.world.proofs.Standing
use Rattle.world.proofs.Groups
use Rattle.world.proofs.Groups.{slice_get-there}
use Rattle.world.proofs.HearsAll
use Rattle.world.proofs.LevelsMore
use Rattle.traffic.proofs.Covered.{Covered, low-covered, find-covers, waits-at, all_ordered, total, at-most, at-least, all-of, all-total}
use Rattle.traffic.proofs.GoesFurther.{Further, further-then, stable-least, full-or-none, all-ordered}

-- ---- a view's list

view-parts : (id : ViewId) (list : List Address) → view_refusal id list ≡ None → (is_distinct list ≡ true) × (length list ≤ MEMBERS)
view-parts id list e = by (nat_eq (length list) 0) (nat_lt MEMBERS (length list)) (is_distinct list) refl e
  where
    by : (a b d : Bool) → nat_lt MEMBERS (length list) ≡ b → cond a (Some errors.Empty) (cond b (Some errors.TooMany) (cond (not d) (Some errors.Repeated) (cond (not (begins_with id.creator list)) (Some errors.NotFirst) None))) ≡ None
        → (d ≡ true) × (length list ≤ MEMBERS)
    by true b d t x = absurd (none-some _ (sym x))
    by false true d t x = absurd (none-some _ (sym x))
    by false false true t x = (refl, grind (arith, nat_tests))
    by false false false t x = absurd (none-some _ (sym x))

some-there : (q : Address) (acks : List Ack) → stands_in q (members_of acks) ≡ true → nat_eq (length acks) 0 ≡ false
some-there q [] e = absurd (let bad : false ≡ true = e in cc)
some-there q (a ∷ acks) e = grind (arith, nat_tests)

module _ {S : Type 0} (meaning : Meaning S) (laws : KeepBySteps.Laws meaning) where
  abbrev pub Group : WorldModel S → Address → MemberState S → Coordinator → Type 0
  Group w c l k = Groups.Group meaning laws w c l k

  abbrev pub RunsAs : WorldModel S → Address → MemberState S → ViewState → Type 0
  RunsAs w p l t = RepliesPlayed.RunsAs meaning w p l t

  abbrev pub SentBy : WorldModel S → ViewId → Address → ℕ
  SentBy w v q = HearsAll.SentBy meaning laws w v q

  abbrev pub Facts : (w : WorldModel S) (c : Address) (l : MemberState S) (k : Coordinator) → Group w c l k → Groups.Facts meaning laws w c k.view (view_core_of (kinds.Coordinator k))
  Facts w c l k g = Groups.facts meaning laws w c l (kinds.Coordinator k) g.keeps g.first

  -- ---- the coordinator of a group

  module _ (w : WorldModel S) (c : Address) (l : MemberState S) (k : Coordinator) (g : Group w c l k) where
    own-is : same_address c k.view.id.creator ≡ true
    own-is = ap (same_address c) g.own ∙ same_address-refl c

    distinct : is_distinct (senders_of k.orderer.queues) ≡ true
    distinct = ap is_distinct (Groups.orderly meaning laws w c l k g).0.senders ∙ (view-parts k.view.id k.view.members g.sound).0

    ordered-delivered : k.orderer.ordered ≡ k.window.delivered
    ordered-delivered = (Groups.orderly meaning laws w c l k g).0.ordered

    listed-c : stands_in c k.view.members ≡ true
    listed-c = (Facts w c l k g).inside.listed

    own-parts : length (sent_in c k.view.id w.history.trace) ≡ ordered_of k.orderer.queues c + length k.forwards.rest
    own-parts =
        let f = Facts w c l k g in
        let a : length (sent_in c k.view.id w.history.trace) ≡ length (own c (delivered_in c k.view.id w.history.trace)) + length k.forwards.rest =
        ap length f.mine ∙ length-append (own c (delivered_in c k.view.id w.history.trace)) k.forwards.rest in
        let b : ordered_of k.orderer.queues c ≡ length (own c (delivered_in c k.view.id w.history.trace)) = f.ordered c own-is in
        omega (arith, a, b)

    -- its own messages are covered
    own-covered : (n : ℕ) → n ≤ length (sent_in c k.view.id w.history.trace) → Covered c n k.orderer.queues
    own-covered n low = by (nat_lt (ordered_of k.orderer.queues c) n) refl
      where
        by : (b : Bool) → nat_lt (ordered_of k.orderer.queues c) n ≡ b → Covered c n k.orderer.queues
        by false e = low-covered c n k.orderer.queues (ap (stands_in c) (Groups.orderly meaning laws w c l k g).0.senders ∙ listed-c) (grind (arith, nat_tests))
        by true e =
            let f = Facts w c l k g in
            let t = w.history.trace in
            let v = k.view.id in
            let mine = own c (delivered_in c v t) in
            let counted : ordered_of k.orderer.queues c ≡ length mine = f.ordered c own-is in
            let past : ordered_of k.orderer.queues c < n = grind (arith, nat_tests) in
            let parts = own-parts in
            let j = n - length mine - 1 in
            let o = slice_get-there k.forwards.rest j (omega (arith, past, parts, low, counted)) in
            let here : slice_get (sent_in c v t) (length mine + j) ≡ Some o.0 = ap (λ (z : List Numbered). slice_get z (length mine + j)) f.mine ∙ slice_get-right mine k.forwards.rest j ∙ o.1 in
            let number : o.0.number ≡ length mine + j + 1 =
            (rules-of meaning (system_of w.node_states w.history.pool t).history (Standing.agreed-in meaning laws w g.keeps).agreed.trace).ordered.messages.numbers c v (length mine + j) o.0 here in
            find-covers c n k.orderer.queues (own_queue c k.forwards) (Groups.orderly meaning laws w c l k g).1.own (inr (waits-at n k.forwards.rest j o.0 o.1 (omega (arith, number, past, counted))))

    -- what all others acknowledged is stable
    stable-so : (x : ℕ) → x ≤ k.window.delivered → ((q : Address) → stands_in q k.view.members ≡ true → same_address q c ≡ false → x ≤ count_of q k.acks) → x ≤ k.window.stable
    stable-so x low others =
        let i = Groups.orderly meaning laws w c l k g in
        let least = i.1.least in
        let each : (q : Address) → stands_in q (members_of k.acks) ≡ true → x ≤ count_of q k.acks = λ q there. by q (subst (λ (z : List Address). stands_in q z ≡ true) i.0.heard there) (same_address q c) refl in
        let y = stable-least x k.acks (ap is_distinct i.0.heard ∙ (view-parts k.view.id k.view.members g.sound).0) (some-there c k.acks (ap (stands_in c) i.0.heard ∙ listed-c)) each in
        omega (arith, y, least)
      where
        by : (q : Address) → stands_in q k.view.members ≡ true → (b : Bool) → same_address q c ≡ b → x ≤ count_of q k.acks
        by q there true e =
            let i = Groups.orderly meaning laws w c l k g in
            let acked = i.1.own_acked in
            subst (λ (z : Address). x ≤ count_of z k.acks) (sym (same_address-true q c e)) (omega (arith, low, acked))
        by q there false e = others q there e

    -- no more of each is ordered than it sent, and at most eight fewer
    ordered-most : (q : Address) → stands_in q k.view.members ≡ true → (b : Bool) → same_address q c ≡ b → ordered_of k.orderer.queues q ≤ SentBy w k.view.id q
    ordered-most q there true e =
        let parts = own-parts in
        subst (λ (z : Address). ordered_of k.orderer.queues z ≤ SentBy w k.view.id z) (sym (same_address-true q c e)) (omega (arith, parts))
    ordered-most q there false e =
        let a = g.others q there e in
        Groups.ordered-most meaning laws w c l k g q there e a.member_state a.follows a.runs a.view

    ordered-near : (q : Address) → stands_in q k.view.members ≡ true → (b : Bool) → same_address q c ≡ b → SentBy w k.view.id q ≤ ordered_of k.orderer.queues q + OUTSTANDING
    ordered-near q there true e =
        let parts = own-parts in
        let few = Groups.few-outstanding meaning laws w c l (kinds.Coordinator k) g.keeps g.first in
        subst (λ (z : Address). SentBy w k.view.id z ≤ ordered_of k.orderer.queues z + OUTSTANDING) (sym (same_address-true q c e)) (omega (arith, parts, few))
    ordered-near q there false e =
        let a = g.others q there e in
        let few = Groups.few-outstanding meaning laws w q a.member_state (kinds.Follower a.follows) g.keeps a.runs in
        let parts = Groups.sent-parts meaning laws w c l k g q there e a.member_state a.follows a.runs a.view in
        let least = Groups.ordered-least meaning laws w c l k g q there e a.member_state a.follows a.runs a.view in
        omega (arith, few, parts, least)

  -- ---- a round

  pub record RoundDone (old new : WorldModel S) (c : Address) (k0 : Coordinator) (sent : Address → ℕ) : Type 0 where
    pub after : MemberState S
    pub now : Coordinator
    pub group : Group new c after now
    pub further : Further k0 now
    pub level : (p : Address) (lp : MemberState S) (kp : Follower) → stands_in p k0.view.members ≡ true → same_address p c ≡ false → RunsAs new p lp (kinds.Follower kp)
        → (now.window.delivered ≤ kp.window.delivered) × (now.window.stable ≤ kp.window.stable)
    pub sends : (p : Address) → stands_in p k0.view.members ≡ true → SentBy new k0.view.id p ≡ sent p
    -- what was delivered at all before is stable
    pub stable : ((p : Address) (lp : MemberState S) (kp : Follower) → stands_in p k0.view.members ≡ true → same_address p c ≡ false → RunsAs old p lp (kinds.Follower kp) → k0.window.delivered ≤ kp.window.delivered)
        → k0.window.delivered ≤ now.window.stable
    pub brief : length new.history.events ≤ length old.history.events + 77 * length k0.view.members
    -- all is ordered that was sent, or the window is full
    pub all : now.orderer.ordered < GREATEST_NUMBER → (total sent k0.view.members ≤ all_ordered now.orderer.queues) ⊎ (now.window.stable + WINDOW ≤ now.orderer.ordered)

  module _ (old new : WorldModel S) (c : Address) (l : MemberState S) (k : Coordinator) (g : Group old c l k) (sent : Address → ℕ) (sends : (p : Address) → stands_in p k.view.members ≡ true → SentBy old k.view.id p ≡ sent p)
      (x : CalmRound meaning k.view old new) where
    first-half : HearsAll.Spoken meaning laws old c k k.view.members x.mid
    first-half = HearsAll.all-spoken meaning laws old c l k g k.view.members x.mid (λ q there. there) (subst (λ (p : Address). AllSpeak meaning p old k.view.members x.mid) g.own x.speak)

    abbrev now : Coordinator
    now = first-half.now

    same-view : now.view ≡ k.view
    same-view = first-half.further.view

    second-half : LevelsMore.Levelled meaning laws x.mid c first-half.after now k.view.members new
    second-half = LevelsMore.all-levelled meaning laws x.mid c first-half.after now first-half.group k.view.members new (λ q there. ap (λ (v : View). stands_in q v.members) same-view ∙ there)
        (subst (λ (v : View). AllLevel meaning v.id x.mid k.view.members new) (sym same-view) x.level)

    sent-mid : (p : Address) → stands_in p k.view.members ≡ true → (b : Bool) → same_address p c ≡ b → SentBy x.mid k.view.id p ≡ SentBy old k.view.id p
    sent-mid p there true e =
        let a = (Facts x.mid c first-half.after now first-half.group).count in
        let b = (Facts old c l k g).count in
        subst (λ (z : Address). SentBy x.mid k.view.id z ≡ SentBy old k.view.id z) (sym (same_address-true p c e))
        (ap (λ (v : View). SentBy x.mid v.id c) (sym same-view) ∙ a ∙ first-half.further.sent ∙ sym b)
    sent-mid p there false e =
        let a = g.others p there e in
        let there_now : stands_in p now.view.members ≡ true = ap (λ (v : View). stands_in p v.members) same-view ∙ there in
        ap (λ (v : View). SentBy x.mid v.id p) (sym same-view)
        ∙ (Groups.facts-other meaning laws x.mid c first-half.after now first-half.group p there_now e a.member_state a.follows (first-half.stays p a.member_state a.follows e a.runs) (a.view ∙ sym same-view)).count
        ∙ sym (Groups.facts-other meaning laws old c l k g p there e a.member_state a.follows a.runs a.view).count

    sends-mid : (p : Address) → stands_in p k.view.members ≡ true → SentBy x.mid now.view.id p ≡ sent p
    sends-mid p there = ap (λ (v : View). SentBy x.mid v.id p) same-view ∙ sent-mid p there (same_address p c) refl ∙ sends p there

    senders-now : senders_of now.orderer.queues ≡ k.view.members
    senders-now = (Groups.orderly meaning laws x.mid c first-half.after now first-half.group).0.senders ∙ ap (λ (v : View). v.members) same-view

    covers : (q : Address) → stands_in q k.view.members ≡ true → (n : ℕ) → n ≤ sent q → (b : Bool) → same_address q c ≡ b → Covered q n now.orderer.queues
    covers q there n low true e =
        let is = same_address-true q c e in
        let s = sends-mid q there in
        subst (λ (z : Address). Covered z n now.orderer.queues) (sym is)
        (own-covered x.mid c first-half.after now first-half.group n (subst (λ (z : Address). n ≤ SentBy x.mid now.view.id z) is (omega (arith, low, s))))
    covers q there n low false e =
        let a = g.others q there e in
        let count = (Groups.facts-other meaning laws old c l k g q there e a.member_state a.follows a.runs a.view).count in
        let s = sends q there in
        first-half.covered q a.member_state a.follows there e a.runs n (omega (arith, low, count, s))

    pub round-done : RoundDone old new c k sent
    round-done = record {
      after = first-half.after;
      now = now;
      group = second-half.group;
      further = first-half.further;
      level = λ p lp kp there other r. second-half.level p lp kp there other r;
      sends = λ p there. ap (λ (v : View). SentBy new v.id p) (sym same-view) ∙ second-half.sent p (ap (λ (v : View). stands_in p v.members) same-view ∙ there) ∙ sends-mid p there;
      stable = λ level.
          let more = first-half.further.more in
          let a = ordered-delivered old c l k g in
          let b = ordered-delivered x.mid c first-half.after now first-half.group in
          stable-so x.mid c first-half.after now first-half.group k.window.delivered (omega (arith, more, a, b))
          (λ q there other.
          let there_old : stands_in q k.view.members ≡ true = ap (λ (v : View). stands_in q v.members) (sym same-view) ∙ there in
          let o = g.others q there_old other in
          let acked = first-half.acked q o.member_state o.follows there_old other o.runs in
          let lev = level q o.member_state o.follows there_old other o.runs in
          omega (arith, acked, lev));
      brief = let a = first-half.brief in let b = second-half.brief in omega (arith, a, b);
      all = λ room. by (full-or-none now (Groups.orderly meaning laws x.mid c first-half.after now first-half.group).2 room);
    }
      where
        by : ((first_next now.orderer.queues ≡ None) ⊎ (now.window.stable + WINDOW ≤ now.orderer.ordered)) → (total sent k.view.members ≤ all_ordered now.orderer.queues) ⊎ (now.window.stable + WINDOW ≤ now.orderer.ordered)
        by (inr full) = inr full
        by (inl none) = inl (subst (λ (z : List Address). total sent z ≤ all_ordered now.orderer.queues) senders-now
            (all-total sent now.orderer.queues (distinct x.mid c first-half.after now first-half.group)
            (all-ordered sent now none (λ q there n low. covers q (subst (λ (z : List Address). stands_in q z ≡ true) senders-now there) n low (same_address q c) refl))))

  -- ---- four of them

  -- so many at most are ordered in a view's group, and that is close to how many were
  most : (w : WorldModel S) (c : Address) (l : MemberState S) (k : Coordinator) (g : Group w c l k) (sent : Address → ℕ) → ((p : Address) → stands_in p k.view.members ≡ true → SentBy w k.view.id p ≡ sent p)
      → all_ordered k.orderer.queues ≤ total sent k.view.members
  most w c l k g sent sends =
      let is = (Groups.orderly meaning laws w c l k g).0.senders in
      subst (λ (z : List Address). all_ordered k.orderer.queues ≤ total sent z) is
      (at-most sent k.orderer.queues (distinct w c l k g) (λ q there.
      let listed = subst (λ (z : List Address). stands_in q z ≡ true) is there in
      let a = ordered-most w c l k g q listed (same_address q c) refl in
      let b = sends q listed in
      omega (arith, a, b)))

  close : (w : WorldModel S) (c : Address) (l : MemberState S) (k : Coordinator) (g : Group w c l k) (sent : Address → ℕ) → ((p : Address) → stands_in p k.view.members ≡ true → SentBy w k.view.id p ≡ sent p)
      → total sent k.view.members ≤ all_ordered k.orderer.queues + MEMBERS * OUTSTANDING
  close w c l k g sent sends =
      let is = (Groups.orderly meaning laws w c l k g).0.senders in
      let a = at-least sent k.orderer.queues (distinct w c l k g) (λ q there.
      let listed = subst (λ (z : List Address). stands_in q z ≡ true) is there in
      let a = ordered-near w c l k g q listed (same_address q c) refl in
      let b = sends q listed in
      omega (arith, a, b)) in
      let few = (view-parts k.view.id k.view.members g.sound).1 in
      let many : length (senders_of k.orderer.queues) ≡ length k.view.members = ap length is in
      subst (λ (z : List Address). total sent z ≤ all_ordered k.orderer.queues + MEMBERS * OUTSTANDING) is (omega (arith, a, few, many))

  all-as : (w : WorldModel S) (c : Address) (l : MemberState S) (k : Coordinator) (g : Group w c l k) (sent : Address → ℕ) → ((p : Address) → stands_in p k.view.members ≡ true → SentBy w k.view.id p ≡ sent p)
      → total sent k.view.members ≤ all_ordered k.orderer.queues → (q : Address) → stands_in q k.view.members ≡ true → sent q ≤ ordered_of k.orderer.queues q
  all-as w c l k g sent sends all q there =
      let is = (Groups.orderly meaning laws w c l k g).0.senders in
      all-of sent k.orderer.queues (distinct w c l k g) (λ p at.
      let listed = subst (λ (z : List Address). stands_in p z ≡ true) is at in
      let a = ordered-most w c l k g p listed (same_address p c) refl in
      let b = sends p listed in
      omega (arith, a, b)) (subst (λ (z : List Address). total sent z ≤ all_ordered k.orderer.queues) (sym is) all) q (ap (stands_in q) is ∙ there)

  -- the numbers: how many are ordered, and stable, at the coordinator after each round
  three : (t a0 o0 a1 o1 s1 a2 o2 s2 a3 o3 s3 : ℕ) → t ≤ a0 + MEMBERS * OUTSTANDING → a1 + o0 ≡ a0 + o1 → a2 + o0 ≡ a0 + o2 → a3 + o0 ≡ a0 + o3 → o0 ≤ o1 → o1 ≤ o2 → o2 ≤ o3 → o1 ≤ s2 → o2 ≤ s3
      → (t ≤ a1) ⊎ (s1 + WINDOW ≤ o1) → (t ≤ a2) ⊎ (s2 + WINDOW ≤ o2) → (t ≤ a3) ⊎ (s3 + WINDOW ≤ o3) → t ≤ a3
  three t a0 o0 a1 o1 s1 a2 o2 s2 a3 o3 s3 near e1 e2 e3 u1 u2 u3 x2 x3 y1 y2 (inl y3) = y3
  three t a0 o0 a1 o1 s1 a2 o2 s2 a3 o3 s3 near e1 e2 e3 u1 u2 u3 x2 x3 y1 (inl y2) (inr y3) = omega (arith, y2, e2, e3, u3)
  three t a0 o0 a1 o1 s1 a2 o2 s2 a3 o3 s3 near e1 e2 e3 u1 u2 u3 x2 x3 y1 (inr y2) (inr y3) = omega (arith, near, e1, e2, e3, u1, u2, u3, x2, x3, y2, y3)

  room-left : (t a0 o0 a o : ℕ) → t ≤ a0 + MEMBERS * OUTSTANDING → a + o0 ≡ a0 + o → a ≤ t → o0 + MEMBERS * OUTSTANDING < GREATEST_NUMBER → o < GREATEST_NUMBER
  room-left t a0 o0 a o near e top room = omega (arith, near, e, top, room)

  -- after the last round
  pub record Through (w : WorldModel S) (c : Address) (k0 : Coordinator) (sent : Address → ℕ) : Type 0 where
    pub after : MemberState S
    pub now : Coordinator
    pub group : Group w c after now
    pub view : now.view ≡ k0.view
    pub sends : (p : Address) → stands_in p k0.view.members ≡ true → SentBy w k0.view.id p ≡ sent p
    pub all : (q : Address) → stands_in q k0.view.members ≡ true → sent q ≤ ordered_of now.orderer.queues q
    pub stable : now.window.delivered ≤ now.window.stable
    pub level : (p : Address) (lp : MemberState S) (kp : Follower) → stands_in p k0.view.members ≡ true → same_address p c ≡ false → RunsAs w p lp (kinds.Follower kp)
        → (now.window.delivered ≤ kp.window.delivered) × (now.window.stable ≤ kp.window.stable)

  -- a round of the same view, further on
  round-on : (old new : WorldModel S) (c : Address) (l : MemberState S) (k0 k : Coordinator) → Group old c l k → k.view ≡ k0.view → (sent : Address → ℕ) → ((p : Address) → stands_in p k0.view.members ≡ true → SentBy old k0.view.id p ≡ sent p)
      → CalmRound meaning k0.view old new → RoundDone old new c k sent
  round-on old new c l k0 k g same sent sends x =
      round-done old new c l k g sent (subst (λ (v : View). (p : Address) → stands_in p v.members ≡ true → SentBy old v.id p ≡ sent p) (sym same) sends)
      (subst (λ (v : View). CalmRound meaning v old new) (sym same) x)

  -- what a round leaves, in the words of the view at the beginning
  in-view : (w old : WorldModel S) (c : Address) (k0 k : Coordinator) (sent : Address → ℕ) → k.view ≡ k0.view → RoundDone old w c k sent → (p : Address) → stands_in p k0.view.members ≡ true → SentBy w k0.view.id p ≡ sent p
  in-view w old c k0 k sent same r = subst (λ (v : View). (p : Address) → stands_in p v.members ≡ true → SentBy w v.id p ≡ sent p) same r.sends

  levels-at : (w old : WorldModel S) (c : Address) (k0 k : Coordinator) (sent : Address → ℕ) → k.view ≡ k0.view → (r : RoundDone old w c k sent) → (p : Address) (lp : MemberState S) (kp : Follower) → stands_in p r.now.view.members ≡ true
      → same_address p c ≡ false → RunsAs w p lp (kinds.Follower kp) → r.now.window.delivered ≤ kp.window.delivered
  levels-at w old c k0 k sent same r p lp kp there other x = (r.level p lp kp (ap (λ (v : View). stands_in p v.members) (sym r.further.view) ∙ there) other x).0

  total-in : (k0 k : Coordinator) (sent : Address → ℕ) → k.view ≡ k0.view → total sent k.view.members ≡ total sent k0.view.members
  total-in k0 k sent same = ap (λ (v : View). total sent v.members) same

  pub through : (old new : WorldModel S) (c : Address) (l : MemberState S) (k : Coordinator) → Group old c l k → k.window.delivered + MEMBERS * OUTSTANDING < GREATEST_NUMBER → DeliversAll meaning k.view old new
      → Through new c k (SentBy old k.view.id)
  through old new c l k g room x =
      let sent = SentBy old k.view.id in
      let r1 = round-on old x.one c l k k g refl sent (λ p there. refl) x.first in
      let v1 = r1.further.view in
      let r2 = round-on x.one x.two c r1.after k r1.now r1.group v1 sent (in-view x.one old c k k sent refl r1) x.second in
      let v2 = r2.further.view ∙ v1 in
      let r3 = round-on x.two x.three c r2.after k r2.now r2.group v2 sent (in-view x.two x.one c k r1.now sent v1 r2) x.third in
      let v3 = r3.further.view ∙ v2 in
      let r4 = round-on x.three new c r3.after k r3.now r3.group v3 sent (in-view x.three x.two c k r2.now sent v2 r3) x.fourth in
      let v4 = r4.further.view ∙ v3 in
      let f2 = further-then k r1.now r2.now r1.further r2.further in
      let f3 = further-then k r2.now r3.now f2 r3.further in
      let f4 = further-then k r3.now r4.now f3 r4.further in
      let near = close old c l k g sent (λ p there. refl) in
      let sends1 = in-view x.one old c k k sent refl r1 in
      let sends2 = in-view x.two x.one c k r1.now sent v1 r2 in
      let sends3 = in-view x.three x.two c k r2.now sent v2 r3 in
      let sends4 = in-view new x.three c k r3.now sent v3 r4 in
      let m1 = most x.one c r1.after r1.now r1.group sent (to-now r1.now v1 x.one sends1) in
      let m2 = most x.two c r2.after r2.now r2.group sent (to-now r2.now v2 x.two sends2) in
      let m3 = most x.three c r3.after r3.now r3.group sent (to-now r3.now v3 x.three sends3) in
      let m4 = most new c r4.after r4.now r4.group sent (to-now r4.now v4 new sends4) in
      let t1 = total-in k r1.now sent v1 in
      let t2 = total-in k r2.now sent v2 in
      let t3 = total-in k r3.now sent v3 in
      let t4 = total-in k r4.now sent v4 in
      let e0 = ordered-delivered old c l k g in
      let e1 = ordered-delivered x.one c r1.after r1.now r1.group in
      let e2 = ordered-delivered x.two c r2.after r2.now r2.group in
      let e3 = ordered-delivered x.three c r3.after r3.now r3.group in
      let e4 = ordered-delivered new c r4.after r4.now r4.group in
      let c1 = r1.further.counts in
      let c2 = f2.counts in
      let c3 = f3.counts in
      let c4 = f4.counts in
      let room0 : k.orderer.ordered + MEMBERS * OUTSTANDING < GREATEST_NUMBER = omega (arith, room, e0) in
      let T = total sent k.view.members in
      let a1 = r1.all (room-left T (all_ordered k.orderer.queues) k.orderer.ordered (all_ordered r1.now.orderer.queues) r1.now.orderer.ordered near c1 (omega (arith, m1, t1)) room0) in
      let a2 = r2.all (room-left T (all_ordered k.orderer.queues) k.orderer.ordered (all_ordered r2.now.orderer.queues) r2.now.orderer.ordered near c2 (omega (arith, m2, t2)) room0) in
      let a3 = r3.all (room-left T (all_ordered k.orderer.queues) k.orderer.ordered (all_ordered r3.now.orderer.queues) r3.now.orderer.ordered near c3 (omega (arith, m3, t3)) room0) in
      let s2 = r2.stable (levels-at x.one old c k k sent refl r1) in
      let s3 = r3.stable (levels-at x.two x.one c k r1.now sent v1 r2) in
      let s4 = r4.stable (levels-at x.three x.two c k r2.now sent v2 r3) in
      let all3 : T ≤ all_ordered r3.now.orderer.queues = three T (all_ordered k.orderer.queues) k.orderer.ordered (all_ordered r1.now.orderer.queues) r1.now.orderer.ordered r1.now.window.stable
      (all_ordered r2.now.orderer.queues) r2.now.orderer.ordered r2.now.window.stable (all_ordered r3.now.orderer.queues) r3.now.orderer.ordered r3.now.window.stable
      near c1 c2 c3 r1.further.more r2.further.more r3.further.more (omega (arith, s2, e1)) (omega (arith, s3, e2)) a1 (in-t r1.now v1 (all_ordered r2.now.orderer.queues) _ a2) (in-t r2.now v2 (all_ordered r3.now.orderer.queues) _ a3) in
      let up4 = r4.further.more in
      let all4 : T ≤ all_ordered r4.now.orderer.queues = omega (arith, all3, c3, c4, up4) in
      record {
        after = r4.after;
        now = r4.now;
        group = r4.group;
        view = v4;
        sends = sends4;
        all = λ q there. all-as new c r4.after r4.now r4.group sent (to-now r4.now v4 new sends4) (omega (arith, all4, t4)) q (ap (λ (v : View). stands_in q v.members) v4 ∙ there);
        stable = omega (arith, s4, e3, e4, c3, c4, all3, m4, t4);
        level = λ p lp kp there other r. r4.level p lp kp (ap (λ (v : View). stands_in p v.members) v3 ∙ there) other r;
      }
    where
      to-now : (n : Coordinator) → n.view ≡ k.view → (w : WorldModel S) → ((p : Address) → stands_in p k.view.members ≡ true → SentBy w k.view.id p ≡ SentBy old k.view.id p)
          → (p : Address) → stands_in p n.view.members ≡ true → SentBy w n.view.id p ≡ SentBy old k.view.id p
      to-now n same w sends = subst (λ (v : View). (p : Address) → stands_in p v.members ≡ true → SentBy w v.id p ≡ SentBy old k.view.id p) (sym same) sends

      in-t : (n : Coordinator) → n.view ≡ k.view → (a : ℕ) (P : Type 0) → (total (SentBy old k.view.id) n.view.members ≤ a) ⊎ P → (total (SentBy old k.view.id) k.view.members ≤ a) ⊎ P
      in-t n same a P (inl y) = let e = total-in k n (SentBy old k.view.id) same in inl (omega (arith, y, e))
      in-t n same a P (inr y) = inr y

  -- ---- what it comes to

  module _ (w : WorldModel S) (c : Address) (k0 : Coordinator) (v : View) (same : k0.view ≡ v) (sent : Address → ℕ) (x : Through w c k0 sent) where
    abbrev k : Coordinator
    k = x.now

    view-is : k.view ≡ v
    view-is = x.view ∙ same

    creator : v.id.creator ≡ c
    creator = ap (λ (u : View). u.id.creator) (sym view-is) ∙ x.group.own

    listed : (q : Address) → stands_in q v.members ≡ true → stands_in q k.view.members ≡ true
    listed q there = ap (λ (u : View). stands_in q u.members) view-is ∙ there

    listed-first : (q : Address) → stands_in q v.members ≡ true → stands_in q k0.view.members ≡ true
    listed-first q there = ap (λ (u : View). stands_in q u.members) same ∙ there

    count-c : length (delivered_in v.id.creator v.id w.history.trace) ≡ k.window.delivered
    count-c = ap (λ (p : Address). length (delivered_in p v.id w.history.trace)) creator ∙ ap (λ (u : View). length (delivered_in c u.id w.history.trace)) (sym view-is) ∙ (Facts w c x.after k x.group).delivered

    level-by : (q : Address) → stands_in q v.members ≡ true → (b : Bool) → same_address q c ≡ b → delivered_in q v.id w.history.trace ≡ delivered_in v.id.creator v.id w.history.trace
    level-by q there true e = ap (λ (p : Address). delivered_in p v.id w.history.trace) (same_address-true q c e ∙ sym creator)
    level-by q there false e =
        let a = x.group.others q (listed q there) e in
        let n = CatchUpLevels.numbers meaning laws w c q x.after a.member_state k a.follows (Groups.couple meaning laws w c x.after k x.group q e a) in
        subst (λ (u : View). delivered_in q u.id w.history.trace ≡ delivered_in c u.id w.history.trace) view-is (n.level (x.level q a.member_state a.follows (listed-first q there) e a.runs).0)
        ∙ ap (λ (p : Address). delivered_in p v.id w.history.trace) (sym creator)

    all-by : (q : Address) → stands_in q v.members ≡ true → own q (delivered_in v.id.creator v.id w.history.trace) ≡ sent_in q v.id w.history.trace
    all-by q there =
        let t = w.history.trace in
        let r = rules-of meaning (system_of w.node_states w.history.pool t).history (Standing.agreed-in meaning laws w x.group.keeps).agreed.trace in
        let counted : ordered_of k.orderer.queues q ≡ length (own q (delivered_in c k.view.id t)) = (Facts w c x.after k x.group).ordered q (own-is w c x.after k x.group) in
        let here : length (own q (delivered_in c k.view.id t)) ≡ length (own q (delivered_in v.id.creator v.id t)) =
        ap (λ (u : View). length (own q (delivered_in c u.id t))) view-is ∙ ap (λ (p : Address). length (own q (delivered_in p v.id t))) (sym creator) in
        let all = x.all q (listed-first q there) in
        let s : length (sent_in q v.id t) ≡ sent q = ap (λ (u : View). length (sent_in q u.id t)) (sym same) ∙ x.sends q (listed-first q there) in
        r.ordered.messages.in_turn v.id.creator q v.id ∙ take_all (length (own q (delivered_in v.id.creator v.id t))) (sent_in q v.id t) (omega (arith, counted, here, all, s))

    -- what one knows to be stable
    stable-in : (p : Address) (l : MemberState S) (t : ViewState) → RunsAs w p l t → stable_at (w.node_states p.node) ≡ Some (view_core_of t).stable
    stable-in p l t r = rw (r.stands.node_state, Standing.core-is meaning w p l r.stands, r.view_state) refl

    stable-by : (q : Address) → stands_in q v.members ≡ true → (b : Bool) → same_address q c ≡ b → stable_at (w.node_states q.node) ≡ Some (length (delivered_in v.id.creator v.id w.history.trace))
    stable-by q there true e =
        let low = (Facts w c x.after k x.group).low in
        let high = x.stable in
        let n : k.window.stable ≡ length (delivered_in v.id.creator v.id w.history.trace) = omega (arith, low, high, count-c) in
        subst (λ (z : Address). stable_at (w.node_states z.node) ≡ Some (length (delivered_in v.id.creator v.id w.history.trace))) (sym (same_address-true q c e)) (stable-in c x.after (kinds.Coordinator k) x.group.first ∙ ap Some n)
    stable-by q there false e =
        let a = x.group.others q (listed q there) e in
        let n = CatchUpLevels.numbers meaning laws w c q x.after a.member_state k a.follows (Groups.couple meaning laws w c x.after k x.group q e a) in
        let top = n.top in
        let low = (Groups.facts meaning laws w q a.member_state (kinds.Follower a.follows) x.group.keeps a.runs).low in
        let known = (x.level q a.member_state a.follows (listed-first q there) e a.runs).1 in
        let high = x.stable in
        let m : a.follows.window.stable ≡ length (delivered_in v.id.creator v.id w.history.trace) = omega (arith, top, low, known, high, count-c) in
        stable-in q a.member_state (kinds.Follower a.follows) a.runs ∙ ap Some m

    pub is-through : IsThrough v w
    is-through = record {
      opened = subst (λ (u : View). AllOpen u w) view-is (Groups.group-open meaning laws w c x.after k x.group);
      level = λ q there. level-by q there (same_address q c) refl;
      all = all-by;
      stable = λ q there. stable-by q there (same_address q c) refl;
    }

  -- ---- how it begins

  pub record IsCalm (w : WorldModel S) (n : ℕ) (v : View) : Type 0 where
    pub member : MemberModel S
    pub node_state : w.node_states n ≡ Running member
    pub opens : open_view (Running member) ≡ Some v
    pub calm : is_calm w.node_states v ≡ true

  pub calm-is : (w : WorldModel S) (n : ℕ) (v : View) → calm_at w.node_states n ≡ Some v → IsCalm w n v
  calm-is w n v at = by (w.node_states n) refl at
    where
      chosen : (m : MemberModel S) (u : View) → w.node_states n ≡ Running m → open_view (Running m) ≡ Some u → (b : Bool) → is_calm w.node_states u ≡ b → cond b (Some u) None ≡ Some v → IsCalm w n v
      chosen m u e o true is x = let same = same_Some u v x in record { member = m; node_state = e; opens = o ∙ ap Some same; calm = ap (is_calm w.node_states) (sym same) ∙ is }
      chosen m u e o false is x = absurd (none-some v x)

      inside : (m : MemberModel S) → w.node_states n ≡ Running m → (o : Option View) → open_view (Running m) ≡ o → option_and_then (calm_of w.node_states) o ≡ Some v → IsCalm w n v
      inside m e None o x = absurd (none-some v x)
      inside m e (Some u) o x = chosen m u e o (is_calm w.node_states u) refl x

      by : (s : NodeState S) → w.node_states n ≡ s → option_and_then (calm_of w.node_states) (open_view s) ≡ Some v → IsCalm w n v
      by Vacant e x = absurd (none-some v x)
      by (Ended p) e x = absurd (none-some v x)
      by (Running m) e x = inside m e (open_view (Running m)) refl x

  record InView (w : WorldModel S) (v : View) (q : Address) : Type 0 where
    member_state : MemberState S
    view_state : ViewState
    runs : RunsAs w q member_state view_state
    view : view_of view_state ≡ v
    orderly : IsOrderly q view_state

  pub record Leads (w : WorldModel S) (v : View) (c : Address) : Type 0 where
    pub member_state : MemberState S
    pub leads : Coordinator
    pub runs : RunsAs w c member_state (kinds.Coordinator leads)
    pub view : leads.view ≡ v

  module _ (w : WorldModel S) (n : ℕ) (v : View) (keeps : IsWorld meaning w.node_states w.history) (sound : view_refusal v.id v.members ≡ None) (x : IsCalm w n v) where
    parts : (list_all (λ (q : Address). is_open_in q v.id (w.node_states q.node)) v.members ≡ true) × (has_numbers (w.node_states v.id.creator.node) ≡ true)
    parts = and_parts (list_all (λ (q : Address). is_open_in q v.id (w.node_states q.node)) v.members) (has_numbers (w.node_states v.id.creator.node)) x.calm

    mine : CatchUpEnds.IsOpen x.member v
    mine = CatchUpEnds.open-is x.member v x.opens

    mine-runs : RunsAs w x.member.address mine.member_state mine.view_state
    mine-runs = CatchUpEnds.runs-open meaning laws w n x.member.address x.member v keeps x.node_state refl mine

    in-view-of : (q : Address) → stands_in q v.members ≡ true → InView w v q
    in-view-of q there =
        let o = CatchUpEnds.open-in q v.id (w.node_states q.node) (listed-by (λ (p : Address). is_open_in p v.id (w.node_states p.node)) v.members q parts.0 there) in
        let z = CatchUpEnds.open-is o.member o.view o.opens in
        let r = CatchUpEnds.runs-open meaning laws w q.node q o.member o.view keeps o.node_state o.address z in
        let same : o.view ≡ v = PairsCompared.one-view meaning (system_of w.node_states w.history.pool w.history.trace) (MembersAtNodes.agreed meaning laws w.node_states w.history keeps).agreed
        x.member.address q (core_at x.member.address mine.member_state) (core_at q z.member_state) v o.view
        (Standing.runs-in meaning w x.member.address mine.member_state mine-runs.stands) (Standing.runs-in meaning w q z.member_state r.stands)
        (ap (option_map view_of) mine-runs.view_state ∙ ap Some mine.view) (ap (option_map view_of) r.view_state ∙ ap Some z.view) o.id in
        record {
          member_state = z.member_state;
          view_state = z.view_state;
          runs = r;
          view = z.view ∙ same;
          orderly = CatchUpEnds.orderly-of meaning laws w q.node q o.member o.view keeps o.node_state o.address z;
        }

    leads-by : (l : MemberState S) (t : ViewState) → RunsAs w v.id.creator l t → view_of t ≡ v → IsOrderly v.id.creator t → Leads w v v.id.creator
    leads-by l (kinds.Coordinator k) r same o = record { member_state = l; leads = k; runs = r; view = same }
    leads-by l (kinds.Follower k) r same o =
        let bad : true ≡ false = sym (same_address-refl v.id.creator) ∙ ap (λ (u : View). same_address v.id.creator u.id.creator) (sym same) ∙ o.0 in
        absurd cc

    another-by : (q : Address) (l : MemberState S) (t : ViewState) → same_address q v.id.creator ≡ false → RunsAs w q l t → view_of t ≡ v → IsOrderly q t → Groups.Another meaning laws w v q
    another-by q l (kinds.Follower k) other r same o = record { member_state = l; follows = k; runs = r; view = same }
    another-by q l (kinds.Coordinator k) other r same o =
        let bad : true ≡ false = sym o.0.coordinator ∙ ap (λ (u : View). same_address q u.id.creator) same ∙ other in
        absurd cc

    pub leader : Leads w v v.id.creator
    leader = let y = in-view-of v.id.creator (coordinator-in v.id v.members sound) in leads-by y.member_state y.view_state y.runs y.view y.orderly

    pub group-of : Group w v.id.creator leader.member_state leader.leads
    group-of = record {
      keeps = keeps;
      first = leader.runs;
      own = ap (λ (u : View). u.id.creator) leader.view;
      sound = subst (λ (u : View). view_refusal u.id u.members ≡ None) (sym leader.view) sound;
      others = λ q there other.
          let y = in-view-of q (ap (λ (u : View). stands_in q u.members) (sym leader.view) ∙ there) in
          let a = another-by q y.member_state y.view_state other y.runs y.view y.orderly in
          record { member_state = a.member_state; follows = a.follows; runs = a.runs; view = a.view ∙ sym leader.view };
    }

    room-of : leader.leads.window.delivered + MEMBERS * OUTSTANDING < GREATEST_NUMBER
    room-of =
        let d : has_numbers (w.node_states v.id.creator.node) ≡ nat_lt leader.leads.window.stable (GREATEST_NUMBER - (WINDOW + MEMBERS * OUTSTANDING)) =
        rw (leader.runs.stands.node_state, Standing.core-is meaning w v.id.creator leader.member_state leader.runs.stands, leader.runs.view_state) refl in
        let e : nat_lt leader.leads.window.stable (GREATEST_NUMBER - (WINDOW + MEMBERS * OUTSTANDING)) ≡ true = sym d ∙ parts.1 in
        let low : leader.leads.window.stable < GREATEST_NUMBER - (WINDOW + MEMBERS * OUTSTANDING) = grind (arith, nat_tests) in
        let reach = (Facts w v.id.creator leader.member_state leader.leads group-of).reach in
        omega (arith, low, reach)

  -- by so few events
  pub brief-rounds : (old new : WorldModel S) (c : Address) (l : MemberState S) (k : Coordinator) → Group old c l k → DeliversAll meaning k.view old new → length new.history.events ≤ length old.history.events + most_calm_events
  brief-rounds old new c l k g x =
      let sent = SentBy old k.view.id in
      let r1 = round-on old x.one c l k k g refl sent (λ p there. refl) x.first in
      let v1 = r1.further.view in
      let r2 = round-on x.one x.two c r1.after k r1.now r1.group v1 sent (in-view x.one old c k k sent refl r1) x.second in
      let v2 = r2.further.view ∙ v1 in
      let r3 = round-on x.two x.three c r2.after k r2.now r2.group v2 sent (in-view x.two x.one c k r1.now sent v1 r2) x.third in
      let v3 = r3.further.view ∙ v2 in
      let r4 = round-on x.three new c r3.after k r3.now r3.group v3 sent (in-view x.three x.two c k r2.now sent v2 r3) x.fourth in
      let b1 = r1.brief in
      let b2 = r2.brief in
      let b3 = r3.brief in
      let b4 = r4.brief in
      let n1 : length r1.now.view.members ≡ length k.view.members = ap (λ (v : View). length v.members) v1 in
      let n2 : length r2.now.view.members ≡ length k.view.members = ap (λ (v : View). length v.members) v2 in
      let n3 : length r3.now.view.members ≡ length k.view.members = ap (λ (v : View). length v.members) v3 in
      let few = (view-parts k.view.id k.view.members g.sound).1 in
      omega (arith, b1, b2, b3, b4, n1, n2, n3, few)

  pub calm-is-brief : (old new : WorldModel S) (n : ℕ) (v : View) → view_refusal v.id v.members ≡ None → IsWorld meaning old.node_states old.history → calm_at old.node_states n ≡ Some v → DeliversAll meaning v old new
      → length new.history.events ≤ length old.history.events + most_calm_events
  calm-is-brief old new n v sound keeps at x =
      let y = calm-is old n v at in
      let l = leader old n v keeps sound y in
      brief-rounds old new v.id.creator l.member_state l.leads (group-of old n v keeps sound y) (subst (λ (u : View). DeliversAll meaning u old new) (sym l.view) x)

  pub calm-delivers : (old new : WorldModel S) (n : ℕ) (v : View) → view_refusal v.id v.members ≡ None → IsWorld meaning old.node_states old.history → calm_at old.node_states n ≡ Some v → DeliversAll meaning v old new
      → IsThrough v new
  calm-delivers old new n v sound keeps at x =
      let y = calm-is old n v at in
      let l = leader old n v keeps sound y in
      let g = group-of old n v keeps sound y in
      is-through new v.id.creator l.leads v l.view (SentBy old l.leads.view.id)
      (through old new v.id.creator l.member_state l.leads g (room-of old n v keeps sound y) (subst (λ (u : View). DeliversAll meaning u old new) (sym l.view) x))
