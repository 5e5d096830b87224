-- A catch-up, all of it: the member is level, it sent nothing, it knows as much to be stable as its coordinator, and nobody else did anything.
use Rattle.std.proofs.Common.{◌≡◌, ℕ, ◌+◌, ◌-◌, ◌<◌, ◌≤◌, Bool, true, false, Option, Some, length, nat_eq, nat_lt, inl, inr, ◌⊎◌, refl, sym, ap, ◌∙◌, subst, arith}
use Rattle.std.specs.Prelude.{IsSome}
use Rattle.std.proofs.lemmas.Bool.Decides.{nat_tests}
use Rattle.address.specs.Ids.{Address, ViewId}
use Rattle.wire_values.specs.Values.{held_at}
use Rattle.state_transfer.specs.Meanings.{Meaning}
use Rattle.trace_props.specs.Observed.{delivered_in}
use Rattle.nak_stream.specs.Windows.{WindowModel}
use Rattle.law_acts.proofs.KeepBySteps
use Rattle.step_output.specs.Steps.{who}
use Rattle.traffic.specs.declared.coordinator.Coordinator.{Coordinator}
use Rattle.traffic.specs.declared.follower.Follower.{Follower}
use Rattle.traffic.specs.Takes.{Asks, AsksUpTo}
use Rattle.membership.specs.declared.member_state.MemberState.{MemberState}
use Rattle.world_model.specs.declared.WorldEvent.TheVariants.{Deliver, Tick}
use Rattle.world_model.specs.Packets.{world_group}
use Rattle.world.specs.declared.gaps.Pair.{Pair}
use Rattle.world.specs.Gaps.{pair_at, Hands, CatchesUp, IsLevel}
use Rattle.world.specs.Plays.{Plays, Delivers}
use Rattle.world.specs.Worlds.{WorldModel}
use Rattle.world.proofs.CatchUpEnds
use Rattle.world.proofs.CatchUpLevels
use Rattle.world.proofs.Deliveries.{delivers-none}
use Rattle.world.proofs.EventsCounted.{adds, adds-all, few-orders}
use Rattle.world.proofs.WindowFills.{MissesWithin, nothing-missing, collected-stable}

module _ {S : Type 0} (meaning : Meaning S) (laws : KeepBySteps.Laws meaning) where
  abbrev Couple : WorldModel S → Address → Address → MemberState S → MemberState S → Coordinator → Follower → Type 0
  Couple w c q lc lq kc kq = CatchUpLevels.Couple meaning laws w c q lc lq kc kq

  pub record Brought (old new : WorldModel S) (c q : Address) (lc : MemberState S) (kc : Coordinator) (kq : Follower) : Type 0 where
    pub after : MemberState S
    pub now : Follower
    pub couple : Couple new c q lc after kc now
    pub sent : now.forwards.sent ≡ kq.forwards.sent
    pub stable : kc.window.stable ≤ now.window.stable
    pub level : kc.window.delivered ≤ now.window.delivered
    pub others : (n : ℕ) → nat_eq c.node n ≡ false → nat_eq q.node n ≡ false → new.node_states n ≡ old.node_states n
    pub brief : length new.history.events ≤ length old.history.events + 67

  outside : (last highest : ℕ) (w : WindowModel) → MissesWithin (last + 1) last highest w → (g : ℕ) → w.delivered < g → g ≤ highest → IsSome (held_at g w.held)
  outside last highest w within g past known = within g past known (by (nat_lt last g) refl)
    where
      by : (b : Bool) → nat_lt last g ≡ b → (g < last + 1) ⊎ (last < g)
      by true e = let z : last < g = grind (arith, nat_tests) in inr z
      by false e = let z : g < last + 1 = grind (arith, nat_tests) in inl z

  level-of : (new : WorldModel S) (c q : Address) (lc lq : MemberState S) (kc : Coordinator) (kq : Follower) → Couple new c q lc lq kc kq
      → ((g : ℕ) → kq.window.delivered < g → g ≤ kc.window.delivered → IsSome (held_at g kq.window.held)) → kc.window.delivered ≤ kq.window.delivered
  level-of new c q lc lq kc kq x all = nothing-missing kq.window kc.window.delivered all (CatchUpLevels.none-next meaning laws new c q lc lq kc kq x)

  module _ (old new : WorldModel S) (pair : Pair) (f : CatchUpEnds.Found meaning laws old pair) (y : CatchesUp meaning pair old new) where
    abbrev c : Address
    c = pair.view.creator

    abbrev q : Address
    q = pair.member

    abbrev kc : Coordinator
    kc = f.leads

    abbrev kq : Follower
    kq = f.follows

    told : CatchUpLevels.AnnouncedSo meaning laws old y.announced c q f.first f.other kc kq
    told = CatchUpEnds.announced-so meaning laws old y.announced pair f y.ticks

    asked : CatchUpLevels.AskedSo meaning laws y.announced y.asked c q f.first kc kq
    asked = CatchUpEnds.asked-so meaning laws old y.announced y.asked pair f told y.hears

    -- it knows as much to be stable
    stable-asked : kc.window.stable ≤ asked.now.window.stable
    stable-asked =
        let low = (CatchUpLevels.numbers meaning laws y.announced c q f.first f.other kc kq told.couple).stable in
        subst (λ (o : Follower). kc.window.stable ≤ o.window.stable) (sym asked.is) (collected-stable kc.window.stable kq.window low)

    sent-asked : asked.now.forwards.sent ≡ kq.forwards.sent
    sent-asked = ap (λ (o : Follower). o.forwards.sent) asked.is

    first-others : (n : ℕ) → nat_eq c.node n ≡ false → nat_eq q.node n ≡ false → y.asked.node_states n ≡ old.node_states n
    first-others n a b = asked.others n b ∙ told.others n a

    events-asked : length y.asked.history.events ≡ length old.history.events + 2
    events-asked =
        let hears : Plays meaning y.announced (Deliver told.number) y.asked = subst (λ (o : Option ℕ). Hands meaning o y.announced y.asked) told.found y.hears in
        let a = adds meaning old y.announced (Tick c.node) y.ticks in
        let b = adds meaning y.announced y.asked (Deliver told.number) hears in
        omega (arith, a, b)

    by-answers : Asks (who q world_group) kc.window.delivered asked.now asked.start asked.out → Brought old new c q f.first kc kq
    by-answers k =
        let n = CatchUpLevels.numbers meaning laws y.asked c q f.first asked.after kc asked.now asked.couple in
        let nak = CatchUpLevels.nak-of meaning laws y.announced y.asked c q f.first kc kq asked k in
        let rep = CatchUpLevels.replied-so meaning laws y.announced y.asked y.answered c q f.first kc kq asked y.asks k in
        let e = CatchUpLevels.rounds meaning laws (rep.last + 1 - rep.first) rep.first (length y.asked.history.pool) y.answered new c q f.first asked.after kc asked.now rep.last rep.couple rep.within rep.count rep.low rep.high
        rep.sound rep.next (subst (λ (j : ℕ). Delivers meaning (length y.asked.history.pool) j y.answered new) rep.many y.answers) in
        let up = stable-asked in
        let more = e.stable in
        record {
          after = e.member_state;
          now = e.now;
          couple = e.couple;
          sent = e.sent ∙ sent-asked;
          stable = omega (arith, up, more);
          level = level-of new c q f.first e.member_state kc e.now e.couple (outside rep.last kc.window.delivered e.now.window e.within);
          others = λ j a b. e.others j b ∙ rep.others j a ∙ first-others j a b;
          brief = (
              let e1 = events-asked in
              let e2 = adds-all meaning (length y.announced.history.pool) (length y.asked.history.pool - length y.announced.history.pool) y.asked y.answered y.asks in
              let e3 = adds-all meaning (length y.asked.history.pool) (length y.answered.history.pool - length y.asked.history.pool) y.answered new y.answers in
              let one = nak.many in
              let so_many = rep.many in
              let few = few-orders c kc.view q kc.window.held rep.first (rep.last + 1 - rep.first) in
              let low = rep.low in
              let high = rep.high in
              let reach = n.reach in
              omega (arith, e1, e2, e3, one, so_many, few, low, high, reach));
        }

    by-silence : ((g : ℕ) → asked.now.window.delivered < g → g ≤ kc.window.delivered → IsSome (held_at g asked.now.window.held)) → asked.out ≡ asked.start → Brought old new c q f.first kc kq
    by-silence all silent =
        let a : y.answered ≡ y.asked = CatchUpLevels.none-asked meaning laws y.announced y.asked y.answered c q f.first kc kq asked y.asks silent in
        let b : new ≡ y.answered = delivers-none meaning (length y.asked.history.pool) (length y.answered.history.pool - length y.asked.history.pool) y.answered new
        (CatchUpLevels.no-more meaning laws y.answered.history.pool y.asked.history.pool (ap (λ (w : WorldModel S). w.history.pool) a)) y.answers in
        subst (λ (w : WorldModel S). Brought old w c q f.first kc kq) (sym (b ∙ a)) (record {
          after = asked.after;
          now = asked.now;
          couple = asked.couple;
          sent = sent-asked;
          stable = stable-asked;
          level = level-of y.asked c q f.first asked.after kc asked.now asked.couple all;
          others = first-others;
          brief = let e1 = events-asked in omega (arith, e1);
        })

    pub brought : Brought old new c q f.first kc kq
    brought = by asked.asks
      where
        by : AsksUpTo (who q world_group) kc.window.delivered asked.now asked.start asked.out → Brought old new c q f.first kc kq
        by (inl k) = by-answers k
        by (inr k) = by-silence k.0 k.1

  -- what the member delivered in the view is what its coordinator delivered there
  pub levels : (old new : WorldModel S) (n : ℕ) (pair : Pair) → CatchUpEnds.Keeps meaning laws old → pair_at old.node_states n ≡ Some pair → CatchesUp meaning pair old new → IsLevel pair new.history.trace
  levels old new n pair keeps e x =
      let f = CatchUpEnds.found meaning laws old n pair keeps e in
      let y = brought old new pair f x in
      subst (λ (v : ViewId). delivered_in pair.member v new.history.trace ≡ delivered_in pair.view.creator v new.history.trace) f.id
      ((CatchUpLevels.numbers meaning laws new pair.view.creator pair.member f.first y.after f.leads y.now y.couple).level y.level)
