-- Calm rounds that end in an error: one of the view's members has crashed at last, or all of them are open in it.
use Rattle.std.proofs.Common.{◌≡◌, ℕ, suc, ◌+◌, ◌≤◌, Bool, true, false, List, [], ◌∷◌, length, nat_eq, inl, inr, refl, sym, ap, ◌∙◌, subst, take, ⊎_elim, None, Some}
use Rattle.address.specs.declared.limits.TheConstants.{OUTSTANDING}
use Rattle.address.specs.Ids.{Address, same_address}
use Rattle.address.proofs.SameIds.{same_address-true}
use Rattle.view.specs.Members.{View, stands_in}
use Rattle.view.specs.View.{view_refusal}
use Rattle.wire_values.specs.Posted.{Posted}
use Rattle.state_transfer.specs.Meanings.{Meaning}
use Rattle.trace_props.specs.declared.event.Numbered.{Numbered}
use Rattle.law_acts.proofs.KeepBySteps
use Rattle.law_processes.proofs.PostsAreSpelled.{EachSound}
use Rattle.traffic.specs.declared.coordinator.Coordinator.{Coordinator}
use Rattle.traffic.specs.declared.follower.Follower.{Follower}
use Rattle.traffic.specs.declared.view_state.ViewState.TheVariants as kinds
use Rattle.traffic.specs.Takes.{forward_of}
use Rattle.membership.specs.declared.member_state.MemberState.{MemberState}
use Rattle.world_model.specs.declared.WorldEvent.TheVariants.{Deliver}
use Rattle.world_model.specs.Packets.{world_group}
use Rattle.world.specs.Calm.{calm_at, pair_with, AllSpeak, CalmRound, AllOpen, EndsDelivering, SpeaksShort, AllSpeakShort, AllLevelShort, RoundShort, DeliversShort}
use Rattle.world.specs.Calm.SpeaksShort.{AtTick, AtPacket}
use Rattle.world.specs.Calm.RoundShort.{AtSpeak, AtLevel}
use Rattle.world.specs.Calm.DeliversShort.{AtFirst, AtSecond, AtThird, AtFourth}
use Rattle.world.specs.Gaps.{is_open_in, LosesOne}
use Rattle.world.specs.Invariant.{IsWorld}
use Rattle.world.specs.Plays.{lacks_memory, Fails, Breaks}
use Rattle.world.specs.Worlds.{WorldModel}
use Rattle.world.proofs.BringingEnds.{in-list, in-take}
use Rattle.world.proofs.CalmRounds
use Rattle.world.proofs.CatchUpLevels
use Rattle.world.proofs.CatchUpStops
use Rattle.world.proofs.Deliveries.{breaks-none, breaks-next}
use Rattle.world.proofs.Groups
use Rattle.world.proofs.HearsAll
use Rattle.world.proofs.LevelsMore
use Rattle.world.proofs.PoolPackets.{AreNext}
use Rattle.world.proofs.RepliesPlayed
use Rattle.world.proofs.Standing

module _ {S : Type 0} (meaning : Meaning S) (laws : KeepBySteps.Laws meaning) where
  abbrev Group : WorldModel S → Address → MemberState S → Coordinator → Type 0
  Group w c l k = Groups.Group meaning laws w c l k

  -- ---- one member speaks

  module _ (w new : WorldModel S) (c : Address) (l : MemberState S) (k : Coordinator) (g : Group w c l k) where
    -- a step was not begun
    not-begun : new ≡ w → EndsDelivering k.view new
    not-begun same = inr (subst (AllOpen k.view) (sym same) (Groups.group-open meaning laws w c l k g))

    -- a packet to the coordinator
    first-fails : (number : ℕ) (m : Posted) → Standing.IsFor meaning w number c m → Fails meaning w (Deliver number) new → EndsDelivering k.view new
    first-fails number m f (inl same) = not-begun same
    first-fails number m f (inr y) =
        let z = CatchUpLevels.lost meaning laws (lacks_memory y.0.answer) y.1 (Standing.heard meaning laws w new g.keeps number c l g.first.stands m f y.0) in
        inl (record { lost = c; listed = (Groups.facts meaning laws w c l (kinds.Coordinator k) g.keeps g.first).inside.listed; before = w.history.trace; crash = z.trace })

  module _ (c q : Address) (lq : MemberState S) (kq : Follower) (other : same_address q c ≡ false) (few : length kq.forwards.rest ≤ OUTSTANDING) where
    hear-breaks : (fs : List Numbered) (past : ℕ) (w new : WorldModel S) (l : MemberState S) (k : Coordinator) → Group w c l k → stands_in q k.view.members ≡ true → RepliesPlayed.RunsAs meaning w q lq (kinds.Follower kq)
        → kq.view ≡ k.view → HearsAll.Among meaning laws fs kq.forwards.rest → EachSound world_group (HearsAll.told_packets meaning laws q k.view fs kq.window.delivered)
        → AreNext past (HearsAll.told_packets meaning laws q k.view fs kq.window.delivered) w.history.pool → Breaks meaning past (length (HearsAll.told_packets meaning laws q k.view fs kq.window.delivered)) w new
        → EndsDelivering k.view new
    hear-breaks [] past w new l k g there r same among sound next all =
        ⊎_elim (λ fails. first-fails w new c l k g (past + 1) _ (HearsAll.last-for meaning laws c q lq kq other few past w l k g there r same sound next) fails)
        (λ d. absurd (breaks-none meaning (past + 1) 0 d.mid new refl d.rest))
        (breaks-next meaning past 1 0 w new refl all)
    hear-breaks (f ∷ fs) past w new l k g there r same among sound next all =
        let rest = HearsAll.told_packets meaning laws q k.view fs kq.window.delivered in
        ⊎_elim (λ fails. first-fails w new c l k g (past + 1) _ (HearsAll.forward-for meaning laws c q lq kq other few past w l k g there r same f fs sound next) fails)
        (λ d.
        let b = HearsAll.begun meaning laws c q lq kq other few past w l k g there r same f fs sound next among d.mid d.plays in
        subst (λ (v : View). EndsDelivering v new) b.goes.further.view
        (hear-breaks fs (past + 1) d.mid new b.goes.after b.goes.now b.goes.group b.listed b.still b.same (λ j e at. among (suc j) e at) b.sound b.next
        (subst (λ (v : View). Breaks meaning (past + 1) (length (HearsAll.told_packets meaning laws q v fs kq.window.delivered)) d.mid new) (sym b.goes.further.view) d.rest)))
        (breaks-next meaning past (length (forward_of q k.view f ∷ rest)) (length rest) w new refl all)

  speak-ends : (old new : WorldModel S) (c : Address) (l : MemberState S) (k : Coordinator) → Group old c l k → (q : Address) → stands_in q k.view.members ≡ true → same_address q c ≡ false → SpeaksShort meaning q old new
      → EndsDelivering k.view new
  speak-ends old _ c l k g q there other (AtTick new (inl same)) = not-begun old new c l k g same
  speak-ends old _ c l k g q there other (AtTick new (inr f)) =
      let a = g.others q there other in
      let y = CatchUpLevels.lost meaning laws (lacks_memory f.0.answer) f.1 (Standing.ticked meaning old new q a.member_state a.runs.stands f.0) in
      inl (record { lost = q; listed = there; before = old.history.trace; crash = y.trace })
  speak-ends old _ c l k g q there other (AtPacket told new ticks breaks) =
      let a = g.others q there other in
      let t = HearsAll.ready meaning laws old told c l k g q other a.member_state a.follows a.runs a.view ticks in
      hear-breaks c q a.member_state a.follows other t.few a.follows.forwards.rest (length old.history.pool) told new l k t.group there t.runs a.view (λ j f at. (j, at)) t.sound t.next
      (subst (λ (n : ℕ). Breaks meaning (length old.history.pool) n told new) t.many breaks)

  all-speak-ends : (old new : WorldModel S) (c : Address) (l : MemberState S) (k : Coordinator) → Group old c l k → AllSpeakShort meaning c k.view.members old new → EndsDelivering k.view new
  all-speak-ends old new c l k g x =
      let s = HearsAll.all-spoken meaning laws old c l k g (take x.place k.view.members) x.mid (in-take k.view.members x.place) x.before in
      let there = in-list k.view.members x.place x.last x.stands in
      subst (λ (v : View). EndsDelivering v new) s.further.view
      (speak-ends x.mid new c s.after s.now s.group x.last (ap (λ (v : View). stands_in x.last v.members) s.further.view ∙ there) x.other x.short)

  -- ---- one member is brought level

  all-level-ends : (old new : WorldModel S) (c : Address) (l : MemberState S) (k : Coordinator) → Group old c l k → AllLevelShort meaning k.view.id k.view.members old new → EndsDelivering k.view new
  all-level-ends old new c l k g x = by (CatchUpStops.ends-from meaning laws x.mid new (pair_with meaning k.view.id x.last) (LevelsMore.pair-found meaning laws x.mid c l k group x.last other last) x.short)
    where
      group : Group x.mid c l k
      group = (LevelsMore.all-levelled meaning laws old c l k g (take x.place k.view.members) x.mid (in-take k.view.members x.place) x.before).group

      other : same_address x.last c ≡ false
      other = ap (same_address x.last) (sym g.own) ∙ x.other

      there : stands_in x.last k.view.members ≡ true
      there = in-list k.view.members x.place x.last x.stands

      last : Groups.Another meaning laws x.mid k.view x.last
      last = group.others x.last there other

      coordinator : stands_in k.view.id.creator k.view.members ≡ true
      coordinator = ap (λ (p : Address). stands_in p k.view.members) g.own ∙ (Groups.facts meaning laws x.mid c l (kinds.Coordinator k) group.keeps group.first).inside.listed

      -- all but the two stand as they stood
      open-by : CatchUpStops.Unharmed meaning laws (pair_with meaning k.view.id x.last) x.mid new → (q : Address) → stands_in q k.view.members ≡ true → (a b : Bool) → same_address q c ≡ a → same_address q x.last ≡ b
          → is_open_in q k.view.id (new.node_states q.node) ≡ true
      open-by u q listed true b same apart =
          subst (λ (z : Address). is_open_in z k.view.id (new.node_states z.node) ≡ true) (g.own ∙ sym (same_address-true q c same)) u.both.coordinator
      open-by u q listed false true apart same = subst (λ (z : Address). is_open_in z k.view.id (new.node_states z.node) ≡ true) (sym (same_address-true q x.last same)) u.both.member
      open-by u q listed false false from_first from_last =
          let a = group.others q listed from_first in
          let one : nat_eq k.view.id.creator.node q.node ≡ false =
          ap (λ (p : Address). nat_eq p.node q.node) g.own ∙ Standing.nodes-apart meaning x.mid c q l a.member_state group.first.stands a.runs.stands from_first in
          let two : nat_eq x.last.node q.node ≡ false = Standing.nodes-apart meaning x.mid x.last q last.member_state a.member_state last.runs.stands a.runs.stands from_last in
          ap (is_open_in q k.view.id) (u.rest q.node one two) ∙ Groups.group-open meaning laws x.mid c l k group q listed

      lost-by : (y : LosesOne (pair_with meaning k.view.id x.last) new) → EndsDelivering k.view new
      lost-by y = ⊎_elim (λ crash. inl (record { lost = k.view.id.creator; listed = coordinator; before = y.before; crash = crash })) (λ crash. inl (record { lost = x.last; listed = there; before = y.before; crash = crash })) y.crash

      by : CatchUpStops.Ends meaning laws (pair_with meaning k.view.id x.last) x.mid new → EndsDelivering k.view new
      by (inl y) = lost-by y
      by (inr u) = inr (λ q listed. open-by u q listed (same_address q c) (same_address q x.last) refl refl)

  -- ---- a round

  -- all members of a view, whose coordinator has this address
  record GroupIn (w : WorldModel S) (c : Address) (v : View) : Type 0 where
    member_state : MemberState S
    leads : Coordinator
    group : Group w c member_state leads
    view : leads.view ≡ v

  next : (old new : WorldModel S) (c : Address) (v : View) → GroupIn old c v → CalmRound meaning v old new → GroupIn new c v
  next old new c v i x =
      let r = CalmRounds.round-done meaning laws old new c i.member_state i.leads i.group (CalmRounds.SentBy meaning laws old i.leads.view.id) (λ p there. refl) (subst (λ (u : View). CalmRound meaning u old new) (sym i.view) x) in
      record { member_state = r.after; leads = r.now; group = r.group; view = r.further.view ∙ i.view }

  group-ends : (old new : WorldModel S) (c : Address) (l : MemberState S) (k : Coordinator) → Group old c l k → RoundShort meaning k.view old new → EndsDelivering k.view new
  group-ends old _ c l k g (AtSpeak new x) = all-speak-ends old new c l k g (subst (λ (p : Address). AllSpeakShort meaning p k.view.members old new) g.own x)
  group-ends old _ c l k g (AtLevel mid new speak x) =
      let s = HearsAll.all-spoken meaning laws old c l k g k.view.members mid (λ q there. there) (subst (λ (p : Address). AllSpeak meaning p old k.view.members mid) g.own speak) in
      subst (λ (v : View). EndsDelivering v new) s.further.view
      (all-level-ends mid new c s.after s.now s.group (subst (λ (v : View). AllLevelShort meaning v.id v.members mid new) (sym s.further.view) x))

  round-ends : (old new : WorldModel S) (c : Address) (v : View) → GroupIn old c v → RoundShort meaning v old new → EndsDelivering v new
  round-ends old new c v i x =
      subst (λ (u : View). EndsDelivering u new) i.view (group-ends old new c i.member_state i.leads i.group (subst (λ (u : View). RoundShort meaning u old new) (sym i.view) x))

  -- ---- four of them

  rounds-end : (old new : WorldModel S) (c : Address) (v : View) → GroupIn old c v → DeliversShort meaning v old new → EndsDelivering v new
  rounds-end old _ c v i (AtFirst new x) = round-ends old new c v i x
  rounds-end old _ c v i (AtSecond one new a x) = round-ends one new c v (next old one c v i a) x
  rounds-end old _ c v i (AtThird one two new a b x) = round-ends two new c v (next one two c v (next old one c v i a) b) x
  rounds-end old _ c v i (AtFourth one two three new a b d x) = round-ends three new c v (next two three c v (next one two c v (next old one c v i a) b) d) x

  pub calm-ends : (old new : WorldModel S) (n : ℕ) (v : View) → view_refusal v.id v.members ≡ None → IsWorld meaning old.node_states old.history → calm_at old.node_states n ≡ Some v → DeliversShort meaning v old new
      → EndsDelivering v new
  calm-ends old new n v sound keeps at x =
      let y = CalmRounds.calm-is meaning laws old n v at in
      let l = CalmRounds.leader meaning laws old n v keeps sound y in
      rounds-end old new v.id.creator v (record { member_state = l.member_state; leads = l.leads; group = CalmRounds.group-of meaning laws old n v keeps sound y; view = l.view }) x
