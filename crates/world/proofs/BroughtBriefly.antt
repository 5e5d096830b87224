-- How many events it takes to bring the members of a view in: 35 for each but its creator.
use Rattle.std.proofs.Common.{◌≡◌, ◌≤◌, ℕ, ◌+◌, ◌-◌, Bool, true, false, cond, not, Some, List, [], ◌∷◌, ◌++◌, filter, length, refl, ap, ◌∙◌, subst, arith, length-append}
use Rattle.std.specs.Prelude.{◌*◌, None, MatchBool}
use Rattle.std.proofs.lemmas.List.Elements.{filter-append}
use Rattle.address.specs.declared.limits.TheConstants.{MEMBERS}
use Rattle.address.specs.Ids.{Address, same_address}
use Rattle.address.proofs.SameIds.{same_address-refl}
use Rattle.view.specs.Members.{View, stands_in}
use Rattle.view.specs.View.{view_refusal}
use Rattle.state_transfer.specs.Meanings.{Meaning}
use Rattle.law_acts.specs.Acts.{others_of}
use Rattle.law_acts.proofs.KeepBySteps
use Rattle.law_acts.proofs.RegistersHoldPackets.{flush-stands}
use Rattle.law_acts.specs.Packets.{IsProposal, BodyFact}
use Rattle.wire_values.specs.declared.packet.Body.{Body}
use Rattle.membership.specs.declared.member_state.MemberState.{MemberState}
use Rattle.world_model.specs.declared.WorldEvent.TheVariants.{Deliver, Tick}
use Rattle.world.specs.Worlds.{WorldModel}
use Rattle.world.proofs.MembersAsSystem.{system_of}
use Rattle.world.proofs.Standing
use Rattle.world.specs.LostInstalls.{awaits_install, awaited_at, BringsIn, BringsAll}
use Rattle.world.specs.LostInstalls.BringsAll.{Nobody, Next}
use Rattle.world.proofs.WhoAwaits
use Rattle.world.proofs.WhoAwaits.{Made, Awaits}
use Rattle.world.proofs.SettlingsAreBrief.{shorter, members-few}
use Rattle.world.proofs.InstallsComeAgain
use Rattle.world.proofs.InstallsComeAgain.{Gathered, AreListed}
use Rattle.world.proofs.SettlingsSettle
use Rattle.world.proofs.StageOfFlushes.{Keeps}

module _ {S : Type 0} (meaning : Meaning S) (laws : KeepBySteps.Laws meaning) where
  -- one of them
  one-brief : (old new : WorldModel S) (c q : Address) (l : MemberState S) (v : View) → Made meaning laws old c l v → Awaits meaning laws old l v q → BringsIn meaning q old new
      → length new.history.events ≤ length old.history.events + 35
  one-brief old new c q l v m a b =
      let x = InstallsComeAgain.by-tick meaning laws old c q l v m a b.asked b.ticks in
      let y = (InstallsComeAgain.by-report meaning laws old c q l v m a b.asked b.answered x b.report).0 in
      let few = y.few in
      let many = InstallsComeAgain.many meaning laws old c q l v m a b.answered b.asked.history.pool y in
      let e1 = SettlingsSettle.adds meaning laws old b.asked (Tick q.node) b.ticks in
      let e2 = SettlingsSettle.adds meaning laws b.asked b.answered (Deliver (length b.asked.history.pool)) b.report in
      let e3 = SettlingsSettle.adds-all meaning laws _ _ b.answered new b.installs in
      count (length old.history.events) (length b.asked.history.events) (length b.answered.history.events) (length new.history.events) y.count
      (length b.answered.history.pool - length b.asked.history.pool) few many e1 e2 e3
    where
      count : (a b d e n k : ℕ) → n ≤ 32 → k ≡ n + 1 → b ≡ a + 1 → d ≡ b + 1 → e ≡ d + k → e ≤ a + 35
      count a b d e n k few many e1 e2 e3 = omega (arith, few, many, e1, e2, e3)

  -- so many others more
  others-more : (c q : Address) (qs : List Address) (b : Bool) → same_address q c ≡ b → length (others_of c (qs ++ q ∷ [])) ≡ length (others_of c qs) + length (filter (λ r. not b) (q ∷ []))
  others-more c q qs b e =
      ap length (filter-append (λ r. not (same_address r c)) qs (q ∷ [])) ∙ length-append (others_of c qs) (others_of c (q ∷ [])) ∙ ap (λ (n : ℕ). length (others_of c qs) + n) (one b e)
    where
      one : (b : Bool) → same_address q c ≡ b → length (others_of c (q ∷ [])) ≡ length (filter (λ r. not b) (q ∷ []))
      one b e = ap (λ (d : Bool). length (cond (not d) (q ∷ []) [])) e

  next-brief : (mid new : WorldModel S) (n : ℕ) (c q : Address) (l : MemberState S) (v : View) (qs : List Address) (start : ℕ) (b : Bool) → c.node ≡ n → Gathered meaning laws mid c l v qs
      → awaits_install mid.node_states n v q ≡ b → MatchBool b (BringsIn meaning q mid new) (new ≡ mid) → length mid.history.events ≤ start + 35 * length (others_of c qs)
      → length new.history.events ≤ start + 35 * length (others_of c (qs ++ q ∷ []))
  next-brief mid new n c q l v qs start true node x e plays before =
      let a = InstallsComeAgain.test-awaits meaning laws mid n c q l v node x.made e in
      let other = InstallsComeAgain.other meaning laws mid c q l v x.made a in
      let one = one-brief mid new c q l v x.made a plays in
      let more = others-more c q qs false other in
      omega (arith, before, one, more)
  next-brief mid new n c q l v qs start false node x e same before =
      let more = others-more c q qs (same_address q c) refl in
      let still : length new.history.events ≡ length mid.history.events = ap (λ (w : WorldModel S). length w.history.events) same in
      omega (arith, before, still, more)

  all-brief : (old : WorldModel S) (n : ℕ) (c : Address) (l : MemberState S) (v : View) → c.node ≡ n → Gathered meaning laws old c l v [] → (qs : List Address) (new : WorldModel S) → AreListed meaning laws v qs
      → BringsAll meaning n v old qs new → length new.history.events ≤ length old.history.events + 35 * length (others_of c qs)
  all-brief old n c l v node x _ _ listed Nobody = omega arith
  all-brief old n c l v node x _ _ listed (Next qs q mid new before plays) =
      let few = λ (p : Address) (there : stands_in p qs ≡ true). listed p (InstallsComeAgain.in-front meaning laws p q qs there) in
      let y = InstallsComeAgain.all-gathered meaning laws old n c l v node x qs mid few before in
      next-brief mid new n c q l v qs (length old.history.events) (awaits_install mid.node_states n v q) node y refl plays (all-brief old n c l v node x qs mid few before)

  -- the view has few members
  members-of : (w : WorldModel S) (c q : Address) (l : MemberState S) (v : View) → Made meaning laws w c l v → Awaits meaning laws w l v q → view_refusal v.id v.members ≡ None
  members-of w c q l v m a =
      let s = system_of w.node_states w.history.pool w.history.trace in
      let i = WhoAwaits.keeps-for meaning laws w c q l v m a.kept in
      let put = flush-stands i.install.view.id i.install.view.members s.history.pool i.instruction.led.announced in
      let posted = put.2.posted in
      let fact : IsProposal s.history posted.source i.install.view =
      subst (λ (b : Body). BodyFact s.history posted.source posted.destination b) put.2.says ((Standing.agreed-in meaning laws w m.keeps).agreed.packets put.2.place posted put.2.stands) in
      subst (λ (u : View). view_refusal u.id u.members ≡ None) i.view fact.view

  -- AND IN A BOUNDED NUMBER OF EVENTS
  pub brief : (old new : WorldModel S) (n : ℕ) (v : View) → Keeps meaning laws old → awaited_at old.node_states n ≡ Some v → BringsAll meaning n v old v.members new
      → length new.history.events ≤ length old.history.events + 526
  brief old new n v keeps at x =
      let a = InstallsComeAgain.starts meaning laws old n v keeps at in
      let c = a.creator in
      let l = a.member_state in
      let made = a.gathered.made in
      let all = all-brief old n c l v a.node a.gathered v.members new (λ q there. there) x in
      let listed : stands_in c v.members ≡ true = (WhoAwaits.always meaning laws old c l made.keeps made.stands).inside v made.view in
      let fewer = shorter (λ q. not (same_address q c)) c v.members (ap not (same_address-refl c)) listed in
      let sixteen = members-few v.id v.members (members-of old c a.one l v made a.awaits) in
      count (length old.history.events) (length new.history.events) (length (others_of c v.members)) (length v.members) all fewer sixteen
    where
      count : (a b o s : ℕ) → b ≤ a + 35 * o → o + 1 ≤ s → s ≤ MEMBERS → b ≤ a + 526
      count a b o s all fewer sixteen = omega (arith, all, fewer, sixteen)
