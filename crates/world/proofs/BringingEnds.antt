-- The members of a view are brought in, and that ends in an error: one of them has crashed for want of memory, or a step was not begun, and all of them run.
use Rattle.std.proofs.Common.{◌≡◌, ℕ, zero, suc, ◌+◌, ◌-◌, Bool, true, false, List, [], ◌∷◌, Some, length, take, inl, inr, ⊎_elim, refl, ap, ◌∙◌}
use Rattle.std.specs.Prelude.{slice_get, ◌||◌}
use Rattle.std.proofs.lemmas.Bool.{or_left, or_right}
use Rattle.std.proofs.lemmas.Option.{none-some, same_Some}
use Rattle.address.specs.Ids.{Address, same_address}
use Rattle.address.proofs.SameIds.{same_address-refl}
use Rattle.view.specs.Members.{View, stands_in}
use Rattle.wire_values.specs.declared.packet.Body.TheVariants as bodies
use Rattle.wire_values.specs.Posted.{packet}
use Rattle.state_transfer.specs.Meanings.{Meaning}
use Rattle.law_acts.proofs.KeepBySteps
use Rattle.membership.specs.declared.member_state.MemberState.{MemberState}
use Rattle.world_model.specs.Packets.{world_group}
use Rattle.world.specs.Worlds.{WorldModel}
use Rattle.world.specs.Plays.{lacks_memory, Breaks, BreaksPast}
use Rattle.law_processes.proofs.PostsAreSpelled.{EachSound}
use Rattle.world.proofs.Deliveries.{breaks-none, breaks-next}
use Rattle.world.proofs.PoolPackets.{AreNext}
use Rattle.world.proofs.Standing
use Rattle.world.proofs.Standing.{Stands}
use Rattle.world.specs.Settles.{EndsSettling}
use Rattle.world.specs.LostInstalls.{awaited_at, BringsInShort, BringsShort}
use Rattle.world.specs.LostInstalls.BringsInShort.{AtTick, AtReport, AtInstall}
use Rattle.world.proofs.WhoAwaits
use Rattle.world.proofs.WhoAwaits.{Made, Awaits}
use Rattle.world.proofs.InstallsComeAgain
use Rattle.world.proofs.InstallsComeAgain.{IsOf, Gathered}
use Rattle.world.proofs.SettlingEnds
use Rattle.world.proofs.SettlingEnds.{AllStand, lost}
use Rattle.world.proofs.StageOfBringing
use Rattle.world.proofs.StageOfBringing.{Holds}
use Rattle.world.proofs.StageOfFlushes.{Keeps}
use Rattle.world.proofs.StageOfInstalls
use Rattle.world.proofs.StageOfInstalls.{state_packets}

-- what stands in a list
pub in-list : (qs : List Address) (k : ℕ) (q : Address) → slice_get qs k ≡ Some q → stands_in q qs ≡ true
in-list [] k q at = absurd (none-some q at)
in-list (p ∷ qs) zero q at = or_left (same_address q p) (stands_in q qs) (ap (same_address q) (same_Some p q at) ∙ same_address-refl q)
in-list (p ∷ qs) (suc k) q at = or_right (same_address q p) (stands_in q qs) (in-list qs k q at)

pub in-take : (qs : List Address) (k : ℕ) (q : Address) → stands_in q (take k qs) ≡ true → stands_in q qs ≡ true
in-take qs zero q there = absurd (let n : false ≡ true = there in cc)
in-take [] (suc k) q there = absurd (let n : false ≡ true = there in cc)
in-take (p ∷ qs) (suc k) q there = by (same_address q p) there (in-take qs k q)
  where
    by : (b : Bool) → b || stands_in q (take k qs) ≡ true → (stands_in q (take k qs) ≡ true → stands_in q qs ≡ true) → b || stands_in q qs ≡ true
    by true t later = refl
    by false t later = later t

module _ {S : Type 0} (meaning : Meaning S) (laws : KeepBySteps.Laws meaning) where
  all-stand : (w : WorldModel S) (c : Address) (l : MemberState S) (v : View) (qs : List Address) → Gathered meaning laws w c l v qs → AllStand meaning laws w v
  all-stand w c l v qs x q listed = by (x.each q listed)
    where
      by : IsOf meaning laws w l v q → SettlingEnds.Stood meaning laws w q
      by (inl y) = record { member_state = y.member_state; stands = y.stands }
      by (inr y) = record { member_state = y.member_state; stands = y.stands }

  -- at a STATE
  states-break : (n k past : ℕ) (w new : WorldModel S) (c q : Address) (v : View) (bytes : List ℕ) → Keeps meaning laws w → AllStand meaning laws w v → stands_in q v.members ≡ true
      → Holds meaning laws w v q bytes k → v.id.creator ≡ c → same_address q c ≡ false → EachSound world_group (state_packets c q v.id bytes (suc k) n)
      → AreNext past (state_packets c q v.id bytes (suc k) n) w.history.pool → Breaks meaning past n w new → EndsSettling v new
  states-break zero k past w new c q v bytes keeps all listed x own other sound next breaks = absurd (breaks-none meaning past 0 w new refl breaks)
  states-break (suc n) k past w new c q v bytes keeps all listed x own other sound next breaks =
      ⊎_elim (λ fails.
      SettlingEnds.fails-at meaning laws w new v q x.member_state (past + 1) _ keeps all listed x.stands (StageOfInstalls.state-for meaning laws w past n (suc k) c q v bytes other sound next) fails)
      (λ d.
      let y = StageOfBringing.first-held meaning laws n k past w d.mid c q v bytes keeps x own other sound next d.plays in
      states-break n (suc k) (past + 1) d.mid new c q v bytes y.on.leaves.keeps
      (SettlingEnds.all-still meaning laws w d.mid v q x.member_state all x.stands y.on.leaves.others (record { member_state = y.on.holds.member_state; stands = y.on.holds.stands })) listed y.on.holds own other
      y.sound y.next d.rest)
      (breaks-next meaning past (suc n) n w new refl breaks)

  -- ---- at one of them

  module _ (old : WorldModel S) (c q : Address) (l : MemberState S) (v : View) (m : Made meaning laws old c l v) (a : Awaits meaning laws old l v q) (all : AllStand meaning laws old v)
      (first : stands_in c v.members ≡ true) (listed : stands_in q v.members ≡ true) where
    abbrev k : MemberState S
    k = a.member_state

    still-asked : (asked : WorldModel S) → StageOfBringing.Asked meaning laws old asked q k v → AllStand meaning laws asked v
    still-asked asked x = SettlingEnds.all-still meaning laws old asked v q k all a.stands x.others (record { member_state = k; stands = x.stands })

    installs-break : (answered new : WorldModel S) (before : List (List ℕ)) (y : StageOfBringing.Answered meaning laws before answered c q l v)
        → Holds meaning laws answered v q (meaning.encode y.begun.state) 0 → AllStand meaning laws answered v → BreaksPast meaning (length before) answered new → EndsSettling v new
    installs-break answered new before y holds stand breaks =
        let bytes = meaning.encode y.begun.state in
        let chunks = state_packets c q v.id bytes 1 y.count in
        let last = packet c (bodies.Install y.install) q in
        let own = (InstallsComeAgain.install meaning laws old c q l v m a).own in
        let other = InstallsComeAgain.other meaning laws old c q l v m a in
        let next = InstallsComeAgain.packets-next meaning laws old c q l v m a answered before y in
        ⊎_elim (λ z.
        states-break y.count 0 (length before) answered new c q v bytes y.made.keeps stand listed holds own other (StageOfInstalls.all-front meaning laws _ chunks (last ∷ []) y.sound)
        (StageOfInstalls.next-front meaning laws (length before) chunks (last ∷ []) answered.history.pool next) z)
        (λ z.
        let i = InstallsComeAgain.by-chunks meaning laws old c q l v m a answered z.mid before y holds z.first in
        let now = SettlingEnds.all-still meaning laws answered z.mid v q holds.member_state stand holds.stands i.on.leaves.others (record { member_state = i.on.holds.member_state; stands = i.on.holds.stands }) in
        ⊎_elim (λ fails. SettlingEnds.fails-at meaning laws z.mid new v q i.on.holds.member_state (length before + y.count + 1) last i.on.leaves.keeps now listed i.on.holds.stands i.to fails)
        (λ d. absurd (breaks-none meaning (length before + y.count + 1) 0 d.mid new refl d.rest))
        (breaks-next meaning (length before + y.count) 1 0 z.mid new refl z.second))
        (SettlingEnds.breaks-split meaning laws y.count 1 (length before) (length answered.history.pool - length before) answered new (InstallsComeAgain.many meaning laws old c q l v m a answered before y) breaks)

    one-ends : (new : WorldModel S) → BringsInShort meaning q old new → EndsSettling v new
    one-ends _ (AtTick new (inl same)) = SettlingEnds.not-begun meaning laws old new v m.keeps all same
    one-ends _ (AtTick new (inr x)) = SettlingEnds.crashed meaning laws old new v q listed (lost (lacks_memory x.0.answer) x.1 (Standing.ticked meaning old new q k a.stands x.0))
    one-ends _ (AtReport asked new ticks fails) =
        let x = InstallsComeAgain.by-tick meaning laws old c q l v m a asked ticks in
        SettlingEnds.fails-at meaning laws asked new v c l (length asked.history.pool) _ x.keeps (still-asked asked x) first (InstallsComeAgain.made-still meaning laws old c q l v m a asked x).stands
        (InstallsComeAgain.report-next meaning laws old c q l v m a asked x) fails
    one-ends _ (AtInstall asked answered new ticks report breaks) =
        let x = InstallsComeAgain.by-tick meaning laws old c q l v m a asked ticks in
        let y = InstallsComeAgain.by-report meaning laws old c q l v m a asked answered x report in
        let made = InstallsComeAgain.made-still meaning laws old c q l v m a asked x in
        let stand = SettlingEnds.all-still meaning laws asked answered v c l (still-asked asked x) made.stands y.1 (record { member_state = l; stands = y.0.made.stands }) in
        installs-break answered new asked.history.pool y.0 (InstallsComeAgain.holding meaning laws old c q l v m a asked answered x y.0 y.1) stand breaks

  pub ends : (old new : WorldModel S) (n : ℕ) (v : View) → Keeps meaning laws old → awaited_at old.node_states n ≡ Some v → BringsShort meaning n v old new → EndsSettling v new
  ends old new n v keeps at short =
      let a = InstallsComeAgain.starts meaning laws old n v keeps at in
      let c = a.creator in
      let l = a.member_state in
      let g = InstallsComeAgain.all-gathered meaning laws old n c l v a.node a.gathered (take short.place v.members) short.mid (λ q there. in-take v.members short.place q there) short.before in
      let waits = InstallsComeAgain.test-awaits meaning laws short.mid n c short.last l v a.node g.made short.awaits in
      let first : stands_in c v.members ≡ true = (WhoAwaits.always meaning laws short.mid c l g.made.keeps g.made.stands).inside v g.made.view in
      one-ends short.mid c short.last l v g.made waits (all-stand short.mid c l v (take short.place v.members) g) first (in-list v.members short.place short.last short.stands) new short.short
