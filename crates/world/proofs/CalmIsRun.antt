-- The steps of a round in a calm view, as the code goes along the view's list.
use Rattle.std.proofs.Common.{◌≡◌, ℕ, ◌+◌, ◌<◌, Bool, true, false, not, refl, Some, Result, Ok, Err, List, [], ◌∷◌, ◌++◌, take, length, get_or, sym, ap, ◌∙◌, subst}
use Rattle.std.specs.Prelude.{MatchBool, OnOk}
use Rattle.std.proofs.lemmas.List.{take_more}
use Rattle.address.specs.Ids.{Address, ViewId, same_address}
use Rattle.view.specs.Members.{View}
use Rattle.state_transfer.specs.Meanings.{Meaning}
use Rattle.world.specs.Worlds.{WorldModel}
use Rattle.world.specs.Gaps.{CatchesUp}
use Rattle.world.specs.Calm.{Speaks, AllSpeak, AllLevel, CalmRound, DeliversAll, pair_with}
use Rattle.world.specs.Calm.AllSpeak.{NobodySpeaks, NextSpeaks}
use Rattle.world.specs.Calm.AllLevel.{NobodyLevels, NextLevels}
use Rattle.world.specs.Calm.{SpeaksShort, AllSpeakShort, AllLevelShort, RoundShort, DeliversShort}
use Rattle.world.specs.Calm.SpeaksShort.{AtTick, AtPacket}
use Rattle.world.specs.Calm.RoundShort.{AtSpeak, AtLevel}
use Rattle.world.specs.Calm.DeliversShort.{AtFirst, AtSecond, AtThird, AtFourth}
use Rattle.world.specs.Worlds.{Runs, IsLonger}
use Rattle.world.specs.Worlds.Runs.{Still, Next}
use Rattle.world.specs.Gaps.{Stops}
use Rattle.world_model.specs.declared.WorldEvent.{WorldEvent}
use Rattle.world.proofs.CatchUpIsRun.{catches-ran, stops-ran}
use Rattle.world.proofs.PlaysRun.{Ran, none-yet, stepped, failed, delivered, broken, ran-longer}
use Rattle.std.proofs.lemmas.Option.{slice_get-get_or}

pub not-false : (x b : Bool) → x ≡ not b → x ≡ true → b ≡ false
not-false x true e t = absurd (let bad : false ≡ true = sym e ∙ t in cc)
not-false x false e t = refl

pub not-true : (x b : Bool) → x ≡ not b → x ≡ false → b ≡ true
not-true x true e t = refl
not-true x false e t = absurd (let bad : true ≡ false = sym e ∙ t in cc)

module _ {S : Type 0} (meaning : Meaning S) where
  pub more-speaks : (c : Address) (old mid new : WorldModel S) (qs : List Address) (k : ℕ) (q : Address) (b : Bool) → k < length qs → q ≡ get_or qs k q → AllSpeak meaning c old (take k qs) mid
      → same_address q c ≡ b → MatchBool b (new ≡ mid) (Speaks meaning q mid new) → AllSpeak meaning c old (take (k + 1) qs) new
  more-speaks c old mid new qs k q b inside is before e x =
      subst (λ (l : List Address). AllSpeak meaning c old l new) (ap (λ (d : Address). take k qs ++ d ∷ []) is ∙ sym (take_more qs k q inside))
      (NextSpeaks (take k qs) q mid new before (subst (λ (d : Bool). MatchBool d (new ≡ mid) (Speaks meaning q mid new)) (sym e) x))

  pub more-levels : (v : ViewId) (old mid new : WorldModel S) (qs : List Address) (k : ℕ) (q : Address) (b : Bool) → k < length qs → q ≡ get_or qs k q → AllLevel meaning v old (take k qs) mid
      → same_address q v.creator ≡ b → MatchBool b (new ≡ mid) (CatchesUp meaning (pair_with meaning v q) mid new) → AllLevel meaning v old (take (k + 1) qs) new
  more-levels v old mid new qs k q b inside is before e x =
      subst (λ (l : List Address). AllLevel meaning v old l new) (ap (λ (d : Address). take k qs ++ d ∷ []) is ∙ sym (take_more qs k q inside))
      (NextLevels (take k qs) q mid new before (subst (λ (d : Bool). MatchBool d (new ≡ mid) (CatchesUp meaning (pair_with meaning v q) mid new)) (sym e) x))

  pub four : {T E : Type 0} (result : Result T E) (v : View) (old one two three new : WorldModel S) → CalmRound meaning v old one → CalmRound meaning v one two → CalmRound meaning v two three
      → OnOk result (CalmRound meaning v three new) → OnOk result (DeliversAll meaning v old new)
  four (Ok x) v old one two three new a b c d = record { one = one; two = two; three = three; first = a; second = b; third = c; fourth = d }
  four (Err e) v old one two three new a b c d = tt

  -- ---- they are runs

  then-runs : (a b : WorldModel S) → Ran meaning a b → (events : List WorldEvent) (c : WorldModel S) → Runs meaning b events c → Ran meaning a c
  then-runs a b r _ _ Still = r
  then-runs a b r _ _ (Next events mid e new before step) = stepped meaning a mid new e (then-runs a b r events mid before) step

  and-then : (a b c : WorldModel S) → Ran meaning a b → Ran meaning b c → Ran meaning a c
  and-then a b c r s = then-runs a b r s.events c s.runs

  spoke-ran : (q : Address) (old new : WorldModel S) → Speaks meaning q old new → Ran meaning old new
  spoke-ran q old new x = delivered meaning old _ _ x.told new (stepped meaning old old x.told _ (none-yet meaning old) x.ticks.step) x.heard

  speaks-short-ran : (q : Address) (old new : WorldModel S) → SpeaksShort meaning q old new → Ran meaning old new
  speaks-short-ran q old _ (AtTick new fails) = failed meaning old old new _ (none-yet meaning old) fails
  speaks-short-ran q old _ (AtPacket told new ticks breaks) = broken meaning old _ _ told new (stepped meaning old old told _ (none-yet meaning old) ticks.step) breaks

  one-ran : (b : Bool) (old mid new : WorldModel S) (P : Type 0) → Ran meaning old mid → (P → Ran meaning mid new) → MatchBool b (new ≡ mid) P → Ran meaning old new
  one-ran true old mid new P r f same = subst (Ran meaning old) (sym same) r
  one-ran false old mid new P r f x = and-then old mid new r (f x)

  all-spoke-ran : (c : Address) (old : WorldModel S) (qs : List Address) (new : WorldModel S) → AllSpeak meaning c old qs new → Ran meaning old new
  all-spoke-ran c old _ _ NobodySpeaks = none-yet meaning old
  all-spoke-ran c old _ _ (NextSpeaks qs q mid new before x) = one-ran (same_address q c) old mid new (Speaks meaning q mid new) (all-spoke-ran c old qs mid before) (spoke-ran q mid new) x

  all-level-ran : (v : ViewId) (old : WorldModel S) (qs : List Address) (new : WorldModel S) → AllLevel meaning v old qs new → Ran meaning old new
  all-level-ran v old _ _ NobodyLevels = none-yet meaning old
  all-level-ran v old _ _ (NextLevels qs q mid new before x) =
      one-ran (same_address q v.creator) old mid new (CatchesUp meaning (pair_with meaning v q) mid new) (all-level-ran v old qs mid before) (catches-ran meaning (pair_with meaning v q) mid new) x

  round-ran : (v : View) (old new : WorldModel S) → CalmRound meaning v old new → Ran meaning old new
  round-ran v old new x = and-then old x.mid new (all-spoke-ran v.id.creator old v.members x.mid x.speak) (all-level-ran v.id x.mid v.members new x.level)

  round-short-ran : (v : View) (old new : WorldModel S) → RoundShort meaning v old new → Ran meaning old new
  round-short-ran v old _ (AtSpeak new x) = and-then old x.mid new (all-spoke-ran v.id.creator old _ x.mid x.before) (speaks-short-ran x.last x.mid new x.short)
  round-short-ran v old _ (AtLevel mid new speak x) =
      and-then old mid new (all-spoke-ran v.id.creator old v.members mid speak) (and-then mid x.mid new (all-level-ran v.id mid _ x.mid x.before) (stops-ran meaning (pair_with meaning v.id x.last) x.mid new x.short))

  pub delivers-longer : (v : View) (old new : WorldModel S) → DeliversAll meaning v old new → IsLonger old.history new.history
  delivers-longer v old new x =
      ran-longer meaning old new (and-then old x.three new (and-then old x.two x.three (and-then old x.one x.two (round-ran v old x.one x.first) (round-ran v x.one x.two x.second)) (round-ran v x.two x.three x.third))
      (round-ran v x.three new x.fourth))

  short-ran : (v : View) (old new : WorldModel S) → DeliversShort meaning v old new → Ran meaning old new
  short-ran v old _ (AtFirst new x) = round-short-ran v old new x
  short-ran v old _ (AtSecond one new a x) = and-then old one new (round-ran v old one a) (round-short-ran v one new x)
  short-ran v old _ (AtThird one two new a b x) = and-then old two new (and-then old one two (round-ran v old one a) (round-ran v one two b)) (round-short-ran v two new x)
  short-ran v old _ (AtFourth one two three new a b d x) =
      and-then old three new (and-then old two three (and-then old one two (round-ran v old one a) (round-ran v one two b)) (round-ran v two three d)) (round-short-ran v three new x)

  pub short-longer : (v : View) (old new : WorldModel S) → DeliversShort meaning v old new → IsLonger old.history new.history
  short-longer v old new x = ran-longer meaning old new (short-ran v old new x)

  -- ---- the errors, as the code meets them

  pub speak-stops : (members : List Address) (c : Address) (old mid new : WorldModel S) (k : ℕ) (q : Address) → k < length members → q ≡ get_or members k q → AllSpeak meaning c old (take k members) mid → same_address q c ≡ false
      → SpeaksShort meaning q mid new → AllSpeakShort meaning c members old new
  speak-stops members c old mid new k q inside is before other short =
      record { place = k; last = q; stands = slice_get-get_or members k q inside ∙ ap Some (sym is); mid = mid; before = before; other = other; short = short }

  pub level-stops : (members : List Address) (v : ViewId) (old mid new : WorldModel S) (k : ℕ) (q : Address) → k < length members → q ≡ get_or members k q → AllLevel meaning v old (take k members) mid → same_address q v.creator ≡ false
      → Stops meaning (pair_with meaning v q) mid new → AllLevelShort meaning v members old new
  level-stops members v old mid new k q inside is before other short =
      record { place = k; last = q; stands = slice_get-get_or members k q inside ∙ ap Some (sym is); mid = mid; before = before; other = other; short = short }
