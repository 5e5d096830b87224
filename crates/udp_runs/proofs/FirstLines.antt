-- The first line of a text.
use Rattle.std.proofs.Common.{◌≡◌, ℕ, suc, ◌+◌, ◌≤◌, ◌-◌, Bool, true, false, cond, not, nat_eq, Option, Some, None, List, [], ◌∷◌, ◌++◌, length, take, drop, refl, sym, ap, ◌∙◌, subst, arith, eqb-true, length-append, length-drop, ◌||◌}
use Rattle.std.proofs.lemmas.Option.{none-some, same_Some}
use Rattle.std.proofs.Math.Seq.{drop-drop}
use Rattle.std.specs.Prelude.{min, unwrap_or}
use Rattle.std.specs.List.{position_or_len, list_any}
use Rattle.vsync_text.specs.Lines.{before_byte, behind, behind_byte}
use Rattle.udp_runs.specs.Outboxes.{OutboxModel, without_next}
use Rattle.udp_runs.specs.Came.{IsOneLine}

abbrev is_feed : ℕ → Bool
is_feed b = nat_eq b 10

module _ (b n : ℕ) (bs rest : List ℕ) where
  split-step : (c : Bool) → nat_eq b 10 ≡ c → (behind (drop n bs) ≡ Some rest → bs ≡ take n bs ++ 10 ∷ rest) → behind (drop (cond (not c) (1 + n) 0) (b ∷ bs)) ≡ Some rest
      → b ∷ bs ≡ take (cond (not c) (1 + n) 0) (b ∷ bs) ++ 10 ∷ rest
  split-step true e more is = ap (λ (k : ℕ). k ∷ bs) (eqb-true b 10 e) ∙ ap (λ (l : List ℕ). 10 ∷ l) (same_Some bs rest is)
  split-step false e more is =
      let s : suc n ≡ 1 + n = omega arith in
      subst (λ (k : ℕ). behind (drop k (b ∷ bs)) ≡ Some rest → b ∷ bs ≡ take k (b ∷ bs) ++ 10 ∷ rest) s (λ h. ap (λ (l : List ℕ). b ∷ l) (more h)) is

  one-step : (c : Bool) → nat_eq b 10 ≡ c → list_any is_feed (take n bs) ≡ false → list_any is_feed (take (cond (not c) (1 + n) 0) (b ∷ bs)) ≡ false
  one-step true e more = refl
  one-step false e more =
      let s : suc n ≡ 1 + n = omega arith in
      subst (λ (k : ℕ). list_any is_feed (take k (b ∷ bs)) ≡ false) s (ap (λ (x : Bool). x || list_any is_feed (take n bs)) e ∙ more)

-- a text that has a whole line is that line, its line feed, and what stands behind
pub whole-splits : (t rest : List ℕ) → behind_byte 10 t ≡ Some rest → t ≡ before_byte 10 t ++ 10 ∷ rest
whole-splits [] rest is = absurd (none-some rest is)
whole-splits (b ∷ bs) rest is = split-step b (position_or_len is_feed bs) bs rest (nat_eq b 10) refl (whole-splits bs rest) is

-- the line has no line feed
pub before-one : (t : List ℕ) → IsOneLine (before_byte 10 t)
before-one [] = refl
before-one (b ∷ bs) = one-step b (position_or_len is_feed bs) bs [] (nat_eq b 10) refl (before-one bs)

pub drop-past : (line rest : List ℕ) → drop (length line + 1) (line ++ 10 ∷ rest) ≡ rest
drop-past [] rest = refl
drop-past (b ∷ line) rest =
    let s : suc (length line + 1) ≡ suc (length line) + 1 = omega arith in
    subst (λ (k : ℕ). drop k (b ∷ (line ++ 10 ∷ rest)) ≡ rest) s (drop-past line rest)

-- what stands behind the line
pub behind-is : (t rest : List ℕ) → behind_byte 10 t ≡ Some rest → drop (length (before_byte 10 t) + 1) t ≡ rest
behind-is t rest is =
    ap (drop (length (before_byte 10 t) + 1)) (whole-splits t rest is) ∙ drop-past (before_byte 10 t) rest

-- a line is gone from the front of what is left of some bytes
pub taken-past : (bytes rest : List ℕ) (taken past new most : ℕ) → length bytes ≤ most → behind_byte 10 (drop taken bytes) ≡ Some rest
    → past ≡ length (before_byte 10 (drop taken bytes)) + 1 → new ≡ min (taken + past) most → drop new bytes ≡ rest
taken-past bytes rest taken past new most short at many sum =
    let w = drop taken bytes in
    let line = before_byte 10 w in
    let long : length w ≡ length line + length (10 ∷ rest) = ap length (whole-splits w rest at) ∙ length-append line (10 ∷ rest) in
    let left : length w ≡ length bytes - taken = length-drop taken bytes in
    let more : length (10 ∷ rest) ≡ suc (length rest) = refl in
    let is : new ≡ taken + past = grind (arith, short, many, sum, long, left, more) in
    ap (λ (k : ℕ). drop k bytes) is ∙ sym (drop-drop past taken bytes) ∙ ap (λ (k : ℕ). drop k w) many ∙ behind-is w rest at

-- so it is the next line that is gone
pub next-is : (bytes rest : List ℕ) (taken new : ℕ) (is_cut : Bool) → behind_byte 10 (drop taken bytes) ≡ Some rest → drop new bytes ≡ rest
    → ◌≡◌ {A = OutboxModel} (record { waiting = drop new bytes; is_cut = is_cut }) (without_next (record { waiting = drop taken bytes; is_cut = is_cut }))
next-is bytes rest taken new is_cut at is =
    ap (λ (l : List ℕ). record { waiting = l; is_cut = is_cut }) (is ∙ sym (ap (λ o. unwrap_or o (drop taken bytes)) at))
