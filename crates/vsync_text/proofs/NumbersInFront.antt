-- How the number at the front of a text is read, digit by digit.
use Rattle.std.proofs.Common.{◌≡◌, ℕ, ◌+◌, ◌-◌, ◌*◌, ◌<◌, ◌≤◌, ◌&&◌, true, false, List, [], ◌∷◌, None, Some, nat_le, refl, sym, ◌∙◌, ap, arith, ⊎_elim, if◌then◌else◌}
use Rattle.std.proofs.lemmas.Bool.{le-leb, lt-leb, and_from, cases_lt}
use Rattle.std.specs.Char.{is_ascii_digit}
use Rattle.std.specs.List.{list_all}
use Rattle.vsync_text.specs.Numbers.{value_of, value_after, number_in, is_plain}
use Rattle.vsync_text.specs.Fronts.{digits_of, behind_digits, number_in_front, with_behind}
use Rattle.vsync_text.proofs.Numerals.{IsLed, led_is_plain}
use Rattle.vsync_text.proofs.ScriptsRead.{value_grows}

-- a byte from 48 on is a digit
digit_is : (d : ℕ) → d < 10 → is_ascii_digit (48 + d) ≡ true
digit_is d h = and_from _ _ (le-leb 48 (48 + d) (omega arith)) (le-leb (48 + d) 57 (omega arith))

pub digits_go_on : (d : ℕ) (bs : List ℕ) → d < 10 → digits_of ((48 + d) ∷ bs) ≡ (48 + d) ∷ digits_of bs
digits_go_on d bs h = ap (λ t. if t then (48 + d) ∷ digits_of bs else []) (digit_is d h)

digits_alone : (text : List ℕ) → list_all is_ascii_digit (digits_of text) ≡ true
digits_alone [] = refl
digits_alone (b ∷ bs) =
    elim (is_ascii_digit b) as (λ t. (is_ascii_digit b ≡ t) → list_all is_ascii_digit (if t then b ∷ digits_of bs else []) ≡ true) [
      | true ↦ λ e. and_from _ _ e (digits_alone bs)
      | false ↦ λ e. refl
    ] refl

-- a number above the greatest is none
above : (low high : ℕ) (ds : List ℕ) → high < value_of ds → number_in low high ds ≡ None
above low high ds h =
    let e : nat_le (value_of ds) high ≡ false = lt-leb (value_of ds) high h in
    rw e (elim (is_plain ds && nat_le low (value_of ds)) as (λ t. (if t && false then Some (value_of ds) else None) ≡ None) [ true ↦ refl | false ↦ refl ])

-- a number below the least is none
below : (low high : ℕ) (ds : List ℕ) → value_of ds < low → number_in low high ds ≡ None
below low high ds h =
    let e : nat_le low (value_of ds) ≡ false = lt-leb low (value_of ds) h in
    rw e (elim (is_plain ds) as (λ t. (if t && false && nat_le (value_of ds) high then Some (value_of ds) else None) ≡ None) [ true ↦ refl | false ↦ refl ])

nothing : (high : ℕ) (text : List ℕ) → number_in 1 high (digits_of text) ≡ None → number_in_front high text ≡ None
unfolding number_in_front
nothing high text e = ap (λ n. with_behind n (behind_digits text)) e

-- digits go on behind a number that is full
pub beyond : (high v d : ℕ) (text rest behind : List ℕ) → high < 10 * v → d < 10 → rest ≡ (48 + d) ∷ behind
    → value_of (digits_of text) ≡ value_after v (digits_of rest) → number_in_front high text ≡ None
beyond high v d text rest behind h s r e =
    let all : value_of (digits_of text) ≡ value_after (10 * v + (48 + d - 48)) (digits_of behind) =
    e ∙ ap (λ t. value_after v (digits_of t)) r ∙ ap (value_after v) (digits_go_on d behind s) in
    nothing high text (above 1 high (digits_of text) (omega (arith, value_grows (10 * v + (48 + d - 48)) (digits_of behind))))

zero_first : (high : ℕ) (ds : List ℕ) → number_in 1 high (48 ∷ ds) ≡ None
zero_first high [] = refl
zero_first high (d ∷ ds) = refl

-- a number has no leading zero, and is not 0
pub led_by_zero : (high d : ℕ) (text rest behind : List ℕ) → d ≡ 0 → rest ≡ text → rest ≡ (48 + d) ∷ behind → number_in_front high text ≡ None
led_by_zero high d text rest behind z t e =
    let first : text ≡ 48 ∷ behind = sym t ∙ e ∙ ap (λ k. (48 + k) ∷ behind) z in
    rw first (nothing high (48 ∷ behind) (zero_first high (digits_of behind)))

-- all digits are read
pub all_digits : (high v : ℕ) (text rest : List ℕ) → value_of (digits_of text) ≡ value_after v (digits_of rest) → behind_digits text ≡ behind_digits rest
    → (1 ≤ v → IsLed (digits_of text)) → digits_of rest ≡ [] → behind_digits rest ≡ rest → 1 ≤ v → v ≤ high
    → number_in_front high text ≡ Some (v, rest)
unfolding number_in_front
all_digits high v text rest e b led d r one most =
    let value : value_of (digits_of text) ≡ v = e ∙ ap (value_after v) d in
    let plain : is_plain (digits_of text) ≡ true = and_from _ _ (led_is_plain (digits_of text) (led one)) (digits_alone text) in
    let least : nat_le 1 (value_of (digits_of text)) ≡ true = le-leb 1 (value_of (digits_of text)) (omega arith) in
    let greatest : nat_le (value_of (digits_of text)) high ≡ true = le-leb (value_of (digits_of text)) high (omega arith) in
    let read : number_in 1 high (digits_of text) ≡ Some v = rw (plain, least, greatest) (ap Some value) in
    ap (λ n. with_behind n (behind_digits text)) read ∙ ap (λ t. Some (v, t)) (b ∙ r)

-- the digits spell no number in the range
pub outside : (high v : ℕ) (text rest : List ℕ) → value_of (digits_of text) ≡ value_after v (digits_of rest) → digits_of rest ≡ [] → (1 ≤ v → v ≤ high → ⊥) → number_in_front high text ≡ None
outside high v text rest e d h =
    let value : value_of (digits_of text) ≡ v = e ∙ ap (value_after v) d in
    nothing high text
    (⊎_elim
    (λ less. below 1 high (digits_of text) (omega arith))
    (λ least. ⊎_elim (λ more. above 1 high (digits_of text) (omega arith)) (λ most. absurd (h least most)) (cases_lt high v))
    (cases_lt v 1))
