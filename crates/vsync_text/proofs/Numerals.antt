-- Numbers in decimal and bytes in hexadecimal are read back.
use Rattle.std.proofs.Common.{◌≡◌, ℕ, ◌+◌, ◌-◌, ◌*◌, ◌/◌, ◌%◌, ◌^◌, ◌<◌, ◌≤◌, true, false, List, [], ◌∷◌, ◌++◌, Some, nat_eq, nat_le, nat_lt, not, refl, ap, zero, suc, arith, ⊎_elim, if◌then◌else◌}
use Rattle.std.proofs.lemmas.Bool.{ne_eqb, le-leb, lt-leb, lt-ltb, le-ltb, and_from, cases_lt}
use Rattle.std.proofs.lemmas.Fmt.{decimal_by_steps}
use Rattle.std.specs.Char.{is_ascii_digit}
use Rattle.std.specs.Fmt.{decimal, digits, digits_onto, digit_glyph}
use Rattle.std.specs.List.{list_all, AllByRecursion}
use Rattle.std.specs.Prelude.{◌==◌}
use Rattle.vsync_text.specs.Numbers.{is_plain, has_plain_front, value_of, value_after, number_in}
use Rattle.vsync_text.specs.TraceText.{hex_digit, hex_of}
use Rattle.vsync_text.specs.Forms.{hex_value, hex_byte, bytes_of_hex}

-- a decimal digit
abbrev pub IsDigit : ℕ → Type 0
IsDigit b = (48 ≤ b) × (b ≤ 57)

glyph_is_digit : (n : ℕ) → n < 10 → IsDigit (digit_glyph false n)
glyph_is_digit n h = rw (lt-ltb n 10 h) (omega arith, omega arith)

digits_onto_are : (k n : ℕ) (acc : List ℕ) → AllByRecursion IsDigit acc → AllByRecursion IsDigit (digits_onto k 10 false n acc)
digits_onto_are zero n acc h = h
digits_onto_are (suc k) n acc h =
    let one : AllByRecursion IsDigit (digit_glyph false (n % 10) ∷ acc) = (glyph_is_digit (n % 10) (omega arith), h) in
    let more : AllByRecursion IsDigit (digits_onto k 10 false (n / 10) (digit_glyph false (n % 10) ∷ acc)) = digits_onto_are k (n / 10) _ one in
    elim (n / 10 == 0) as (λ t. AllByRecursion IsDigit (if t then digit_glyph false (n % 10) ∷ acc else digits_onto k 10 false (n / 10) (digit_glyph false (n % 10) ∷ acc)))
    [ true ↦ one | false ↦ more ]

-- what decimal writes are digits
pub decimal_are_digits : (n : ℕ) → AllByRecursion IsDigit (decimal n)
unfolding digits
decimal_are_digits n = digits_onto_are 64 n [] tt

are_ascii : (ds : List ℕ) → AllByRecursion IsDigit ds → list_all is_ascii_digit ds ≡ true
are_ascii [] h = refl
are_ascii (d ∷ ds) h = and_from (is_ascii_digit d) (list_all is_ascii_digit ds) (and_from _ _ (le-leb 48 d h.0.0) (le-leb d 57 h.0.1)) (are_ascii ds h.1)

value_push : (n : ℕ) (ds : List ℕ) (d : ℕ) → value_after n (ds ++ d ∷ []) ≡ 10 * value_after n ds + (d - 48)
value_push n [] d = refl
value_push n (e ∷ ds) d = value_push (10 * n + (e - 48)) ds d

-- the first digit is there, and is not 0
abbrev pub IsLed : List ℕ → Type 0
IsLed [] = ⊥
IsLed (d ∷ ds) = nat_eq d 48 ≡ false

led_push : (ds : List ℕ) (d : ℕ) → IsLed ds → IsLed (ds ++ d ∷ [])
led_push [] d h = absurd h
led_push (e ∷ ds) d h = h

pub led_is_plain : (ds : List ℕ) → IsLed ds → has_plain_front ds ≡ true
led_is_plain [] h = absurd h
led_is_plain (d ∷ []) h = refl
led_is_plain (d ∷ e ∷ ds) h = ap not h

-- digits that spell a number, the first not 0 unless the number is
abbrev pub Numeral : ℕ → List ℕ → Type 0
Numeral n ds = (value_of ds ≡ n) × (1 ≤ n → IsLed ds)

numeral_more : (n : ℕ) (ds : List ℕ) → 10 ≤ n → Numeral (n / 10) ds → Numeral n (ds ++ ((48 + n % 10) ∷ []))
numeral_more n ds h m =
    let v : value_of ds ≡ n / 10 = m.0 in
    let p : value_of (ds ++ ((48 + n % 10) ∷ [])) ≡ 10 * value_of ds + (48 + n % 10 - 48) = value_push 0 ds (48 + n % 10) in
    (omega arith, λ one. led_push ds _ (m.1 (omega arith)))

pub decimal_spells : (n : ℕ) → n < 2 ^ 64 → Numeral n (decimal n)
decimal_spells n h =
    decimal_by_steps Numeral (λ m small. (omega arith, λ one. ne_eqb (48 + m) 48 (λ e. absurd (omega arith)))) numeral_more n h

-- a number in decimal is read back
pub number_back : (low high n : ℕ) → 1 ≤ low → low ≤ n → n ≤ high → n < 2 ^ 64 → number_in low high (decimal n) ≡ Some n
number_back low high n one least most fits =
    let s = decimal_spells n fits in
    let led : has_plain_front (decimal n) ≡ true = led_is_plain (decimal n) (s.1 (omega arith)) in
    let plain : is_plain (decimal n) ≡ true = and_from _ _ led (are_ascii (decimal n) (decimal_are_digits n)) in
    let low_is : nat_le low (value_of (decimal n)) ≡ true = le-leb _ _ (omega (arith, s.0)) in
    let high_is : nat_le (value_of (decimal n)) high ≡ true = le-leb _ _ (omega (arith, s.0)) in
    rw (plain, low_is, high_is) (ap Some s.0)

digit_is : (n : ℕ) → n < 10 → hex_value (hex_digit n) ≡ Some n
digit_is n h =
    let t : nat_lt n 10 ≡ true = lt-ltb n 10 h in
    let low : nat_le 48 (48 + n) ≡ true = le-leb 48 (48 + n) (omega arith) in
    let high : nat_le (48 + n) 57 ≡ true = le-leb (48 + n) 57 (omega arith) in
    rw (t, low, high) (ap Some (omega arith))

letter_is : (n : ℕ) → 10 ≤ n → n < 16 → hex_value (hex_digit n) ≡ Some n
letter_is n h l =
    let t : nat_lt n 10 ≡ false = le-ltb n 10 h in
    let over : nat_le (87 + n) 57 ≡ false = lt-leb (87 + n) 57 (omega arith) in
    let low : nat_le 97 (87 + n) ≡ true = le-leb 97 (87 + n) (omega arith) in
    let high : nat_le (87 + n) 102 ≡ true = le-leb (87 + n) 102 (omega arith) in
    let first : nat_le 48 (87 + n) ≡ true = le-leb 48 (87 + n) (omega arith) in
    rw (t, first, over, low, high) (ap Some (omega arith))

-- a hexadecimal digit is read back
hex_digit_back : (n : ℕ) → n < 16 → hex_value (hex_digit n) ≡ Some n
hex_digit_back n h = ⊎_elim (λ small. digit_is n small) (λ great. letter_is n great h) (cases_lt n 10)

pub hex_byte_back : (b : ℕ) → b < 256 → hex_byte (hex_value (hex_digit (b / 16))) (hex_value (hex_digit (b % 16))) ≡ Some b
hex_byte_back b h =
    rw (hex_digit_back (b / 16) (omega arith), hex_digit_back (b % 16) (omega arith)) (ap Some (omega arith))

-- bytes in hexadecimal are read back
pub hex_back : (bytes : List ℕ) → AllByRecursion (λ b. b < 256) bytes → bytes_of_hex (hex_of bytes) ≡ Some bytes
hex_back [] h = refl
hex_back (b ∷ bs) h = rw (hex_byte_back b h.0, hex_back bs h.1) refl
