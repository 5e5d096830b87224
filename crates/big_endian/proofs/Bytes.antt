-- A list of bytes and the number that it spells, highest byte first.
use Rattle.std.proofs.Common.{◌≡◌, ℕ, ◌+◌, ◌^◌, ◌<◌, List, [], ◌∷◌, length, take, drop, sym, ap, ◌∙◌, arith, inl, inr}
use Rattle.std.proofs.lemmas.Bool.{cases_lt}
use Rattle.std.proofs.lemmas.List.{append-nil, length-take, get_or-drop, get_or-take, get_or_past}
use Rattle.std.proofs.lemmas.Nat.{be_bytes_2, be_bytes_4, be_bytes_8}
use Rattle.big_endian.specs.Spelled.{IsBytes}
use Rattle.byteorder.specs.Endian.{big_bytes, big_number}
use Rattle.byteorder.specs.Numbers.{big_number-reads_back, length-bytes_high_first}

pub IsBytes-drop : (n : ℕ) (bytes : List ℕ) → IsBytes bytes → IsBytes (drop n bytes)
IsBytes-drop n bytes h i = rw get_or-drop (h (n + i))

pub IsBytes-take : (n : ℕ) (bytes : List ℕ) → IsBytes bytes → IsBytes (take n bytes)
IsBytes-take n bytes h i =
    elim (cases_lt i n) [
      | inl lt ↦ rw (get_or-take n bytes i 0 lt) (h i)
      | inr le ↦ rw (get_or_past (take n bytes) i 0 (omega (arith, length-take n bytes))) (omega arith)
    ]

-- how many bytes the numbers of the format have
pub record IsWide (n : ℕ) : Type 0 where
  pub back : (bytes : List ℕ) → length bytes ≡ n → IsBytes bytes → big_bytes n (big_number n bytes) ≡ bytes

one_back : (bytes : List ℕ) → length bytes ≡ 1 → IsBytes bytes → big_bytes 1 (big_number 1 bytes) ≡ bytes
one_back [] len fits = absurd (omega arith)
one_back (b ∷ []) len fits = ap (λ (x : ℕ). x ∷ []) (omega (arith, fits 0))
one_back (b ∷ c ∷ bytes) len fits = absurd (omega arith)

pub wide1 : IsWide 1
wide1 = record { back = one_back }

pub wide2 : IsWide 2
wide2 = record { back = λ bytes len fits. be_bytes_2 bytes _ len fits (omega arith) }

pub wide4 : IsWide 4
wide4 = record { back = λ bytes len fits. be_bytes_4 bytes _ len fits (omega arith) }

pub wide8 : IsWide 8
wide8 = record { back = λ bytes len fits. be_bytes_8 bytes _ len fits (omega arith) }

pub number_back : (n x : ℕ) → x < 256 ^ n → big_number n (big_bytes n x) ≡ x
number_back n x lt = ap (big_number n) (sym (append-nil (big_bytes n x))) ∙ big_number-reads_back n x [] lt

pub length-big_bytes : (n x : ℕ) → length (big_bytes n x) ≡ n
length-big_bytes n x = length-bytes_high_first n x
