-- What a counter means.
use Rattle.std.specs.Prelude.{◌≡◌, ℕ, ◌+◌, ◌≤◌, ◌<◌, ◌^◌, Bool, min, length, List, nat_eq, Option, Some, None, true, false, if◌then◌else◌}
use Rattle.std.proofs.Common.{refl, arith, ap, subst, ◌∙◌}
use Rattle.byteorder.specs.Endian.{big_bytes, big_number}
use Rattle.big_endian.proofs.Bytes.{number_back, length-big_bytes}
use Rattle.address.specs.declared.limits.TheConstants.{STATE}

abbrev pub greatest : ℕ
greatest = 18446744073709551615

-- one more, up to the greatest
abbrev pub one_more : ℕ → ℕ
one_more n = min (n + 1) greatest

-- the count that eight bytes are, the highest first
abbrev pub count_in : List ℕ → Option ℕ
count_in bytes = if nat_eq (length bytes) 8 then Some (min (big_number 8 bytes) greatest) else None

pub at_most : (n : ℕ) → min n greatest ≤ greatest
at_most n = omega (arith)

pub counts_within : (n : ℕ) → one_more n ≤ greatest
counts_within n = at_most (n + 1)

within : (b : Bool) (m n : ℕ) → (if b then Some (min m greatest) else None) ≡ Some n → n ≤ greatest
within true m n e = let x : min m greatest ≡ n = cc in subst (λ (k : ℕ). k ≤ greatest) x (at_most m)
within false m n e = absurd (cc)

pub reads_within : (bytes : List ℕ) (n : ℕ) → count_in bytes ≡ Some n → n ≤ greatest
reads_within bytes n e = within (nat_eq (length bytes) 8) (big_number 8 bytes) n e

pub reads_back : (n : ℕ) → n ≤ greatest → count_in (big_bytes 8 n) ≡ Some n
reads_back n few =
    let lt : n < 256 ^ 8 = omega (arith, few) in
    let whole : min n greatest ≡ n = omega (arith, few) in
    ap (λ k. Some (min k greatest)) (number_back 8 n lt) ∙ ap Some whole

pub is_short : (n : ℕ) → length (big_bytes 8 n) ≤ STATE
is_short n = let e : length (big_bytes 8 n) ≡ 8 = length-big_bytes 8 n in omega (arith, e)
