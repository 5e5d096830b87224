-- A number and its bytes, the highest first: each gives the other back.
use Rattle.std.proofs.Common.{◌≡◌, ℕ, zero, suc, ◌<◌, true, ltb, List, [], ◌∷◌, refl, arith}
use Rattle.std.proofs.Math.Nat.{mod-lt}
use Rattle.std.proofs.lemmas.Bool.{ltb-true, lt-ltb, and_parts}
use Rattle.std.specs.Int.{byte_at}
use Rattle.byteorder.specs.Endian.{big_bytes}
use Rattle.big_endian.specs.Reading.{are_bytes}
use Rattle.big_endian.specs.Spelled.{IsBytes}

pub tested_bytes : (bytes : List ℕ) → are_bytes bytes ≡ true → IsBytes bytes
tested_bytes [] e i = omega arith
tested_bytes (b ∷ bytes) e zero = ltb-true b 256 (and_parts (ltb b 256) (are_bytes bytes) e).0
tested_bytes (b ∷ bytes) e (suc i) = tested_bytes bytes (and_parts (ltb b 256) (are_bytes bytes) e).1 i

pub known_bytes : (bytes : List ℕ) → IsBytes bytes → are_bytes bytes ≡ true
known_bytes [] fits = refl
known_bytes (b ∷ bytes) fits = rw (lt-ltb b 256 (fits 0)) (known_bytes bytes (λ i. fits (suc i)))

byte_at-lt : (k x : ℕ) → byte_at k x < 256
byte_at-lt zero x = mod-lt x (omega arith)
byte_at-lt (suc k) x = mod-lt _ (omega arith)

-- what a number is spelled in are bytes
pub big_bytes-are_bytes : (n x : ℕ) → are_bytes (big_bytes n x) ≡ true
big_bytes-are_bytes zero x = refl
big_bytes-are_bytes (suc n) x = rw (lt-ltb (byte_at n x) 256 (byte_at-lt n x)) (big_bytes-are_bytes n x)
