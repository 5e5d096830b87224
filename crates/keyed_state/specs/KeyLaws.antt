-- What a key is read from is its spelling, and its spelling is read as it, whatever follows.
use Rattle.std.proofs.Common.{◌≡◌, ℕ, List, ◌++◌, length, Some, refl, sym, ap, subst, ◌∙◌, append_assoc, arith}
use Rattle.byteorder.specs.Endian.{big_bytes}
use Rattle.big_endian.proofs.Bytes.{wide1}
use Rattle.big_endian.specs.Reading.{number_at, bytes_at}
use Rattle.big_endian.proofs.PartLaws.{IsPart, bind_some, joined, bytes_takes, bytes_again, number_part}
use Rattle.keyed_state.specs.declared.entries.TheConstants.{KEY}
use Rattle.keyed_state.specs.Keys.{IsKey, key_bytes, key_at}

key_takes : (bytes x rest : List ℕ) → key_at bytes ≡ Some (x, rest) → (bytes ≡ key_bytes x ++ rest) × IsKey x
unfolding key_at
key_takes bytes x rest e =
    let a = bind_some (number_at 1 1 KEY bytes) (λ len. bytes_at len.0 len.1) (x, rest) e in
    let t = (number_part 1 1 KEY wide1 (omega arith)).takes bytes a.0.0 a.0.1 a.1 in
    let u = bytes_takes a.0.0 a.0.1 x rest a.2 in
    let both : bytes ≡ (big_bytes 1 a.0.0 ++ x) ++ rest = joined bytes (big_bytes 1 a.0.0) a.0.1 x rest t.0 u.0 in
    (subst (λ (n : ℕ). bytes ≡ (big_bytes 1 n ++ x) ++ rest) (sym u.1) both, (omega (arith, u.1, t.1.0), omega (arith, u.1, t.1.1)))

key_again : (x rest : List ℕ) → IsKey x → key_at (key_bytes x ++ rest) ≡ Some (x, rest)
unfolding key_at
key_again x rest few =
    ap key_at (append_assoc (big_bytes 1 (length x)) x rest)
    ∙ rw ((number_part 1 1 KEY wide1 (omega arith)).again (length x) (x ++ rest) few, bytes_again (length x) x rest refl) refl

pub key_part : IsPart key_at key_bytes IsKey
key_part = record { takes = key_takes; again = key_again }
