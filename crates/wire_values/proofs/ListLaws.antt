-- The laws of the lists in packets.
use Rattle.std.proofs.Common.{◌≡◌, ℕ, zero, suc, ◌+◌, ◌≤◌, Bool, true, false, cond, ltb, leb, ◌&&◌, List, [], ◌∷◌, ◌++◌, length, Ok, refl, ap, subst, ◌∙◌, append_assoc, arith}
use Rattle.std.specs.Prelude.{min}
use Rattle.std.specs.List.{flat_map, AllByRecursion}
use Rattle.std.proofs.lemmas.Bool.{ltb-true, leb-true, le-leb, and_parts}
use Rattle.address.specs.declared.limits.TheConstants.{GREATEST_NUMBER, WINDOW}
use Rattle.wire_values.specs.declared.error.WireError.TheVariants.{Value}
use Rattle.wire_values.specs.Values.{Entry}
use Rattle.wire_values.specs.Reading.{Read, ◌>>=◌, number_at, list_at}
use Rattle.wire_values.specs.Fields.{IsPlaced, number_bytes, entry_bytes, placed_bytes, entry_at}
use Rattle.wire_values.specs.Lists.{highest_next, are_held, held_at}
use Rattle.big_endian.specs.Spelled.{IsBytes}
use Rattle.big_endian.proofs.Bytes.{wide8}
use Rattle.wire_values.proofs.FieldLaws.{bind_ok, ok_is, Takes, Takes-then, IsPart, entry_part, number_takes, eight_again}

-- ---- so many values, one behind the other

pub list_takes : {A : Type 0} (read : List ℕ → Read A) (spell : A → List ℕ) (Fits : A → Type 0) → IsPart read spell Fits → (n : ℕ) (bytes : List ℕ) (xs : List A) (rest : List ℕ) → IsBytes bytes → list_at read n bytes ≡ Ok (xs, rest)
    → Takes bytes (flat_map spell xs) rest × (length xs ≡ n) × AllByRecursion Fits xs
unfolding list_at
list_takes {A = A} read spell Fits part zero bytes xs rest fits e =
    subst (λ (p : List A × List ℕ). Takes bytes (flat_map spell p.0) p.1 × (length p.0 ≡ 0) × AllByRecursion Fits p.0) (ok_is ([], bytes) (xs, rest) e) (record { parts = refl; rest_fits = fits }, refl, tt)
list_takes {A = A} read spell Fits part (suc n) bytes xs rest fits e =
    let a = bind_ok (read bytes) (λ first. list_at read n first.1 >>= λ others. Ok (first.0 ∷ others.0, others.1)) (xs, rest) e in
    let b = bind_ok (list_at read n a.0.1) (λ others. Ok (a.0.0 ∷ others.0, others.1)) (xs, rest) a.2 in
    let t = part.takes bytes a.0.0 a.0.1 fits a.1 in
    let u = list_takes read spell Fits part n a.0.1 b.0.0 b.0.1 t.0.rest_fits b.1 in
    let both = Takes-then bytes (spell a.0.0) a.0.1 (flat_map spell b.0.0) b.0.1 t.0 u.0 in
    subst (λ (p : List A × List ℕ). Takes bytes (flat_map spell p.0) p.1 × (length p.0 ≡ suc n) × AllByRecursion Fits p.0) (ok_is (a.0.0 ∷ b.0.0, b.0.1) (xs, rest) b.2) (both, ap suc u.1, (t.1, u.2))

pub list_again : {A : Type 0} (read : List ℕ → Read A) (spell : A → List ℕ) (Fits : A → Type 0) → IsPart read spell Fits → (xs : List A) (rest : List ℕ) → AllByRecursion Fits xs → list_at read (length xs) (flat_map spell xs ++ rest) ≡ Ok (xs, rest)
unfolding list_at
list_again read spell Fits part [] rest fits = refl
list_again read spell Fits part (x ∷ xs) rest fits =
    ap (list_at read (suc (length xs))) (append_assoc (spell x) (flat_map spell xs) rest)
    ∙ rw (part.again x (flat_map spell xs ++ rest) fits.0, list_again read spell Fits part xs rest fits.1) refl

-- ---- a report's entries

-- no place that may follow is above the greatest number
pub highest_next-le : (stable delivered last : ℕ) → delivered ≤ GREATEST_NUMBER → highest_next stable delivered last ≤ GREATEST_NUMBER
highest_next-le stable delivered last small = by_test (ltb last delivered) refl where
  by_test : (b : Bool) → ltb last delivered ≡ b → cond b (last + 1) (min (stable + WINDOW) GREATEST_NUMBER) ≤ GREATEST_NUMBER
  by_test true e = omega (arith, ltb-true last delivered e)
  by_test false e = omega arith

pub held_takes : (stable delivered last n : ℕ) (bytes : List ℕ) (held : List (ℕ × Entry)) (rest : List ℕ) → delivered ≤ GREATEST_NUMBER → IsBytes bytes → held_at stable delivered last n bytes ≡ Ok (held, rest)
    → Takes bytes (flat_map placed_bytes held) rest × (length held ≡ n) × AllByRecursion IsPlaced held × (are_held stable delivered last held ≡ true)
unfolding held_at
held_takes stable delivered last zero bytes held rest small fits e =
    subst (λ (p : List (ℕ × Entry) × List ℕ). Takes bytes (flat_map placed_bytes p.0) p.1 × (length p.0 ≡ 0) × AllByRecursion IsPlaced p.0 × (are_held stable delivered last p.0 ≡ true)) (ok_is ([], bytes) (held, rest) e) (record { parts = refl; rest_fits = fits }, refl, tt, refl)
held_takes stable delivered last (suc n) bytes held rest small fits e =
    let a = bind_ok (number_at 8 (last + 1) (highest_next stable delivered last) Value bytes) (λ place. entry_at place.1 >>= λ entry. held_at stable delivered place.0 n entry.1 >>= λ others. Ok ((place.0, entry.0) ∷ others.0, others.1)) (held, rest) e in
    let place = a.0.0 in
    let b = bind_ok (entry_at a.0.1) (λ entry. held_at stable delivered place n entry.1 >>= λ others. Ok ((place, entry.0) ∷ others.0, others.1)) (held, rest) a.2 in
    let c = bind_ok (held_at stable delivered place n b.0.1) (λ others. Ok ((place, b.0.0) ∷ others.0, others.1)) (held, rest) b.2 in
    let t = number_takes 8 wide8 (last + 1) (highest_next stable delivered last) Value bytes place a.0.1 fits a.1 in
    let u = entry_part.takes a.0.1 b.0.0 b.0.1 t.0.rest_fits b.1 in
    let v = held_takes stable delivered place n b.0.1 c.0.0 c.0.1 small u.0.rest_fits c.1 in
    let one = Takes-then bytes (number_bytes place) a.0.1 (entry_bytes b.0.0) b.0.1 t.0 u.0 in
    let all = Takes-then bytes (placed_bytes (place, b.0.0)) b.0.1 (flat_map placed_bytes c.0.0) c.0.1 one v.0 in
    let in_range : place ≤ GREATEST_NUMBER = omega (arith, t.2, highest_next-le stable delivered last small) in
    let is : IsPlaced (place, b.0.0) = record { place = (omega (arith, t.1), in_range); entry = u.1 } in
    let rises : are_held stable delivered last ((place, b.0.0) ∷ c.0.0) ≡ true = rw (le-leb (last + 1) place t.1, le-leb place (highest_next stable delivered last) t.2) v.3 in
    subst (λ (p : List (ℕ × Entry) × List ℕ). Takes bytes (flat_map placed_bytes p.0) p.1 × (length p.0 ≡ suc n) × AllByRecursion IsPlaced p.0 × (are_held stable delivered last p.0 ≡ true)) (ok_is ((place, b.0.0) ∷ c.0.0, c.0.1) (held, rest) c.2)
    (all, ap suc v.1, (is, v.2), rises)

pub held_again : (stable delivered last : ℕ) (held : List (ℕ × Entry)) (rest : List ℕ) → delivered ≤ GREATEST_NUMBER → AllByRecursion IsPlaced held → are_held stable delivered last held ≡ true
    → held_at stable delivered last (length held) (flat_map placed_bytes held ++ rest) ≡ Ok (held, rest)
unfolding held_at
held_again stable delivered last [] rest small fits rises = refl
held_again stable delivered last (h ∷ held) rest small fits rises =
    let tests = and_parts (leb (last + 1) h.0 && leb h.0 (highest_next stable delivered last)) (are_held stable delivered h.0 held) rises in
    let range = and_parts (leb (last + 1) h.0) (leb h.0 (highest_next stable delivered last)) tests.0 in
    let left = flat_map placed_bytes held ++ rest in
    let regrouped : flat_map placed_bytes (h ∷ held) ++ rest ≡ number_bytes h.0 ++ (entry_bytes h.1 ++ left) =
    append_assoc (placed_bytes h) (flat_map placed_bytes held) rest ∙ append_assoc (number_bytes h.0) (entry_bytes h.1) left in
    ap (held_at stable delivered last (suc (length held))) regrouped
    ∙ rw (eight_again (last + 1) (highest_next stable delivered last) h.0 (entry_bytes h.1 ++ left) (leb-true _ _ range.0) (leb-true _ _ range.1) (highest_next-le stable delivered last small), entry_part.again h.1 left fits.0.entry, held_again stable delivered h.0 held rest small fits.1 tests.1) refl
