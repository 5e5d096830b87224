-- The chunks of a state, held one after another from none on: each is new, and all are there at last.
use Rattle.std.proofs.Common.{◌≡◌, ◌≤◌, ◌<◌, ◌+◌, ℕ, zero, suc, Bool, true, false, List, [], ◌∷◌, ◌++◌, length, map, refl, ap, ◌∙◌, arith, nat_eq}
use Rattle.std.specs.Prelude.{◌&&◌, ◌||◌, not}
use Rattle.std.specs.List.{list_all, list_any, range_with_len}
use Rattle.std.proofs.lemmas.Bool.{and_from}
use Rattle.std.proofs.lemmas.Bool.Decides.{nat_tests}
use Rattle.wire_values.specs.Values.{Chunk}
use Rattle.law_acts.specs.Given.{chunk_at, chunks_of}
use Rattle.membership.specs.HeldChunks.{chunk_count, is_new, is_at, has_all}

pub same : (a : ℕ) → nat_eq a a ≡ true
same a = grind (arith, nat_tests)

apart : (a b : ℕ) → a < b → not (nat_eq a b) ≡ true
apart a b l = grind (arith, nat_tests)

-- the chunks from an index on, so many of them
abbrev pub chunks_from : List ℕ → ℕ → ℕ → List Chunk
chunks_from state first n = map (chunk_at state) (range_with_len first n)

-- the next one is new beside those before it
pub next-is-new : (state : List ℕ) (first n k : ℕ) → first + n ≤ k → is_new (chunk_at state k) (chunks_from state first n) ≡ true
next-is-new state first zero k l = refl
next-is-new state first (suc n) k l =
    and_from (nat_eq (length state) (length state) && not (nat_eq first k)) _
    (and_from (nat_eq (length state) (length state)) (not (nat_eq first k)) (same (length state)) (apart first k (omega (arith, l))))
    (next-is-new state (first + 1) n k (omega (arith, l)))

pub or-left : (a b : Bool) → a ≡ true → (a || b) ≡ true
or-left a b e = rw e refl

pub or-right : (a b : Bool) → b ≡ true → (a || b) ≡ true
or-right true b e = refl
or-right false b e = e

-- one of them has each index
any-at : (state : List ℕ) (first n k : ℕ) → first ≤ k → k < first + n → list_any (is_at (length state) k) (chunks_from state first n) ≡ true
any-at state first zero k l h = absurd (omega (arith, l, h))
any-at state first (suc n) k l h = by (nat_eq first k) refl (λ z. any-at state (first + 1) n k z (omega (arith, h)))
  where
    by : (b : Bool) → nat_eq first k ≡ b → (first + 1 ≤ k → list_any (is_at (length state) k) (chunks_from state (first + 1) n) ≡ true)
        → list_any (is_at (length state) k) (chunks_from state first (suc n)) ≡ true
    by true e later = or-left (nat_eq (length state) (length state) && nat_eq first k) _ (and_from (nat_eq (length state) (length state)) (nat_eq first k) (same (length state)) e)
    by false e later =
        let z : first < k = grind (arith, nat_tests) in
        or-right (nat_eq (length state) (length state) && nat_eq first k) _ (later (omega (arith, z)))

pub all-of : (test : ℕ → Bool) (first n : ℕ) → ((k : ℕ) → first ≤ k → k < first + n → test k ≡ true) → list_all test (range_with_len first n) ≡ true
all-of test first zero each = refl
all-of test first (suc n) each =
    and_from (test first) _ (each first (omega arith) (omega arith)) (all-of test (first + 1) n (λ k l h. each k (omega (arith, l)) (omega (arith, h))))

-- all of them are all that is wanted
pub all-there : (state : List ℕ) → has_all (length state) (chunks_of state) ≡ true
all-there state = all-of (λ k. list_any (is_at (length state) k) (chunks_of state)) 1 (chunk_count (length state)) (any-at state 1 (chunk_count (length state)))

-- one chunk further
pub one-further : (state : List ℕ) (first k : ℕ) → chunks_from state first k ++ chunk_at state (first + k) ∷ [] ≡ chunks_from state first (suc k)
one-further state first zero = let e : first + 0 ≡ first = omega arith in ap (λ (n : ℕ). chunk_at state n ∷ []) e
one-further state first (suc k) =
    let e : first + suc k ≡ first + 1 + k = omega arith in
    ap (λ (n : ℕ). chunks_from state first (suc k) ++ chunk_at state n ∷ []) e ∙ ap (λ (l : List Chunk). chunk_at state first ∷ l) (one-further state (first + 1) k)
