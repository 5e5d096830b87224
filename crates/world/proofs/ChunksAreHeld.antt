-- Chunks of one state that are held: a chunk more that is not new is there, and all are there at last.
use Rattle.std.proofs.Common.{◌≡◌, ◌≤◌, ℕ, suc, Bool, true, false, cond, not, Some, List, [], ◌∷◌, ◌++◌, length, refl, ap, ◌∙◌, arith, nat_eq, is_some}
use Rattle.std.specs.Prelude.{◌&&◌, ◌||◌, slice_get, find}
use Rattle.std.specs.List.{list_all, list_any}
use Rattle.std.proofs.lemmas.Bool.{and_from, and_parts, eqb-true}
use Rattle.std.proofs.lemmas.Bool.Decides.{nat_tests}
use Rattle.wire_values.specs.Values.{Chunk}
use Rattle.law_acts.specs.Given.{chunk_at}
use Rattle.membership.specs.HeldChunks.{chunk_count, is_new, is_at, has_all}
use Rattle.trace_props.proofs.ObservedGrow.{list_any-now, list_any-stays}
use Rattle.world.proofs.ChunksInOrder.{same, or-left, or-right, all-of}

-- they are of a state of so many bytes
abbrev pub are_of : ℕ → List Chunk → Bool
are_of total held = list_all (λ c. nat_eq c.total total) held

-- each up to an index is there
abbrev pub HasUpTo : ℕ → ℕ → List Chunk → Type 0
HasUpTo total k held = (j : ℕ) → 1 ≤ j → j ≤ k → list_any (is_at total j) held ≡ true

pub are-all-of : (total : ℕ) (held : List Chunk) → ((k : ℕ) (c : Chunk) → slice_get held k ≡ Some c → c.total ≡ total) → are_of total held ≡ true
are-all-of total [] each = refl
are-all-of total (c ∷ held) each =
    and_from (nat_eq c.total total) (are_of total held) (ap (λ (n : ℕ). nat_eq n total) (each 0 c refl) ∙ same total) (are-all-of total held (λ k x at. each (suc k) x at))

-- what is not new is there
pub there-if-not-new : (chunk : Chunk) (held : List Chunk) → are_of chunk.total held ≡ true → is_new chunk held ≡ false → list_any (is_at chunk.total chunk.index) held ≡ true
there-if-not-new chunk [] all none = absurd (let n : true ≡ false = none in cc)
there-if-not-new chunk (c ∷ held) all none =
    let parts = and_parts (nat_eq c.total chunk.total) (are_of chunk.total held) all in
    by (nat_eq c.index chunk.index) (nat_eq c.total chunk.total) refl parts.0 none (there-if-not-new chunk held parts.1)
  where
    by : (b d : Bool) → nat_eq c.index chunk.index ≡ b → d ≡ true → (d && not b) && is_new chunk held ≡ false → (is_new chunk held ≡ false → list_any (is_at chunk.total chunk.index) held ≡ true)
        → d && nat_eq c.index chunk.index || list_any (is_at chunk.total chunk.index) held ≡ true
    by true d e t x later = or-left (d && nat_eq c.index chunk.index) _ (and_from d (nat_eq c.index chunk.index) t e)
    by false true e t x later = or-right (nat_eq c.index chunk.index) _ (later x)
    by false false e t x later = absurd (let n : false ≡ true = t in cc)

-- ---- one more is held

pub are-more : (total : ℕ) (held : List Chunk) (chunk : Chunk) → are_of total held ≡ true → chunk.total ≡ total → are_of total (held ++ chunk ∷ []) ≡ true
are-more total [] chunk all is = and_from (nat_eq chunk.total total) true (ap (λ (n : ℕ). nat_eq n total) is ∙ same total) refl
are-more total (c ∷ held) chunk all is =
    let parts = and_parts (nat_eq c.total total) (are_of total held) all in and_from (nat_eq c.total total) _ parts.0 (are-more total held chunk parts.1 is)

at-itself : (state : List ℕ) (k : ℕ) → is_at (length state) k (chunk_at state k) ≡ true
at-itself state k = and_from (nat_eq (length state) (length state)) (nat_eq k k) (same (length state)) (same k)

up-to-next : (total k : ℕ) (held more : List Chunk) → HasUpTo total k held → ((j : ℕ) → list_any (is_at total j) held ≡ true → list_any (is_at total j) more ≡ true)
    → list_any (is_at total (suc k)) more ≡ true → HasUpTo total (suc k) more
up-to-next total k held more has stays next j low high = by (nat_eq j (suc k)) refl
  where
    by : (b : Bool) → nat_eq j (suc k) ≡ b → list_any (is_at total j) more ≡ true
    by true e = let is : j ≡ suc k = eqb-true j (suc k) e in ap (λ (i : ℕ). list_any (is_at total i) more) is ∙ next
    by false e = stays j (has j low (let h : j ≤ k = grind (arith, nat_tests) in h))

-- the next one, new
pub has-with : (state : List ℕ) (k : ℕ) (held : List Chunk) → HasUpTo (length state) k held → HasUpTo (length state) (suc k) (held ++ chunk_at state (suc k) ∷ [])
has-with state k held has =
    up-to-next (length state) k held (held ++ chunk_at state (suc k) ∷ []) has (λ j there. list_any-stays (is_at (length state) j) held (chunk_at state (suc k) ∷ []) there)
    (list_any-now (is_at (length state) (suc k)) held (chunk_at state (suc k)) (at-itself state (suc k)))

-- the next one, not new
pub has-without : (state : List ℕ) (k : ℕ) (held : List Chunk) → are_of (length state) held ≡ true → is_new (chunk_at state (suc k)) held ≡ false → HasUpTo (length state) k held
    → HasUpTo (length state) (suc k) held
has-without state k held all old has = up-to-next (length state) k held held has (λ j there. there) (there-if-not-new (chunk_at state (suc k)) held all old)

-- all of them
pub has-them-all : (total : ℕ) (held : List Chunk) → HasUpTo total (chunk_count total) held → has_all total held ≡ true
has-them-all total held has = all-of (λ k. list_any (is_at total k) held) 1 (chunk_count total) (λ k low high. has k low (omega (arith, high)))

-- ---- what a test finds

pub finds : {X : Type 0} (test : X → Bool) (l : List X) → list_any test l ≡ true → is_some (find test l) ≡ true
finds test [] e = e
finds test (x ∷ l) e = by (test x) e (finds test l)
  where
    by : (b : Bool) → b || list_any test l ≡ true → (list_any test l ≡ true → is_some (find test l) ≡ true) → is_some (cond b (Some x) (find test l)) ≡ true
    by true e later = refl
    by false e later = later e

-- none up to 0
pub has-none : (total : ℕ) (held : List Chunk) → HasUpTo total 0 held
has-none total held j low high = absurd (omega (arith, low, high))
