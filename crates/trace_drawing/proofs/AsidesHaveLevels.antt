-- How many asides stand above an event.
use Rattle.std.proofs.Common.{◌≡◌, ℕ, ◌+◌, ◌<◌, ◌≤◌, Bool, true, false, cond, nat_le, List, [], ◌∷◌, ◌++◌, append_assoc, length, take, drop, get_or, suc, zero, sym, refl, ap, ◌∙◌, subst, arith, length-take}
use Rattle.std.proofs.Math.Seq.{drop-cons}
use Rattle.std.proofs.lemmas.Bool.{leb-true, leb-false}
use Rattle.trace_props.specs.declared.event.Event.{Event}
use Rattle.trace_drawing.specs.declared.row.Row.{Row}
use Rattle.trace_drawing.specs.declared.aside.Aside.{Aside}
use Rattle.trace_drawing.specs.declared.aside.AsideRow.{AsideRow}
use Rattle.trace_drawing.specs.Layout.{above, level_of, later, aside_row, asides_from}

within-at : (b : Bool) (n m : ℕ) → n ≤ m → cond b (n + 1) 0 ≤ m + 1
within-at true n m less = omega (arith, less)
within-at false n m less = omega arith

-- no more than there are
pub above-within : (asides : List Aside) (k : ℕ) → above asides k ≤ length asides
above-within [] k = omega arith
above-within (r ∷ rs) k =
    let rest = within-at (nat_le r.place k) (above rs k) (length rs) (above-within rs k) in
    omega (arith, rest)

stops-at : (b : Bool) (n i : ℕ) → n ≤ i → cond b (n + 1) 0 ≤ suc i
stops-at true n i less = omega (arith, less)
stops-at false n i less = omega arith

first-stops : (place k n : ℕ) (b : Bool) → nat_le place k ≡ b → k < place → cond b (n + 1) 0 ≤ 0
first-stops place k n true e less = absurd (omega (arith, leb-true place k e, less))
first-stops place k n false e less = omega arith

-- an aside with a later place stands below, and so do all behind it
pub above-stops : (asides : List Aside) (k i : ℕ) (r : Aside) → r ≡ get_or asides i r → i < length asides → k < r.place → above asides k ≤ i
above-stops [] k i r is inside less = absurd (omega (arith, inside))
above-stops (x ∷ xs) k zero r is inside less = first-stops x.place k (above xs k) (nat_le x.place k) refl (subst (λ y. k < y.place) is less)
above-stops (x ∷ xs) k (suc i) r is inside less = stops-at (nat_le x.place k) (above xs k) i (above-stops xs k i r is (omega (arith, inside)) less)

first-goes : (place k n : ℕ) (b : Bool) → nat_le place k ≡ b → place ≤ k → 1 ≤ cond b (n + 1) 0
first-goes place k n true e less = omega arith
first-goes place k n false e less = absurd (omega (arith, leb-false place k e, less))

goes-at : (b : Bool) (n i : ℕ) → suc i ≤ cond b (n + 1) 0 → (i ≤ n → i + 1 ≤ n) → suc i + 1 ≤ cond b (n + 1) 0
goes-at true n i inside rest = omega (arith, rest (omega (arith, inside)))
goes-at false n i inside rest = absurd (omega (arith, inside))

-- an aside with no later place stands above, where all before it do
pub above-goes : (asides : List Aside) (k i : ℕ) (r : Aside) → r ≡ get_or asides i r → i < length asides → r.place ≤ k → i ≤ above asides k → i + 1 ≤ above asides k
above-goes [] k i r is inside less so_far = absurd (omega (arith, inside))
above-goes (x ∷ xs) k zero r is inside less so_far = first-goes x.place k (above xs k) (nat_le x.place k) refl (subst (λ y. y.place ≤ k) is less)
above-goes (x ∷ xs) k (suc i) r is inside less so_far = goes-at (nat_le x.place k) (above xs k) i so_far (above-goes xs k i r is (omega (arith, inside)) less)

grows-at : (place k n m : ℕ) (b d : Bool) → nat_le place k ≡ b → nat_le place (k + 1) ≡ d → n ≤ m → cond b (n + 1) 0 ≤ cond d (m + 1) 0
grows-at place k n m true true e f less = omega (arith, less)
grows-at place k n m true false e f less = absurd (omega (arith, leb-true place k e, leb-false place (k + 1) f))
grows-at place k n m false d e f less = omega arith

-- those above an event stand above the next one
pub above-grows : (asides : List Aside) (k : ℕ) → above asides k ≤ above asides (k + 1)
above-grows [] k = omega arith
above-grows (r ∷ rs) k = grows-at r.place k (above rs k) (above rs (k + 1)) (nat_le r.place k) (nat_le r.place (k + 1)) refl refl (above-grows rs k)

-- the level of the next event
pub level-here : (asides : List Aside) (events : List Event) (i n : ℕ) → i < length events → n ≡ above asides i → i + n ≡ level_of asides (length (take i events))
level-here asides events i n inside is =
    let whole : length (take i events) ≡ i = omega (arith, length-take i events, inside) in
    ap (λ x. i + x) is ∙ sym (ap (level_of asides) whole)

later-at : (front place : ℕ) (b : Bool) → nat_le place front ≡ b → front ≤ cond b front place
later-at front place true e = omega arith
later-at front place false e = omega (arith, leb-false place front e)

-- no place is left again
pub later-up : (front place : ℕ) → front ≤ later front place
later-up front place = later-at front place (nat_le place front) refl

-- one aside more is laid out, and the rest is one shorter
pub asides-next : (rows : List Row) (t : List Event) (asides : List Aside) (k front next : ℕ) (r : Aside) (row : AsideRow) (out new whole : List AsideRow)
    → r ≡ get_or asides k r → k < length asides → next ≡ later front r.place → out ++ asides_from rows t k front (drop k asides) ≡ whole → row ≡ aside_row rows t k next r → new ≡ out ++ row ∷ []
    → new ++ asides_from rows t (k + 1) next (drop (k + 1) asides) ≡ whole
asides-next rows t asides k front next r row out new whole stands inside goes so_far is more =
    let s : k + 1 ≡ suc k = omega arith in
    let rest = drop-cons asides k r inside ∙ ap (λ x. x ∷ drop (suc k) asides) (sym stands) ∙ ap (λ n. r ∷ drop n asides) (sym s) in
    ap (λ u. u ++ asides_from rows t (k + 1) next (drop (k + 1) asides)) (more ∙ ap (λ x. out ++ x ∷ []) is)
    ∙ append_assoc out (aside_row rows t k next r ∷ []) (asides_from rows t (k + 1) next (drop (k + 1) asides))
    ∙ ap (λ n. out ++ aside_row rows t k n r ∷ asides_from rows t (k + 1) n (drop (k + 1) asides)) goes
    ∙ ap (λ xs. out ++ asides_from rows t k front xs) (sym rest) ∙ so_far
