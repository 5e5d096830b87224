-- Asides between events.
use Rattle.std.proofs.Common.{◌≡◌, ℕ, ◌+◌, ◌<◌, ◌≤◌, Bool, true, false, cond, nat_le, List, [], ◌∷◌, length, slice_get, suc, zero, Some, sym, refl, ap, ◌∙◌, subst, arith}
use Rattle.std.proofs.lemmas.Bool.{leb-true, leb-false}
use Rattle.std.proofs.lemmas.Option.{none-some, same_Some}
use Rattle.trace_props.specs.declared.event.Event.{Event}
use Rattle.trace_drawing.specs.declared.row.Row.{Row}
use Rattle.trace_drawing.specs.declared.aside.Aside.{Aside}
use Rattle.trace_drawing.specs.Layout.{above, level_of, later, aside_row, asides_from, aside_rows}
use Rattle.trace_drawing.specs.Promises.{AreInOrder}

count-from : (rows : List Row) (t : List Event) (count front : ℕ) (asides : List Aside) → length (asides_from rows t count front asides) ≡ length asides
count-from rows t count front [] = refl
count-from rows t count front (r ∷ rs) = ap suc (count-from rows t (count + 1) (later front r.place) rs)

-- a row for each aside
pub aside-count : (rows : List Row) (t : List Event) (asides : List Aside) → length (aside_rows rows t asides) ≡ length asides
aside-count rows t asides = count-from rows t 0 0 asides

later-at : (front place : ℕ) (b : Bool) → nat_le place front ≡ b → front ≤ place → cond b front place ≡ place
later-at front place true e less = omega (arith, leb-true place front e, less)
later-at front place false e less = refl

later-is : (front place : ℕ) → front ≤ place → later front place ≡ place
later-is front place less = later-at front place (nat_le place front) refl less

each-from : (rows : List Row) (t : List Event) (count front : ℕ) (asides : List Aside) (j : ℕ) (r : Aside) → AreInOrder front asides → slice_get asides j ≡ Some r
    → slice_get (asides_from rows t count front asides) j ≡ Some (aside_row rows t (count + j) r.place r)
each-from rows t count front [] j r order at = absurd (none-some r at)
each-from rows t count front (x ∷ xs) zero r order at =
    let none : count ≡ count + 0 = omega arith in
    ap (λ n. Some (aside_row rows t count n x)) (later-is front x.place order.0)
    ∙ ap (λ n. Some (aside_row rows t n x.place x)) none ∙ ap (λ y. Some (aside_row rows t (count + 0) y.place y)) (same_Some x r at)
each-from rows t count front (x ∷ xs) (suc j) r order at =
    let more : count + 1 + j ≡ count + suc j = omega arith in
    ap (λ n. slice_get (asides_from rows t (count + 1) n xs) j) (later-is front x.place order.0)
    ∙ each-from rows t (count + 1) x.place xs j r order.1 at ∙ ap (λ n. Some (aside_row rows t n r.place r)) more

-- each aside is drawn at its place
pub aside-each : (rows : List Row) (t : List Event) (asides : List Aside) (j : ℕ) (r : Aside) → AreInOrder 0 asides → slice_get asides j ≡ Some r
    → slice_get (aside_rows rows t asides) j ≡ Some (aside_row rows t j r.place r)
aside-each rows t asides j r order at =
    let none : 0 + j ≡ j = omega arith in
    each-from rows t 0 0 asides j r order at ∙ ap (λ n. Some (aside_row rows t n r.place r)) none

stops-at : (b : Bool) (n j : ℕ) → n ≤ j → cond b (n + 1) 0 ≤ suc j
stops-at true n j less = omega (arith, less)
stops-at false n j less = omega arith

first-stops : (place k n : ℕ) (b : Bool) → nat_le place k ≡ b → k < place → cond b (n + 1) 0 ≤ 0
first-stops place k n true e less = absurd (omega (arith, leb-true place k e, less))
first-stops place k n false e less = omega arith

stops : (asides : List Aside) (j k : ℕ) (r : Aside) → slice_get asides j ≡ Some r → k < r.place → above asides k ≤ j
stops [] j k r at less = absurd (none-some r at)
stops (x ∷ xs) zero k r at less = first-stops x.place k (above xs k) (nat_le x.place k) refl (subst (λ y. k < y.place) (sym (same_Some x r at)) less)
stops (x ∷ xs) (suc j) k r at less = stops-at (nat_le x.place k) (above xs k) j (stops xs j k r at less)

-- an event before an aside's place stands above it
pub aside-below : (asides : List Aside) (j k : ℕ) (r : Aside) → slice_get asides j ≡ Some r → k < r.place → level_of asides k < j + r.place
aside-below asides j k r at less = omega (arith, stops asides j k r at less, less)

from-front : (front : ℕ) (asides : List Aside) (j : ℕ) (r : Aside) → AreInOrder front asides → slice_get asides j ≡ Some r → front ≤ r.place
from-front front [] j r order at = absurd (none-some r at)
from-front front (x ∷ xs) zero r order at = subst (λ y. front ≤ y.place) (same_Some x r at) order.0
from-front front (x ∷ xs) (suc j) r order at = omega (arith, order.0, from-front x.place xs j r order.1 at)

goes-at : (place k n m : ℕ) (b : Bool) → nat_le place k ≡ b → place ≤ k → m ≤ n → suc m ≤ cond b (n + 1) 0
goes-at place k n m true e less rest = omega (arith, rest)
goes-at place k n m false e less rest = absurd (omega (arith, leb-false place k e, less))

goes : (front : ℕ) (asides : List Aside) (j k : ℕ) (r : Aside) → AreInOrder front asides → slice_get asides j ≡ Some r → r.place ≤ k → suc j ≤ above asides k
goes front [] j k r order at less = absurd (none-some r at)
goes front (x ∷ xs) zero k r order at less = goes-at x.place k (above xs k) 0 (nat_le x.place k) refl (subst (λ y. y.place ≤ k) (sym (same_Some x r at)) less) (omega arith)
goes front (x ∷ xs) (suc j) k r order at less =
    goes-at x.place k (above xs k) (suc j) (nat_le x.place k) refl (omega (arith, from-front x.place xs j r order.1 at, less)) (goes x.place xs j k r order.1 at less)

-- any other event stands below it
pub aside-above : (asides : List Aside) (j k : ℕ) (r : Aside) → AreInOrder 0 asides → slice_get asides j ≡ Some r → r.place ≤ k → j + r.place < level_of asides k
aside-above asides j k r order at less = omega (arith, goes 0 asides j k r order at less, less)
