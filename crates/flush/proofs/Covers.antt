-- What a cut is for.
use Rattle.std.proofs.Common.{◌≡◌, ℕ, zero, suc, ◌+◌, ◌<◌, ◌≤◌, Bool, true, false, Option, Some, None, List, [], ◌∷◌, length, refl, sym, ap, ◌∙◌, subst, arith}
use Rattle.std.specs.Prelude.{slice_get, is_some, nat_lt}
use Rattle.std.specs.Option.{option_or}
use Rattle.std.proofs.lemmas.Bool.Decides.{nat_tests}
use Rattle.wire_values.specs.Values.{Entry, held_at, Report}
use Rattle.wire_values.specs.Lists.{is_report}
use Rattle.flush.specs.Cuts.{first_of, held_among, greatest_stable, IsCut}
use Rattle.flush.specs.Covers.{EachReport, CutCovers, BaseIsBelow, OneCut}
use Rattle.flush.proofs.Reports.{report-fills}

-- ---- what is found first

-- what is found stands in an element
pub record Standing {X Y : Type 0} (f : X → Option Y) (xs : List X) (y : Y) : Type 0 where
  pub index : ℕ
  pub element : X
  pub stands : slice_get xs index ≡ Some element
  pub gives : f element ≡ Some y

stands-by : {X Y : Type 0} (o : Option Y) (f : X → Option Y) (x : X) (xs : List X) (y : Y) → f x ≡ o → (first_of f xs ≡ Some y → Standing f xs y)
    → first_of f (x ∷ xs) ≡ Some y → Standing f (x ∷ xs) y
stands-by None f x xs y q later h =
    let rest = later (sym (ap (λ t. option_or t (first_of f xs)) q) ∙ h) in
    record { index = suc rest.index; element = rest.element; stands = rest.stands; gives = rest.gives }
stands-by (Some z) f x xs y q later h =
    let e : Some z ≡ Some y = sym (ap (λ t. option_or t (first_of f xs)) q) ∙ h in
    record { index = 0; element = x; stands = refl; gives = q ∙ e }

pub first-stands : {X Y : Type 0} (f : X → Option Y) (xs : List X) (y : Y) → first_of f xs ≡ Some y → Standing f xs y
first-stands f [] y h = absurd (let n : None ≡ Some y = h in cc)
first-stands f (x ∷ xs) y h = stands-by (f x) f x xs y refl (first-stands f xs y) h

none-by : {X Y : Type 0} (o : Option Y) (f : X → Option Y) (z : X) (xs : List X) (x : X) → f z ≡ o
    → (first_of f xs ≡ None → (i : ℕ) → slice_get xs i ≡ Some x → f x ≡ None) → first_of f (z ∷ xs) ≡ None → (i : ℕ) → slice_get (z ∷ xs) i ≡ Some x → f x ≡ None
none-by None f z xs x q later h zero at = let e : Some z ≡ Some x = at in let s : z ≡ x = cc in ap f (sym s) ∙ q
none-by None f z xs x q later h (suc i) at = later (sym (ap (λ t. option_or t (first_of f xs)) q) ∙ h) i at
none-by (Some y) f z xs x q later h i at = absurd (let n : Some y ≡ None = sym (ap (λ t. option_or t (first_of f xs)) q) ∙ h in cc)

-- where nothing is found no element gives anything
pub none-gives : {X Y : Type 0} (f : X → Option Y) (xs : List X) → first_of f xs ≡ None → (i : ℕ) (x : X) → slice_get xs i ≡ Some x → f x ≡ None
none-gives f [] h i x at = absurd (let n : None ≡ Some x = at in cc)
none-gives f (z ∷ xs) h i x at = none-by (f z) f z xs x refl (λ g j a. none-gives f xs g j x a) h i at

-- ---- the greatest stable count

pub stable-le : (reports : List Report) (i : ℕ) (r : Report) → slice_get reports i ≡ Some r → r.stable ≤ greatest_stable reports
stable-le [] i r at = absurd (let n : None ≡ Some r = at in cc)
stable-le (s ∷ reports) zero r at = let e : Some s ≡ Some r = at in let n : s.stable ≡ r.stable = cc in omega arith
stable-le (s ∷ reports) (suc i) r at = omega (arith, stable-le reports i r at)

pub greatest-le : (n : ℕ) (reports : List Report) → EachReport (λ r. r.stable ≤ n) reports → greatest_stable reports ≤ n
greatest-le n [] below = omega arith
greatest-le n (s ∷ reports) below =
    let first : s.stable ≤ n = below 0 s refl in omega (arith, greatest-le n reports (λ i r at. below (suc i) r at))

-- ---- the laws of a cut

reaches-by : (reports : List Report) (b : ℕ) (items : List Entry) (i : ℕ) (r : Report) (t : Bool) → nat_lt (b + length items) r.delivered ≡ t
    → IsCut reports b items → is_report r ≡ true → slice_get reports i ≡ Some r → r.delivered ≤ b + length items
reaches-by reports b items i r false q cut rules at = grind (arith, nat_tests)
reaches-by reports b items i r true q cut rules at =
    let past : b + length items < r.delivered = grind (arith, nat_tests) in
    let g = b + length items + 1 in
    let low : r.stable ≤ b = subst (λ n. r.stable ≤ n) (sym cut.base) (stable-le reports i r at) in
    let there : is_some (held_at g r.held) ≡ true = report-fills r rules g (omega arith) (omega arith) in
    let gone : held_at g r.held ≡ None = none-gives (λ s. held_at g s.held) reports cut.end i r at in
    absurd (let n : is_some {T = Entry} None ≡ true = sym (ap is_some gone) ∙ there in cc)

pub cut-covers : CutCovers
cut-covers order reports b items cut rules agrees = record {
  agrees = λ j e h. let s = first-stands (λ r. held_at (b + j + 1) r.held) reports e (cut.each j e h) in
      agrees s.index s.element s.stands (b + j) e s.gives;
  reaches = λ i r at. reaches-by reports b items i r (nat_lt (b + length items) r.delivered) refl cut (rules i r at) at;
}

pub base-is-below : BaseIsBelow
base-is-below n reports b items cut below = subst (λ m. m ≤ n) (sym cut.base) (greatest-le n reports below)

-- two lists that a function gives, each up to the first number at which it gives nothing
pub one-list : {X : Type 0} (f : ℕ → Option X) (xs ys : List X) → ((j : ℕ) (x : X) → slice_get xs j ≡ Some x → f j ≡ Some x) → f (length xs) ≡ None
    → ((j : ℕ) (y : X) → slice_get ys j ≡ Some y → f j ≡ Some y) → f (length ys) ≡ None → xs ≡ ys
one-list f [] [] ex nx ey ny = refl
one-list f [] (y ∷ ys) ex nx ey ny = let a : f 0 ≡ Some y = ey 0 y refl in let b : f 0 ≡ None = nx in absurd cc
one-list f (x ∷ xs) [] ex nx ey ny = let a : f 0 ≡ Some x = ex 0 x refl in let b : f 0 ≡ None = ny in absurd cc
one-list f (x ∷ xs) (y ∷ ys) ex nx ey ny =
    let a : f 0 ≡ Some x = ex 0 x refl in
    let b : f 0 ≡ Some y = ey 0 y refl in
    let e : x ≡ y = cc in
    ap (λ z. z ∷ xs) e ∙ ap (λ zs. y ∷ zs) (one-list (λ j. f (suc j)) xs ys (λ j z h. ex (suc j) z h) nx (λ j z h. ey (suc j) z h) ny)

pub one-cut : OneCut
one-cut reports b c xs ys p q =
    let e : c ≡ b = q.base ∙ sym p.base in
    let r : IsCut reports b ys = subst (λ n. IsCut reports n ys) e q in
    (sym e, one-list (λ j. held_among reports (b + j + 1)) xs ys p.each p.end r.each r.end)
