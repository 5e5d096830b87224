-- Beginnings of one list.
use Rattle.std.proofs.Common.{◌≡◌, ℕ, zero, suc, ◌+◌, ◌-◌, ◌≤◌, List, [], ◌∷◌, ◌++◌, Some, None, length, take, drop, refl, sym, ap, ◌∙◌, arith}
use Rattle.std.specs.Prelude.{slice_get}
use Rattle.std.proofs.lemmas.List.{take-take, drop-drop, drop-take}

take-nil : {X : Type 0} (m : ℕ) → take {A = X} m [] ≡ []
take-nil zero = refl
take-nil (suc m) = refl

-- the first d, and m more
pub take-add : {X : Type 0} (d m : ℕ) (xs : List X) → take d xs ++ take m (drop d xs) ≡ take (d + m) xs
take-add zero m xs = ap (λ n. take n xs) (omega arith)
take-add (suc d) m [] = take-nil m ∙ sym (take-nil (suc d + m))
take-add (suc d) m (x ∷ xs) =
    let n : suc d + m ≡ suc (d + m) = omega arith in
    ap (λ ys. x ∷ ys) (take-add d m xs) ∙ sym (ap (λ k. take k (x ∷ xs)) n)

-- a list whose elements another has from its beginning on
pub front-is : {X : Type 0} (items xs : List X) → ((j : ℕ) (x : X) → slice_get items j ≡ Some x → slice_get xs j ≡ Some x) → items ≡ take (length items) xs
front-is [] xs same = refl
front-is (y ∷ items) [] same = let n : None ≡ Some y = same 0 y refl in cc
front-is (y ∷ items) (x ∷ xs) same =
    let first : Some x ≡ Some y = same 0 y refl in
    let e : x ≡ y = cc in
    ap (λ z. z ∷ items) (sym e) ∙ ap (λ zs. x ∷ zs) (front-is items xs (λ j z h. same (suc j) z h))

-- the element at an index past the first d
at-drop : {X : Type 0} (d j : ℕ) (xs : List X) → slice_get (drop d xs) j ≡ slice_get xs (d + j)
at-drop zero j xs = ap (slice_get xs) (omega arith)
at-drop (suc d) j [] = refl
at-drop (suc d) j (x ∷ xs) =
    let n : suc d + j ≡ suc (d + j) = omega arith in at-drop d j xs ∙ sym (ap (slice_get (x ∷ xs)) n)

-- items that a list has from an index on
pub part-is : {X : Type 0} (order items : List X) (base : ℕ) → ((j : ℕ) (x : X) → slice_get items j ≡ Some x → slice_get order (base + j) ≡ Some x)
    → items ≡ take (length items) (drop base order)
part-is order items base same = front-is items (drop base order) (λ j x h. at-drop base j order ∙ same j x h)

-- a beginning of a list, and those of its items from base on that lie past it
pub merged : {X : Type 0} (order items : List X) (base d : ℕ) → ((j : ℕ) (x : X) → slice_get items j ≡ Some x → slice_get order (base + j) ≡ Some x)
    → base ≤ d → d ≤ base + length items → take d order ++ drop (d - base) items ≡ take (base + length items) order
merged order items base d same low high =
    let n = d - base in
    let m = base + length items - d in
    let long : length items ≡ n + m = omega arith in
    let part : drop n items ≡ drop n (take (length items) (drop base order)) = ap (drop n) (part-is order items base same) in
    let cut : drop n (take (length items) (drop base order)) ≡ take m (drop n (drop base order)) =
    ap (λ k. drop n (take k (drop base order))) long ∙ drop-take n m (drop base order) in
    let rest : drop n (drop base order) ≡ drop d order = drop-drop n base order ∙ ap (λ k. drop k order) (omega arith) in
    ap (λ ys. take d order ++ ys) (part ∙ cut ∙ ap (take m) rest) ∙ take-add d m order ∙ ap (λ k. take k order) (omega arith)

-- of two beginnings of one list the shorter is a beginning of the longer
pub beginnings : {X : Type 0} (order xs ys : List X) (m n : ℕ) → xs ≡ take m order → ys ≡ take n order → m ≤ n → xs ≡ take m ys
beginnings order xs ys m n front other le = front ∙ sym (take-take m n order le) ∙ sym (ap (take m) other)

only : {X : Type 0} (order : List X) (d : ℕ) (x : X) → slice_get order d ≡ Some x
    → (j : ℕ) (y : X) → slice_get (x ∷ []) j ≡ Some y → slice_get (drop d order) j ≡ Some y
only order d x at zero y h = at-drop d 0 order ∙ ap (slice_get order) (omega arith) ∙ at ∙ h
only order d x at (suc j) y h = cc

-- a beginning of a list grows by the list's next element
pub one-more : {X : Type 0} (order xs : List X) (d : ℕ) (x : X) → xs ≡ take d order → slice_get order d ≡ Some x → xs ++ x ∷ [] ≡ take (d + 1) order
one-more order xs d x front at =
    let e : x ∷ [] ≡ take 1 (drop d order) = front-is (x ∷ []) (drop d order) (only order d x at) in
    ap (λ ys. ys ++ x ∷ []) front ∙ ap (λ ys. take d order ++ ys) e ∙ take-add d 1 order
