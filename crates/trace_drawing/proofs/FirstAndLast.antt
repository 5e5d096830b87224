-- First and last places, where one more comes.
use Rattle.std.proofs.Common.{◌≡◌, ℕ, ◌+◌, Bool, true, false, cond, List, [], ◌∷◌, ◌++◌, length, suc, Option, Some, None, unwrap_or, sym, refl, ap, ◌∙◌, arith, add-zero}
use Rattle.std.specs.Option.{option_or}
use Rattle.std.specs.List.{position_from}
use Rattle.trace_drawing.specs.Layout.{first_place, last_from, last_place}

or-cond : {X : Type 0} (b : Bool) (x : X) (o p : Option X) → option_or (cond b (Some x) o) p ≡ cond b (Some x) (option_or o p)
or-cond true x o p = refl
or-cond false x o p = refl

-- the last place, one further
pub last_from-push : {X : Type 0} (test : X → Bool) (k : ℕ) (xs : List X) (x : X) → last_from test k (xs ++ x ∷ []) ≡ cond (test x) (Some (k + length xs)) (last_from test k xs)
last_from-push test k [] x = ap (λ n. cond (test x) (Some n) None) (sym (add-zero k))
last_from-push test k (y ∷ ys) x =
    let e : (k + 1) + length ys ≡ k + suc (length ys) = omega arith in
    ap (λ o. option_or o (cond (test y) (Some k) None)) (last_from-push test (k + 1) ys x)
    ∙ or-cond (test x) ((k + 1) + length ys) (last_from test (k + 1) ys) (cond (test y) (Some k) None)
    ∙ ap (λ n. cond (test x) (Some n) (option_or (last_from test (k + 1) ys) (cond (test y) (Some k) None))) e

-- the last place, where one more comes
pub last_place-push : {X : Type 0} (test : X → Bool) (xs : List X) (x : X) → last_place test (xs ++ x ∷ []) ≡ cond (test x) (Some (length xs)) (last_place test xs)
last_place-push test xs x =
    let e : 0 + length xs ≡ length xs = omega arith in
    last_from-push test 0 xs x ∙ ap (λ n. cond (test x) (Some n) (last_from test 0 xs)) e

pub last-hit : {X : Type 0} (test : X → Bool) (xs : List X) (x : X) → test x ≡ true → last_place test (xs ++ x ∷ []) ≡ Some (length xs)
last-hit test xs x e = last_place-push test xs x ∙ ap (λ b. cond b (Some (length xs)) (last_place test xs)) e

pub last-miss : {X : Type 0} (test : X → Bool) (xs : List X) (x : X) → test x ≡ false → last_place test (xs ++ x ∷ []) ≡ last_place test xs
last-miss test xs x e = last_place-push test xs x ∙ ap (λ b. cond b (Some (length xs)) (last_place test xs)) e

first-at : {X : Type 0} (test : X → Bool) (b : Bool) (k : ℕ) (xs : List X) (x : X) (o : Option ℕ) → (n : ℕ) → cond b (Some k) (option_or o (cond (test x) (Some n) None)) ≡ option_or (cond b (Some k) o) (cond (test x) (Some n) None)
first-at test true k xs x o n = refl
first-at test false k xs x o n = refl

-- the first place, one further
pub first_from-push : {X : Type 0} (test : X → Bool) (k : ℕ) (xs : List X) (x : X) → position_from test k (xs ++ x ∷ []) ≡ option_or (position_from test k xs) (cond (test x) (Some (k + length xs)) None)
first_from-push test k [] x = ap (λ n. cond (test x) (Some n) None) (sym (add-zero k))
first_from-push test k (y ∷ ys) x =
    let e : (k + 1) + length ys ≡ k + suc (length ys) = omega arith in
    ap (λ o. cond (test y) (Some k) o) (first_from-push test (k + 1) ys x)
    ∙ ap (λ n. cond (test y) (Some k) (option_or (position_from test (k + 1) ys) (cond (test x) (Some n) None))) e
    ∙ first-at test (test y) k ys x (position_from test (k + 1) ys) (k + suc (length ys))

or-none : {X : Type 0} (o : Option X) → option_or o None ≡ o
or-none None = refl
or-none (Some x) = refl

or-some : {X : Type 0} (o : Option X) (x : X) → option_or o (Some x) ≡ Some (unwrap_or o x)
or-some None x = refl
or-some (Some y) x = refl

pub first-hit : {X : Type 0} (test : X → Bool) (xs : List X) (x : X) → test x ≡ true → first_place test (xs ++ x ∷ []) ≡ Some (unwrap_or (first_place test xs) (length xs))
first-hit test xs x e =
    let f : 0 + length xs ≡ length xs = omega arith in
    first_from-push test 0 xs x ∙ ap (λ b. option_or (first_place test xs) (cond b (Some (0 + length xs)) None)) e
    ∙ or-some (first_place test xs) (0 + length xs) ∙ ap (λ n. Some (unwrap_or (first_place test xs) n)) f

pub first-miss : {X : Type 0} (test : X → Bool) (xs : List X) (x : X) → test x ≡ false → first_place test (xs ++ x ∷ []) ≡ first_place test xs
first-miss test xs x e =
    first_from-push test 0 xs x ∙ ap (λ b. option_or (first_place test xs) (cond b (Some (0 + length xs)) None)) e ∙ or-none (first_place test xs)
