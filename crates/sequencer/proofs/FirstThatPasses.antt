-- The first element of a list that passes a test: found or changed.
use Rattle.std.proofs.Common.{◌≡◌, ℕ, zero, suc, ◌<◌, Bool, true, false, List, [], ◌∷◌, Some, None, refl, sym, ap, ◌∙◌, arith, length, get_or, position, cond}
use Rattle.std.specs.Prelude.{slice_get, slice_set, nat_lt, if◌then◌else◌}
use Rattle.std.specs.List.{find, position_or_len}
use Rattle.std.proofs.lemmas.Bool.Decides.{nat_tests}
use Rattle.std.proofs.lemmas.Option.{slice_get_read, slice_get_within, get_or_from_slice_get}
use Rattle.std.proofs.lemmas.List.Quantifiers.{position-Some}
use Rattle.std.proofs.lemmas.List.Sums.{fails_before_first}
use Rattle.sequencer.specs.Queues.{change_first}

-- x stands at i, and is the first that passes
pub record IsFirst {X : Type 0} (test : X → Bool) (xs : List X) (i : ℕ) (x : X) : Type 0 where
  pub at : slice_get xs i ≡ Some x
  pub passes : test x ≡ true
  pub before : (k : ℕ) (y : X) → k < i → slice_get xs k ≡ Some y → test y ≡ false

-- none passes
pub record IsNone {X : Type 0} (test : X → Bool) (xs : List X) : Type 0 where
  pub fails : (k : ℕ) (y : X) → slice_get xs k ≡ Some y → test y ≡ false

pub first-is : {X : Type 0} (test : X → Bool) (xs : List X) (i : ℕ) (x : X) → position test xs ≡ Some i → x ≡ get_or xs i x → IsFirst test xs i x
first-is test xs i x p e =
    let found = position-Some test xs i x p in record {
      at = slice_get_read xs (length xs) i x refl found.0 e;
      passes = ap test e ∙ found.1;
      before = λ k y l h. ap test (sym (get_or_from_slice_get xs k y x h)) ∙ found.2 k l;
    }

no-place : (b : Bool) (i : ℕ) → cond b (Some i) None ≡ None → b ≡ false
no-place true i h = cc
no-place false i h = refl

pub none-is : {X : Type 0} (test : X → Bool) (xs : List X) → position test xs ≡ None → IsNone test xs
none-is test xs p =
    let past : nat_lt (position_or_len test xs) (length xs) ≡ false = no-place _ _ p in record {
      fails = λ k y h. let w = slice_get_within xs k y h in let l : k < position_or_len test xs = grind (arith, nat_tests) in
          ap test (sym (get_or_from_slice_get xs k y y h)) ∙ fails_before_first test xs k y l;
    }

rest-first : {X : Type 0} (test : X → Bool) (y : X) (xs : List X) (i : ℕ) (x : X) → IsFirst test (y ∷ xs) (suc i) x → IsFirst test xs i x
rest-first test y xs i x f = record { at = f.at; passes = f.passes; before = λ k z l h. f.before (suc k) z (omega arith) h }

rest-none : {X : Type 0} (test : X → Bool) (y : X) (xs : List X) → IsNone test (y ∷ xs) → IsNone test xs
rest-none test y xs n = record { fails = λ k z h. n.fails (suc k) z h }

same-head : {X : Type 0} (test : X → Bool) (y : X) (xs : List X) (x : X) → IsFirst test (y ∷ xs) zero x → y ≡ x
same-head test y xs x f = let e : Some y ≡ Some x = f.at in cc

pub change-at : {X : Type 0} (test : X → Bool) (f : X → X) (xs : List X) (i : ℕ) (x : X) → IsFirst test xs i x → slice_set xs i (f x) ≡ change_first test f xs
change-at test f [] i x t = let e : None ≡ Some x = t.at in cc
change-at test f (y ∷ xs) zero x t =
    let e : y ≡ x = same-head test y xs x t in
    let p : test y ≡ true = ap test e ∙ t.passes in
    ap (λ z. f z ∷ xs) (sym e) ∙ sym (ap (λ b. if b then f y ∷ xs else y ∷ change_first test f xs) p)
change-at test f (y ∷ xs) (suc i) x t =
    let p : test y ≡ false = t.before 0 y (omega arith) refl in
    ap (λ zs. y ∷ zs) (change-at test f xs i x (rest-first test y xs i x t)) ∙ sym (ap (λ b. if b then f y ∷ xs else y ∷ change_first test f xs) p)

pub find-at : {X : Type 0} (test : X → Bool) (xs : List X) (i : ℕ) (x : X) → IsFirst test xs i x → find test xs ≡ Some x
find-at test [] i x t = let e : None ≡ Some x = t.at in cc
find-at test (y ∷ xs) zero x t =
    let e : y ≡ x = same-head test y xs x t in
    ap (λ b. cond b (Some y) (find test xs)) (ap test e ∙ t.passes) ∙ ap Some e
find-at test (y ∷ xs) (suc i) x t =
    ap (λ b. cond b (Some y) (find test xs)) (t.before 0 y (omega arith) refl) ∙ find-at test xs i x (rest-first test y xs i x t)

pub change-none : {X : Type 0} (test : X → Bool) (f : X → X) (xs : List X) → IsNone test xs → change_first test f xs ≡ xs
change-none test f [] n = refl
change-none test f (y ∷ xs) n =
    ap (λ b. if b then f y ∷ xs else y ∷ change_first test f xs) (n.fails 0 y refl) ∙ ap (λ zs. y ∷ zs) (change-none test f xs (rest-none test y xs n))

pub find-none : {X : Type 0} (test : X → Bool) (xs : List X) → IsNone test xs → find test xs ≡ None
find-none test [] n = refl
find-none test (y ∷ xs) n = ap (λ b. cond b (Some y) (find test xs)) (n.fails 0 y refl) ∙ find-none test xs (rest-none test y xs n)
