-- What a loop keeps that reads so many values, one behind the other.
use Rattle.std.proofs.Common.{◌≡◌, ℕ, suc, ◌+◌, ◌-◌, ◌<◌, ◌≤◌, List, [], ◌∷◌, ◌++◌, Some, None, refl, sym, ap, ◌∙◌, append_assoc, arith}
use Rattle.std.proofs.lemmas.List.{append-nil}
use Rattle.big_endian.specs.Reading.{Read, ◌>>=◌, list_at}

abbrev pub with_front : {A : Type 0} → List A → Read (List A) → Read (List A)
with_front front (Some x) = Some (front ++ x.0, x.1)
with_front front None = None

pub list_goes_on : {A : Type 0} (read : List ℕ → Read A) (count i : ℕ) (bytes : List ℕ) (front : List A) (x : A) (rest : List ℕ) (total : Read (List A)) → i < count → read bytes ≡ Some (x, rest)
    → with_front front (list_at read (count - i) bytes) ≡ total → with_front (front ++ x ∷ []) (list_at read (count - (i + 1)) rest) ≡ total
unfolding list_at
list_goes_on read count i bytes front x rest total lt h so_far =
    let k : count - i ≡ suc (count - (i + 1)) = omega arith in
    let one : with_front front (list_at read (count - i) bytes) ≡ with_front (front ++ x ∷ []) (list_at read (count - (i + 1)) rest) = rw (k, h) (passed front x (list_at read (count - (i + 1)) rest)) in
    sym one ∙ so_far where
      passed : {A : Type 0} (front : List A) (x : A) (r : Read (List A)) → with_front front (r >>= λ others. Some (x ∷ others.0, others.1)) ≡ with_front (front ++ x ∷ []) r
      passed {A = A} front x (Some y) = ap (λ (t : List A). Some (t, y.1)) (sym (append_assoc front (x ∷ []) y.0))
      passed front x None = refl

pub list_ends : {A : Type 0} (read : List ℕ → Read A) (count i : ℕ) (bytes : List ℕ) (front : List A) (total : Read (List A)) → i < count → read bytes ≡ None
    → with_front front (list_at read (count - i) bytes) ≡ total → total ≡ None
unfolding list_at
list_ends read count i bytes front total lt h so_far =
    let k : count - i ≡ suc (count - (i + 1)) = omega arith in
    let one : with_front front (list_at read (count - i) bytes) ≡ None = rw (k, h) refl in
    sym so_far ∙ one

pub list_is_done : {A : Type 0} (read : List ℕ → Read A) (count i : ℕ) (bytes : List ℕ) (front : List A) (total : Read (List A)) → count ≤ i
    → with_front front (list_at read (count - i) bytes) ≡ total → total ≡ Some (front, bytes)
unfolding list_at
list_is_done read count i bytes front total le so_far =
    let k : count - i ≡ 0 = omega arith in
    let one : with_front front (list_at read (count - i) bytes) ≡ Some (front, bytes) = rw k (nothing_more front bytes) in
    sym so_far ∙ one where
      nothing_more : {A : Type 0} (front : List A) (bytes : List ℕ) → with_front front (Some ([], bytes)) ≡ Some (front, bytes)
      nothing_more {A = A} front bytes = ap (λ (t : List A). Some (t, bytes)) (append-nil front)
