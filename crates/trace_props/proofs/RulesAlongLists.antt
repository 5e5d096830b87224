-- What one more element changes of the rules along a list, and of a list that is a beginning of another.
use Rattle.std.proofs.Common.{◌≡◌, ℕ, suc, zero, ◌+◌, ◌<◌, ◌≤◌, List, [], ◌∷◌, ◌++◌, length, take, drop, Some, sym, refl, ap, ◌∙◌, subst, ◌⊎◌, inl, inr, ⊎_elim, add-one, arith}
use Rattle.std.specs.List.{slice_get}
use Rattle.std.proofs.lemmas.Bool.{cases_lt}
use Rattle.std.proofs.lemmas.List.{take-append-le, take_at, take_all, length_push, length-take}
use Rattle.std.proofs.lemmas.Option.{slice_get_within, same_Some, none-some}
use Rattle.trace_props.specs.Places.{EachEvent, EachPlace, IsBeginningOf}

-- what a list with one more element has at a place: what it had, or the new element at its end
pub slice_get-push : {H : Type 0} → (t : List H) (h : H) (k : ℕ) (x : H) → slice_get (t ++ h ∷ []) k ≡ Some x → (slice_get t k ≡ Some x) ⊎ ((k ≡ length t) × (h ≡ x))
slice_get-push [] h zero x e = inr (refl, same_Some h x e)
slice_get-push [] h (suc k) x e = absurd (none-some x e)
slice_get-push (y ∷ t) h zero x e = inl e
slice_get-push (y ∷ t) h (suc k) x e = ⊎_elim (λ a. inl a) (λ b. inr (ap suc b.0, b.1)) (slice_get-push t h k x e)

-- an element stays at its place when others follow
pub slice_get-before : {H : Type 0} → (t u : List H) (k : ℕ) (x : H) → slice_get t k ≡ Some x → slice_get (t ++ u) k ≡ Some x
slice_get-before [] u k x e = absurd (none-some x e)
slice_get-before (y ∷ t) u zero x e = e
slice_get-before (y ∷ t) u (suc k) x e = slice_get-before t u k x e

-- the new element stands at the end
pub slice_get-last : {H : Type 0} → (t : List H) (h : H) → slice_get (t ++ h ∷ []) (length t) ≡ Some h
slice_get-last [] h = refl
slice_get-last (y ∷ t) h = slice_get-last t h

-- nothing stands in an empty list
slice_get-nil : {H : Type 0} → (k : ℕ) (x : H) → slice_get [] k ≡ Some x → ⊥
slice_get-nil k x e = none-some x e

-- of an empty list each rule on events holds
pub EachEvent-nil : {H : Type 0} (Rule : List H → H → Type 0) → EachEvent Rule []
EachEvent-nil Rule k h e = absurd (slice_get-nil k h e)

-- a rule on each event goes one event further where the new one keeps it
pub EachEvent-push : {H : Type 0} (Rule : List H → H → Type 0) (t : List H) (h : H) → EachEvent Rule t → Rule t h → EachEvent Rule (t ++ h ∷ [])
EachEvent-push {H} Rule t h each new k x e =
    ⊎_elim
    (λ (a : slice_get t k ≡ Some x). let within : k < length t = slice_get_within t k x a in subst (λ (s : List H). Rule s x) (sym (take-append-le k t (h ∷ []) (omega arith))) (each k x a))
    (λ (b : (k ≡ length t) × (h ≡ x)). subst (λ (s : List H). Rule s x) (sym (take_at t (h ∷ []) k (sym b.0))) (subst (λ (y : H). Rule t y) b.1 new))
    (slice_get-push t h k x e)

-- it held of all but the last
pub EachEvent-before : {H : Type 0} (Rule : List H → H → Type 0) (t : List H) (h : H) → EachEvent Rule (t ++ h ∷ []) → EachEvent Rule t
EachEvent-before {H} Rule t h each k x e =
    let within : k < length t = slice_get_within t k x e in
    subst (λ (s : List H). Rule s x) (take-append-le k t (h ∷ []) (omega arith)) (each k x (slice_get-before t (h ∷ []) k x e))

-- and it holds of the last
pub EachEvent-last : {H : Type 0} (Rule : List H → H → Type 0) (t : List H) (h : H) → EachEvent Rule (t ++ h ∷ []) → Rule t h
EachEvent-last {H} Rule t h each = subst (λ (s : List H). Rule s h) (take_at t (h ∷ []) (length t) refl) (each (length t) h (slice_get-last t h))

-- a beginning of an empty list is empty
take-nil : {H : Type 0} → (k : ℕ) → take {A = H} k [] ≡ []
take-nil zero = refl
take-nil (suc k) = refl

-- at an empty list a rule on places holds where it holds of nothing
pub EachPlace-nil : {H : Type 0} (Rule : List H → Type 0) → Rule [] → EachPlace Rule []
EachPlace-nil {H} Rule nothing k = subst Rule (sym (take-nil k)) nothing

-- a rule on each beginning goes one event further where the whole keeps it
pub EachPlace-push : {H : Type 0} (Rule : List H → Type 0) (t : List H) (h : H) → EachPlace Rule t → Rule (t ++ h ∷ []) → EachPlace Rule (t ++ h ∷ [])
EachPlace-push {H} Rule t h each new k =
    ⊎_elim
    (λ (l : length t < k). let long : length (t ++ h ∷ []) ≡ length t + 1 = length_push t h in subst Rule (sym (take_all k (t ++ h ∷ []) (omega arith))) new)
    (λ (l : k ≤ length t). subst Rule (sym (take-append-le k t (h ∷ []) l)) (each k))
    (cases_lt (length t) k)

-- the whole list is one of its beginnings
pub EachPlace-whole : {H : Type 0} (Rule : List H → Type 0) (t : List H) → EachPlace Rule t → Rule t
EachPlace-whole Rule t each = subst Rule (take_all (length t) t (omega arith)) (each (length t))

-- the beginnings of a beginning are beginnings
pub EachPlace-before : {H : Type 0} (Rule : List H → Type 0) (t : List H) (h : H) → EachPlace Rule (t ++ h ∷ []) → EachPlace Rule t
EachPlace-before {H} Rule t h each k =
    ⊎_elim
    (λ (l : length t < k). subst Rule (take_at t (h ∷ []) (length t) refl ∙ sym (take_all k t (omega arith))) (each (length t)))
    (λ (l : k ≤ length t). subst Rule (take-append-le k t (h ∷ []) l) (each k))
    (cases_lt (length t) k)

-- BEGINNINGS

-- a list is a beginning of itself
pub IsBeginningOf-same : {X : Type 0} (xs : List X) → IsBeginningOf xs xs
IsBeginningOf-same xs = sym (take_all (length xs) xs (omega arith))

-- a beginning is no longer than the whole
pub IsBeginningOf-length : {X : Type 0} (xs ys : List X) → IsBeginningOf xs ys → length xs ≤ length ys
IsBeginningOf-length xs ys b = omega (arith, ap length b, length-take (length xs) ys)

-- it stays one when the whole grows
pub IsBeginningOf-grow : {X : Type 0} (xs ys zs : List X) → IsBeginningOf xs ys → IsBeginningOf xs (ys ++ zs)
IsBeginningOf-grow xs ys zs b = b ∙ sym (take-append-le (length xs) ys zs (IsBeginningOf-length xs ys b))

-- with its next element it is one more element long
pub take-next : {X : Type 0} → (n : ℕ) (ys : List X) (y : X) → slice_get ys n ≡ Some y → take (suc n) ys ≡ take n ys ++ y ∷ []
take-next zero [] y e = absurd (none-some y e)
take-next (suc n) [] y e = absurd (none-some y e)
take-next zero (x ∷ ys) y e = ap (λ z. z ∷ []) (same_Some x y e)
take-next (suc n) (x ∷ ys) y e = ap (λ l. x ∷ l) (take-next n ys y e)

-- a beginning goes on with the next element of the whole
pub IsBeginningOf-next : {X : Type 0} (xs ys : List X) (y : X) → IsBeginningOf xs ys → slice_get ys (length xs) ≡ Some y → IsBeginningOf (xs ++ y ∷ []) ys
IsBeginningOf-next {X} xs ys y b e =
    ap (λ (l : List X). l ++ y ∷ []) b ∙ sym (take-next (length xs) ys y e) ∙ ap (λ n. take n ys) (sym (length_push xs y ∙ add-one (length xs)))

-- what stands in a beginning stands in the whole
pub slice_get-take : {X : Type 0} → (n : ℕ) (ys : List X) (k : ℕ) (x : X) → slice_get (take n ys) k ≡ Some x → slice_get ys k ≡ Some x
slice_get-take zero ys k x e = absurd (none-some x e)
slice_get-take (suc n) [] k x e = absurd (none-some x e)
slice_get-take (suc n) (y ∷ ys) zero x e = e
slice_get-take (suc n) (y ∷ ys) (suc k) x e = slice_get-take n ys k x e

-- a beginning's elements are the whole's
pub IsBeginningOf-at : {X : Type 0} (xs ys : List X) (k : ℕ) (x : X) → IsBeginningOf xs ys → slice_get xs k ≡ Some x → slice_get ys k ≡ Some x
IsBeginningOf-at xs ys k x b e = slice_get-take (length xs) ys k x (ap (λ l. slice_get l k) (sym b) ∙ e)

-- what ends a beginning is the element of the whole that stands there
pub IsBeginningOf-last : {X : Type 0} (xs ys : List X) (y : X) → IsBeginningOf (xs ++ y ∷ []) ys → slice_get ys (length xs) ≡ Some y
IsBeginningOf-last xs ys y b = IsBeginningOf-at (xs ++ y ∷ []) ys (length xs) y b (slice_get-last xs y)

-- what stands past the front of a list
pub slice_get-drop : {X : Type 0} → (n : ℕ) (xs : List X) (k : ℕ) → slice_get (drop n xs) k ≡ slice_get xs (n + k)
slice_get-drop zero xs k = ap (slice_get xs) (omega arith)
slice_get-drop (suc n) [] k = refl
slice_get-drop (suc n) (x ∷ xs) k = slice_get-drop n xs k ∙ ap (slice_get (x ∷ xs)) (ap suc refl ∙ omega arith)
