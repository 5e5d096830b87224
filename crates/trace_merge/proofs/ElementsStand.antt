-- Elements of lists: where they stand, and what a filter keeps of them.
use Rattle.std.proofs.Common.{◌≡◌, ℕ, suc, zero, Bool, true, false, cond, ◌||◌, List, [], ◌∷◌, ◌++◌, map, take, drop, filter_map, Option, Some, None, Contains, slice_get, sym, refl, ap, ◌∙◌, subst}
use Rattle.std.specs.List.{filter, list_any, cons_option}
use Rattle.std.proofs.lemmas.Bool.{cond-true, cond-false, or_left, or_right, true≢false}
use Rattle.std.proofs.lemmas.Option.{none-some, same_Some, slice_get_within, get_or_from_slice_get}

-- an element stands in a list
abbrev pub Has : {X : Type 0} → List X → X → Type 0
Has xs x = (k : ℕ) × (slice_get xs k ≡ Some x)

-- so the list contains it
pub contains-has : {X : Type 0} (xs : List X) (x : X) → Has xs x → Contains xs x
contains-has xs x at = (at.0, slice_get_within xs at.0 x at.1, get_or_from_slice_get xs at.0 x x at.1)

-- an element of which something holds
pub record Found {X : Type 0} (xs : List X) (P : X → Type 0) : Type 0 where
  pub it : X
  pub there : Has xs it
  pub is : P it

-- in a list with one more in front
found-behind : {X : Type 0} (y : X) (xs : List X) (P : X → Type 0) → Found xs P → Found (y ∷ xs) P
found-behind y xs P found = record { it = found.it; there = (suc found.there.0, found.there.1); is = found.is }

module _ {X : Type 0} (p : X → Bool) where
  -- where a test passes, one passes it
  any-first : (x : X) (xs : List X) (b : Bool) → p x ≡ b → (b || list_any p xs) ≡ true → (list_any p xs ≡ true → Found xs (λ y. p y ≡ true)) → Found (x ∷ xs) (λ y. p y ≡ true)
  any-first x xs true is any later = record { it = x; there = (0, refl); is = is }
  any-first x xs false is any later = found-behind x xs (λ y. p y ≡ true) (later any)

  pub any-found : (xs : List X) → list_any p xs ≡ true → Found xs (λ x. p x ≡ true)
  any-found [] e = absurd (true≢false (sym e))
  any-found (x ∷ xs) e = any-first x xs (p x) refl e (any-found xs)

  -- and where one passes, the test does
  pub any-has : (xs : List X) (x : X) (k : ℕ) → slice_get xs k ≡ Some x → p x ≡ true → list_any p xs ≡ true
  any-has [] x k s e = absurd (none-some x s)
  any-has (y ∷ xs) x zero s e = or_left (p y) (list_any p xs) (ap p (same_Some y x s) ∙ e)
  any-has (y ∷ xs) x (suc k) s e = or_right (p y) (list_any p xs) (any-has xs x k s e)

  -- what passes a filter is kept by it
  filter-skip : (b : Bool) (x y : X) (ys : List X) → Has ys x → Has (cond b (y ∷ ys) ys) x
  filter-skip true x y ys there = (suc there.0, there.1)
  filter-skip false x y ys there = there

  pub filter-has : (xs : List X) (x : X) (k : ℕ) → slice_get xs k ≡ Some x → p x ≡ true → Has (filter p xs) x
  filter-has [] x k s e = absurd (none-some x s)
  filter-has (y ∷ xs) x zero s e =
      let same : y ≡ x = same_Some y x s in
      subst (λ (b : Bool). Has (cond b (y ∷ filter p xs) (filter p xs)) x) (sym (ap p same ∙ e)) (0, ap Some same)
  filter-has (y ∷ xs) x (suc k) s e = filter-skip (p y) x y (filter p xs) (filter-has xs x k s e)

  -- and what is kept passed, and stood there
  filter-behind : (y : X) (xs : List X) (x : X) → Has xs x × (p x ≡ true) → Has (y ∷ xs) x × (p x ≡ true)
  filter-behind y xs x found = ((suc found.0.0, found.0.1), found.1)

  filter-first : (y : X) (xs : List X) (x : X) (b : Bool) → p y ≡ b → (k : ℕ) → slice_get (cond b (y ∷ filter p xs) (filter p xs)) k ≡ Some x
      → ((n : ℕ) → slice_get (filter p xs) n ≡ Some x → Has xs x × (p x ≡ true)) → Has (y ∷ xs) x × (p x ≡ true)
  filter-first y xs x true is zero s later = ((0, s), ap p (sym (same_Some y x s)) ∙ is)
  filter-first y xs x true is (suc k) s later = filter-behind y xs x (later k s)
  filter-first y xs x false is k s later = filter-behind y xs x (later k s)

  pub filter-found : (xs : List X) (x : X) (k : ℕ) → slice_get (filter p xs) k ≡ Some x → Has xs x × (p x ≡ true)
  filter-found [] x k s = absurd (none-some x s)
  filter-found (y ∷ xs) x k s = filter-first y xs x (p y) refl k s (filter-found xs x)

  -- a place of a list up to which a filter keeps some
  pub record KeptUpTo (t : List X) (past : List X) (x : X) : Type 0 where
    pub place : ℕ
    pub stands : slice_get t place ≡ Some x
    pub before : filter p (take place t) ≡ past

  kept-first : (z : X) (t past : List X) (x : X) (behind : List X) (b : Bool) → p z ≡ b → cond b (z ∷ filter p t) (filter p t) ≡ past ++ x ∷ behind
      → ((early : List X) → filter p t ≡ early ++ x ∷ behind → KeptUpTo t early x) → KeptUpTo (z ∷ t) past x
  kept-first z t past x behind false is s later =
      let at = later past s in
      record { place = suc at.place; stands = at.stands; before = cond-false (p z) (z ∷ filter p (take at.place t)) (filter p (take at.place t)) is ∙ at.before }
  kept-first z t [] x behind true is s later = record { place = 0; stands = ap (λ (l : List X). slice_get l 0) s; before = refl }
  kept-first z t (y ∷ past) x behind true is s later =
      let at = later past (ap (λ (l : List X). drop 1 l) s) in
      let same : z ≡ y = same_Some z y (ap (λ (l : List X). slice_get l 0) s) in
      record { place = suc at.place; stands = at.stands; before = cond-true (p z) (z ∷ filter p (take at.place t)) (filter p (take at.place t)) is ∙ ap (λ (l : List X). z ∷ l) at.before ∙ ap (λ (w : X). w ∷ past) same }

  -- what a filter keeps stands behind what it keeps before
  pub kept-at : (t past : List X) (x : X) (behind : List X) → filter p t ≡ past ++ x ∷ behind → KeptUpTo t past x
  kept-at [] [] x behind e = absurd (none-some x (ap (λ (l : List X). slice_get l 0) e))
  kept-at [] (y ∷ past) x behind e = absurd (none-some y (ap (λ (l : List X). slice_get l 0) e))
  kept-at (z ∷ t) past x behind e = kept-first z t past x behind (p z) refl e (λ early s. kept-at t early x behind s)

module _ {X Y : Type 0} (f : X → Option Y) where
  -- what a function gives of an element stands among all that it gives
  gives-skip : (o : Option Y) (ys : List Y) (y : Y) → Has ys y → Has (cons_option o ys) y
  gives-skip None ys y there = there
  gives-skip (Some z) ys y there = (suc there.0, there.1)

  pub gives-has : (xs : List X) (x : X) (y : Y) (k : ℕ) → slice_get xs k ≡ Some x → f x ≡ Some y → Has (filter_map f xs) y
  gives-has [] x y k s e = absurd (none-some x s)
  gives-has (z ∷ xs) x y zero s e = subst (λ (o : Option Y). Has (cons_option o (filter_map f xs)) y) (sym (ap f (same_Some z x s) ∙ e)) (0, refl)
  gives-has (z ∷ xs) x y (suc k) s e = gives-skip (f z) (filter_map f xs) y (gives-has xs x y k s e)

  -- and what stands there is given of one
  gives-first : (x : X) (xs : List X) (y : Y) (o : Option Y) → f x ≡ o → (k : ℕ) → slice_get (cons_option o (filter_map f xs)) k ≡ Some y
      → ((n : ℕ) → slice_get (filter_map f xs) n ≡ Some y → Found xs (λ w. f w ≡ Some y)) → Found (x ∷ xs) (λ w. f w ≡ Some y)
  gives-first x xs y None is k s later = found-behind x xs (λ w. f w ≡ Some y) (later k s)
  gives-first x xs y (Some z) is zero s later = record { it = x; there = (0, refl); is = is ∙ s }
  gives-first x xs y (Some z) is (suc k) s later = found-behind x xs (λ w. f w ≡ Some y) (later k s)

  pub gives-found : (xs : List X) (y : Y) (k : ℕ) → slice_get (filter_map f xs) k ≡ Some y → Found xs (λ x. f x ≡ Some y)
  gives-found [] y k s = absurd (none-some y s)
  gives-found (x ∷ xs) y k s = gives-first x xs y (f x) refl k s (gives-found xs y)

module _ {X Y : Type 0} (f : X → Y) where
  -- an element of a mapped list is one of its list
  pub map-found : (xs : List X) (y : Y) (k : ℕ) → slice_get (map f xs) k ≡ Some y → Found xs (λ x. f x ≡ y)
  map-found [] y k s = absurd (none-some y s)
  map-found (x ∷ xs) y zero s = record { it = x; there = (0, refl); is = same_Some (f x) y s }
  map-found (x ∷ xs) y (suc k) s = found-behind x xs (λ w. f w ≡ y) (map-found xs y k s)

  pub map-has : (xs : List X) (x : X) (k : ℕ) → slice_get xs k ≡ Some x → slice_get (map f xs) k ≡ Some (f x)
  map-has [] x k s = absurd (none-some x s)
  map-has (y ∷ xs) x zero s = ap (λ (z : X). Some (f z)) (same_Some y x s)
  map-has (y ∷ xs) x (suc k) s = map-has xs x k s
