-- What a put and a removal keep of entries, and that the test of their order decides it.
use Rattle.std.proofs.Common.{◌≡◌, ℕ, true, List, [], ◌∷◌, None, Some, refl, ap, subst, ◌∙◌}
use Rattle.std.proofs.lemmas.Bool.{and_parts}
use Rattle.std.proofs.lemmas.Option.{none-some, same_Some}
use Rattle.std.specs.List.{AllByRecursion}
use Rattle.std.specs.Ordering.{match_ordering, ordering_reverse, is_lt}
use Rattle.std.specs.Cmp.Lexicographic.{nat_list_cmp_total}
use Rattle.std.specs.declared.cmp.Ordering.{Ordering}
use Rattle.std.specs.declared.cmp.Ordering.TheVariants.{Less, Equal, Greater}
use Rattle.keyed_state.specs.declared.entries.KeyedEntry.{KeyedEntry}
use Rattle.keyed_state.specs.Entries.{key_cmp, entry_of, value_of, put, without, Rises, comes_before, rises}

-- where a key is above another, the other is below it
pub flipped : (k l : List ℕ) → key_cmp k l ≡ Greater → key_cmp l k ≡ Less
flipped k l e = nat_list_cmp_total.antisymm l k ∙ ap ordering_reverse e

module _ {V : Type 0} where
  -- ---- what holds of each entry

  pub all-put : (P : KeyedEntry V → Type 0) (k : List ℕ) (v : V) (xs : List (KeyedEntry V)) → AllByRecursion P xs → P (entry_of k v) → ((x : KeyedEntry V) → P x → P (entry_of x.key v)) → AllByRecursion P (put k v xs)
  all-put P k v [] all one other = (one, tt)
  all-put P k v (x ∷ xs) all one other = by (key_cmp k x.key) (all-put P k v xs all.1 one other) where
    by : (o : Ordering) → AllByRecursion P (put k v xs) → AllByRecursion P (match_ordering o (entry_of k v ∷ x ∷ xs) (entry_of x.key v ∷ xs) (x ∷ put k v xs))
    by Less rest = (one, all)
    by Equal rest = (other x all.0, all.1)
    by Greater rest = (all.0, rest)

  pub all-without : (P : KeyedEntry V → Type 0) (k : List ℕ) (xs : List (KeyedEntry V)) → AllByRecursion P xs → AllByRecursion P (without k xs)
  all-without P k [] all = tt
  all-without P k (x ∷ xs) all = by (key_cmp k x.key) (all-without P k xs all.1) where
    by : (o : Ordering) → AllByRecursion P (without k xs) → AllByRecursion P (match_ordering o (x ∷ xs) xs (x ∷ without k xs))
    by Less rest = all
    by Equal rest = all.1
    by Greater rest = (all.0, rest)

  -- what holds of each entry's value holds of a key's
  pub holds-of : (P : KeyedEntry V → Type 0) (Q : V → Type 0) → ((x : KeyedEntry V) → P x → Q x.value) → (k : List ℕ) (xs : List (KeyedEntry V)) (v : V) → AllByRecursion P xs → value_of k xs ≡ Some v → Q v
  holds-of P Q f k [] v all at = absurd (none-some v at)
  holds-of P Q f k (x ∷ xs) v all at = by (key_cmp k x.key) (holds-of P Q f k xs v all.1) at where
    by : (o : Ordering) → (value_of k xs ≡ Some v → Q v) → match_ordering o None (Some x.value) (value_of k xs) ≡ Some v → Q v
    by Less rest at = absurd (none-some v at)
    by Equal rest at = subst Q (same_Some x.value v at) (f x all.0)
    by Greater rest at = rest at

  -- ---- the order

  -- a key is below each of some entries
  abbrev pub IsBelowAll : List ℕ → List (KeyedEntry V) → Type 0
  IsBelowAll k xs = AllByRecursion (λ y. key_cmp k y.key ≡ Less) xs

  pub below-all : (k l : List ℕ) (xs : List (KeyedEntry V)) → key_cmp k l ≡ Less → IsBelowAll l xs → IsBelowAll k xs
  below-all k l [] e all = tt
  below-all k l (x ∷ xs) e all = (nat_list_cmp_total.trans k l x.key e all.0, below-all k l xs e all.1)

  pub equal-all : (k l : List ℕ) (xs : List (KeyedEntry V)) → key_cmp k l ≡ Equal → IsBelowAll l xs → IsBelowAll k xs
  equal-all k l [] e all = tt
  equal-all k l (x ∷ xs) e all = (nat_list_cmp_total.congr k l x.key e ∙ all.0, equal-all k l xs e all.1)

  pub rises-put : (k : List ℕ) (v : V) (xs : List (KeyedEntry V)) → Rises xs → Rises (put k v xs)
  rises-put k v [] up = (tt, tt)
  rises-put k v (x ∷ xs) up = by (key_cmp k x.key) refl (rises-put k v xs up.1) where
    by : (o : Ordering) → key_cmp k x.key ≡ o → Rises (put k v xs) → Rises (match_ordering o (entry_of k v ∷ x ∷ xs) (entry_of x.key v ∷ xs) (x ∷ put k v xs))
    by Less is rest = ((is, below-all k x.key xs is up.0), up)
    by Equal is rest = (up.0, up.1)
    by Greater is rest = (all-put (λ y. key_cmp x.key y.key ≡ Less) k v xs up.0 (flipped k x.key is) (λ y below. below), rest)

  pub rises-without : (k : List ℕ) (xs : List (KeyedEntry V)) → Rises xs → Rises (without k xs)
  rises-without k [] up = tt
  rises-without k (x ∷ xs) up = by (key_cmp k x.key) (rises-without k xs up.1) where
    by : (o : Ordering) → Rises (without k xs) → Rises (match_ordering o (x ∷ xs) xs (x ∷ without k xs))
    by Less rest = up
    by Equal rest = up.1
    by Greater rest = (all-without (λ y. key_cmp x.key y.key ≡ Less) k xs up.0, rest)

  -- ---- the order, tested

  -- a key below the first of entries that rise is below them all
  one-below : (x : KeyedEntry V) (xs : List (KeyedEntry V)) → comes_before x xs ≡ true → Rises xs → AllByRecursion (λ y. key_cmp x.key y.key ≡ Less) xs
  one-below x [] e up = tt
  one-below x (y ∷ ys) e up =
      let first = is-less (key_cmp x.key y.key) e in
      (first, below-all x.key y.key ys first up.0)
    where
      is-less : (o : Ordering) → is_lt o ≡ true → o ≡ Less
      is-less Less e = refl
      is-less Equal e = absurd cc
      is-less Greater e = absurd cc

  -- keys that the test finds to rise rise
  pub rises-found : (s : List (KeyedEntry V)) → rises s ≡ true → Rises s
  rises-found [] e = tt
  rises-found (x ∷ xs) e =
      let both = and_parts (comes_before x xs) (rises xs) e in
      let up = rises-found xs both.1 in
      (one-below x xs both.0 up, up)

  -- and the test finds it of keys that rise
  pub rises-tested : (s : List (KeyedEntry V)) → Rises s → rises s ≡ true
  rises-tested [] up = refl
  rises-tested (x ∷ xs) up = rw (first x xs up.0, rises-tested xs up.1) refl where
    first : (x : KeyedEntry V) (xs : List (KeyedEntry V)) → AllByRecursion (λ y. key_cmp x.key y.key ≡ Less) xs → comes_before x xs ≡ true
    first x [] all = refl
    first x (y ∷ ys) all = rw all.0 refl
