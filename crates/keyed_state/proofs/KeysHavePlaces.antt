-- Where a key stands among entries, found from the front.
use Rattle.std.proofs.Common.{◌≡◌, ℕ, zero, suc, ◌≤◌, true, List, [], ◌∷◌, length, take, set, Some, None, refl, sym, ap, ◌∙◌, ◌⊎◌, ⊎_elim, arith}
use Rattle.std.specs.List.{AllByRecursion, slice_get, insert, remove}
use Rattle.std.specs.Ordering.{ordering_reverse}
use Rattle.std.specs.Cmp.Lexicographic.{nat_list_cmp_total}
use Rattle.std.proofs.lemmas.Cmp.{alike_right}
use Rattle.std.proofs.lemmas.Option.{none-some, same_Some, slice_get_within}
use Rattle.std.specs.declared.cmp.Ordering.{Ordering}
use Rattle.std.specs.declared.cmp.Ordering.TheVariants.{Less, Equal, Greater}
use Rattle.keyed_state.specs.declared.entries.KeyedEntry.{KeyedEntry}
use Rattle.keyed_state.specs.Entries.{key_cmp, entry_of, value_of, put, without, Rises, rises, IsHeldAt, IsFreeAt}

module _ {V : Type 0} where
  -- a key stands to an entry as it does to the same entry
  pub same-order : (k : List ℕ) (e f : KeyedEntry V) (o : Ordering) → e ≡ f → key_cmp k f.key ≡ o → key_cmp k e.key ≡ o
  same-order k e f o same is = ap (λ (y : KeyedEntry V). key_cmp k y.key) same ∙ is

  -- a key is above each of some entries
  abbrev pub AllBelow : List ℕ → List (KeyedEntry V) → Type 0
  AllBelow k xs = AllByRecursion (λ e. key_cmp k e.key ≡ Greater) xs

  -- an entry of keys that rise is above all before it, so a key that is at it or above it is
  pub below-before : (k : List ℕ) (xs : List (KeyedEntry V)) (i : ℕ) (e : KeyedEntry V) → Rises xs → slice_get xs i ≡ Some e → key_cmp e.key k ≡ Less ⊎ (key_cmp e.key k ≡ Equal) → AllBelow k (take i xs)
  below-before k [] zero e up s a = tt
  below-before k [] (suc i) e up s a = absurd (none-some e s)
  below-before k (x ∷ xs) zero e up s a = tt
  below-before k (x ∷ xs) (suc i) e up s a = (turned x.key k (before xs i up.0 s), below-before k xs i e up.1 s a) where
    turned : (l q : List ℕ) → key_cmp l q ≡ Less → key_cmp q l ≡ Greater
    turned l q less = nat_list_cmp_total.antisymm q l ∙ ap ordering_reverse less

    through : key_cmp x.key e.key ≡ Less → key_cmp x.key k ≡ Less
    through first = ⊎_elim (λ less. nat_list_cmp_total.trans x.key e.key k first less) (λ same. sym (alike_right nat_list_cmp_total e.key k x.key same) ∙ first) a

    before : (ys : List (KeyedEntry V)) (j : ℕ) → AllByRecursion (λ y. key_cmp x.key y.key ≡ Less) ys → slice_get ys j ≡ Some e → key_cmp x.key k ≡ Less
    before [] zero all t = absurd (none-some e t)
    before [] (suc j) all t = absurd (none-some e t)
    before (y ∷ ys) zero all t = through (ap (λ (z : KeyedEntry V). key_cmp x.key z.key) (sym (same_Some y e t)) ∙ all.0)
    before (y ∷ ys) (suc j) all t = before ys j all.1 t

  pub below-more : (k : List ℕ) (xs : List (KeyedEntry V)) (i : ℕ) (e : KeyedEntry V) → slice_get xs i ≡ Some e → AllBelow k (take i xs) → key_cmp k e.key ≡ Greater → AllBelow k (take (suc i) xs)
  below-more k [] zero e s a g = absurd (none-some e s)
  below-more k [] (suc i) e s a g = absurd (none-some e s)
  below-more k (x ∷ xs) zero e s a g = (ap (λ (y : KeyedEntry V). key_cmp k y.key) (same_Some x e s) ∙ g, tt)
  below-more k (x ∷ xs) (suc i) e s a g = (a.0, below-more k xs i e s a.1 g)

  held-value : (k : List ℕ) (xs : List (KeyedEntry V)) (i : ℕ) (e : KeyedEntry V) → slice_get xs i ≡ Some e → AllBelow k (take i xs) → key_cmp k e.key ≡ Equal → value_of k xs ≡ Some e.value
  held-value k [] zero e s a g = absurd (none-some e s)
  held-value k [] (suc i) e s a g = absurd (none-some e s)
  held-value k (x ∷ xs) zero e s a g =
      let same : x ≡ e = same_Some x e s in
      let here : key_cmp k x.key ≡ Equal = ap (λ (y : KeyedEntry V). key_cmp k y.key) same ∙ g in
      rw here (ap (λ (y : KeyedEntry V). Some y.value) same)
  held-value k (x ∷ xs) (suc i) e s a g = rw a.0 (held-value k xs i e s a.1 g)

  held-puts : (k : List ℕ) (xs : List (KeyedEntry V)) (i : ℕ) (e : KeyedEntry V) → slice_get xs i ≡ Some e → AllBelow k (take i xs) → key_cmp k e.key ≡ Equal → (v : V) → put k v xs ≡ set xs i (entry_of e.key v)
  held-puts k [] zero e s a g v = absurd (none-some e s)
  held-puts k [] (suc i) e s a g v = absurd (none-some e s)
  held-puts k (x ∷ xs) zero e s a g v =
      let same : x ≡ e = same_Some x e s in
      let here : key_cmp k x.key ≡ Equal = ap (λ (y : KeyedEntry V). key_cmp k y.key) same ∙ g in
      rw here (ap (λ (y : KeyedEntry V). entry_of y.key v ∷ xs) same)
  held-puts k (x ∷ xs) (suc i) e s a g v = rw a.0 (ap (λ (l : List (KeyedEntry V)). x ∷ l) (held-puts k xs i e s a.1 g v))

  held-takes : (k : List ℕ) (xs : List (KeyedEntry V)) (i : ℕ) (e : KeyedEntry V) → slice_get xs i ≡ Some e → AllBelow k (take i xs) → key_cmp k e.key ≡ Equal → without k xs ≡ remove xs i
  held-takes k [] zero e s a g = absurd (none-some e s)
  held-takes k [] (suc i) e s a g = absurd (none-some e s)
  held-takes k (x ∷ xs) zero e s a g =
      let here : key_cmp k x.key ≡ Equal = ap (λ (y : KeyedEntry V). key_cmp k y.key) (same_Some x e s) ∙ g in
      rw here refl
  held-takes k (x ∷ xs) (suc i) e s a g = rw a.0 (ap (λ (l : List (KeyedEntry V)). x ∷ l) (held-takes k xs i e s a.1 g))

  -- an entry of the key stands there
  pub held-at : (k : List ℕ) (xs : List (KeyedEntry V)) (i : ℕ) (e : KeyedEntry V) → slice_get xs i ≡ Some e → AllBelow k (take i xs) → key_cmp k e.key ≡ Equal → IsHeldAt k xs i
  held-at k xs i e s a g =
      let same = λ (f : KeyedEntry V) (t : slice_get xs i ≡ Some f). ap (λ (y : KeyedEntry V). key_cmp k y.key) (same_Some f e (sym t ∙ s)) ∙ g in
      record {
        within = slice_get_within xs i e s;
        value = λ f t. held-value k xs i f t a (same f t);
        puts = λ f v t. held-puts k xs i f t a (same f t) v;
        takes = held-takes k xs i e s a g;
      }

  -- what stands at a place, if anything does, is above the key
  abbrev pub StopsAt : List ℕ → List (KeyedEntry V) → ℕ → Type 0
  StopsAt k xs i = (e : KeyedEntry V) → slice_get xs i ≡ Some e → key_cmp k e.key ≡ Less

  free-value : (k : List ℕ) (xs : List (KeyedEntry V)) (i : ℕ) → i ≤ length xs → AllBelow k (take i xs) → StopsAt k xs i → value_of k xs ≡ None
  free-value k [] i le a s = refl
  free-value k (x ∷ xs) zero le a s = rw (s x refl) refl
  free-value k (x ∷ xs) (suc i) le a s = rw a.0 (free-value k xs i (omega (arith, le)) a.1 s)

  free-puts : (k : List ℕ) (xs : List (KeyedEntry V)) (i : ℕ) → i ≤ length xs → AllBelow k (take i xs) → StopsAt k xs i → (v : V) → put k v xs ≡ insert xs i (entry_of k v)
  free-puts k [] zero le a s v = refl
  free-puts k [] (suc i) le a s v = absurd (omega (arith, le))
  free-puts k (x ∷ xs) zero le a s v = rw (s x refl) refl
  free-puts k (x ∷ xs) (suc i) le a s v = rw a.0 (ap (λ (l : List (KeyedEntry V)). x ∷ l) (free-puts k xs i (omega (arith, le)) a.1 s v))

  free-takes : (k : List ℕ) (xs : List (KeyedEntry V)) (i : ℕ) → i ≤ length xs → AllBelow k (take i xs) → StopsAt k xs i → without k xs ≡ xs
  free-takes k [] i le a s = refl
  free-takes k (x ∷ xs) zero le a s = rw (s x refl) refl
  free-takes k (x ∷ xs) (suc i) le a s = rw a.0 (ap (λ (l : List (KeyedEntry V)). x ∷ l) (free-takes k xs i (omega (arith, le)) a.1 s))

  -- no entry of the key stands there, nor elsewhere
  pub free-at : (k : List ℕ) (xs : List (KeyedEntry V)) (i : ℕ) → i ≤ length xs → AllBelow k (take i xs) → StopsAt k xs i → IsFreeAt k xs i
  free-at k xs i le a s = record { within = le; value = free-value k xs i le a s; puts = free-puts k xs i le a s; takes = free-takes k xs i le a s }

  -- one entry, or none, rises
  pub rises-short : (xs : List (KeyedEntry V)) → length xs ≤ 1 → rises xs ≡ true
  rises-short [] le = refl
  rises-short (x ∷ []) le = refl
  rises-short (x ∷ y ∷ xs) le = absurd (omega (arith, le))
