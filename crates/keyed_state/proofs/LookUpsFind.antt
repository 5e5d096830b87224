-- What a look-up finds after a put and after a removal, and that look-ups tell entries apart.
use Rattle.std.proofs.Common.{◌≡◌, ℕ, Bool, true, false, cond, List, [], ◌∷◌, Option, Some, None, refl, sym, ap, ◌∙◌}
use Rattle.std.proofs.lemmas.Cmp.{alike_right, tied_itself}
use Rattle.std.proofs.lemmas.Map.Text.{is_eq-slice_cmp}
use Rattle.std.proofs.lemmas.Slice.Eq.{bytes_eq-Decides}
use Rattle.std.proofs.lemmas.Option.{none-some, same_Some}
use Rattle.std.specs.Ordering.{match_ordering, is_eq}
use Rattle.std.specs.Cmp.Lexicographic.{nat_list_cmp_total}
use Rattle.std.specs.declared.cmp.Ordering.{Ordering}
use Rattle.std.specs.declared.cmp.Ordering.TheVariants.{Less, Equal, Greater}
use Rattle.keyed_state.specs.declared.entries.KeyedEntry.{KeyedEntry}
use Rattle.keyed_state.specs.Entries.{key_cmp, entry_of, value_of, put, without, Rises}
use Rattle.keyed_state.specs.EntryLaws.{IsBelowAll, below-all, equal-all, flipped}

pub same-key-is : (k : List ℕ) → is_eq (key_cmp k k) ≡ true
same-key-is k = is_eq-slice_cmp k k ∙ (bytes_eq-Decides k k).1 refl

pub equal-is-same : (k l : List ℕ) → is_eq (key_cmp k l) ≡ true → k ≡ l
equal-is-same k l e = (bytes_eq-Decides k l).0 (sym (is_eq-slice_cmp k l) ∙ e)

module _ {V : Type 0} where
  -- what the first entry and those behind it say of a key
  abbrev here : KeyedEntry V → Ordering → Option V → Option V
  here x o rest = match_ordering o None (Some x.value) rest

  pub found-put : (k : List ℕ) (v : V) (s : List (KeyedEntry V)) (q : List ℕ) → value_of q (put k v s) ≡ cond (is_eq (key_cmp q k)) (Some v) (value_of q s)
  found-put k v [] q = by (key_cmp q k) where
    by : (o : Ordering) → match_ordering o None (Some v) None ≡ cond (is_eq o) (Some v) None
    by Less = refl
    by Equal = refl
    by Greater = refl
  found-put k v (x ∷ xs) q = at (key_cmp k x.key) refl (found-put k v xs q) where
    first : (o : Ordering) → key_cmp q k ≡ o → key_cmp k x.key ≡ Less
        → match_ordering o None (Some v) (here x (key_cmp q x.key) (value_of q xs)) ≡ cond (is_eq o) (Some v) (here x (key_cmp q x.key) (value_of q xs))
    first Less is less = sym (ap (λ (o : Ordering). here x o (value_of q xs)) (nat_list_cmp_total.trans q k x.key is less))
    first Equal is less = refl
    first Greater is less = refl

    same : (o : Ordering) → match_ordering o None (Some v) (value_of q xs) ≡ cond (is_eq o) (Some v) (here x o (value_of q xs))
    same Less = refl
    same Equal = refl
    same Greater = refl

    later : (o : Ordering) → key_cmp q x.key ≡ o → key_cmp x.key k ≡ Less → (rest : Option V) → rest ≡ cond (is_eq (key_cmp q k)) (Some v) (value_of q xs)
        → here x o rest ≡ cond (is_eq (key_cmp q k)) (Some v) (here x o (value_of q xs))
    later Less is below rest r = sym (ap (λ (o : Ordering). cond (is_eq o) (Some v) None) (nat_list_cmp_total.trans q x.key k is below))
    later Equal is below rest r = sym (ap (λ (o : Ordering). cond (is_eq o) (Some v) (Some x.value)) (nat_list_cmp_total.congr q x.key k is ∙ below))
    later Greater is below rest r = r

    at : (o : Ordering) → key_cmp k x.key ≡ o → value_of q (put k v xs) ≡ cond (is_eq (key_cmp q k)) (Some v) (value_of q xs)
        → value_of q (match_ordering o (entry_of k v ∷ x ∷ xs) (entry_of x.key v ∷ xs) (x ∷ put k v xs)) ≡ cond (is_eq (key_cmp q k)) (Some v) (value_of q (x ∷ xs))
    at Less is r = first (key_cmp q k) refl is
    at Equal is r =
        same (key_cmp q x.key) ∙ ap (λ (o : Ordering). cond (is_eq o) (Some v) (here x (key_cmp q x.key) (value_of q xs))) (sym (alike_right nat_list_cmp_total k x.key q is))
    at Greater is r = later (key_cmp q x.key) refl (flipped k x.key is) (value_of q (put k v xs)) r

  pub found-there : (k : List ℕ) (v : V) (s : List (KeyedEntry V)) → value_of k (put k v s) ≡ Some v
  found-there k v s = found-put k v s k ∙ ap (λ (b : Bool). cond b (Some v) (value_of k s)) (same-key-is k)

  -- a key below all has no value
  pub none-below : (q : List ℕ) (xs : List (KeyedEntry V)) → IsBelowAll q xs → value_of q xs ≡ None
  none-below q [] all = refl
  none-below q (x ∷ xs) all = ap (λ (o : Ordering). match_ordering o None (Some x.value) (value_of q xs)) all.0

  pub found-without : (k : List ℕ) (s : List (KeyedEntry V)) (q : List ℕ) → Rises s → value_of q (without k s) ≡ cond (is_eq (key_cmp q k)) None (value_of q s)
  found-without k [] q up = by (is_eq (key_cmp q k)) where
    by : (b : Bool) → None ≡ cond {A = Option V} b None None
    by true = refl
    by false = refl
  found-without k (x ∷ xs) q up = at (key_cmp k x.key) refl (found-without k xs q up.1) where
    first : (o : Ordering) → key_cmp q k ≡ o → key_cmp k x.key ≡ Less → value_of q (x ∷ xs) ≡ cond (is_eq o) None (value_of q (x ∷ xs))
    first Less is less = refl
    first Equal is less = ap (λ (o : Ordering). here x o (value_of q xs)) (nat_list_cmp_total.congr q k x.key is ∙ less)
    first Greater is less = refl

    taken : (o : Ordering) → key_cmp q x.key ≡ o → value_of q xs ≡ cond (is_eq o) None (here x o (value_of q xs))
    taken Less is = none-below q xs (below-all q x.key xs is up.0)
    taken Equal is = none-below q xs (equal-all q x.key xs is up.0)
    taken Greater is = refl

    later : (o : Ordering) → key_cmp q x.key ≡ o → key_cmp x.key k ≡ Less → (rest : Option V) → rest ≡ cond (is_eq (key_cmp q k)) None (value_of q xs)
        → here x o rest ≡ cond (is_eq (key_cmp q k)) None (here x o (value_of q xs))
    later Less is below rest r = sym (ap (λ (o : Ordering). cond {A = Option V} (is_eq o) None None) (nat_list_cmp_total.trans q x.key k is below))
    later Equal is below rest r = sym (ap (λ (o : Ordering). cond (is_eq o) None (Some x.value)) (nat_list_cmp_total.congr q x.key k is ∙ below))
    later Greater is below rest r = r

    at : (o : Ordering) → key_cmp k x.key ≡ o → value_of q (without k xs) ≡ cond (is_eq (key_cmp q k)) None (value_of q xs)
        → value_of q (match_ordering o (x ∷ xs) xs (x ∷ without k xs)) ≡ cond (is_eq (key_cmp q k)) None (value_of q (x ∷ xs))
    at Less is r = first (key_cmp q k) refl is
    at Equal is r =
        taken (key_cmp q x.key) refl ∙ ap (λ (o : Ordering). cond (is_eq o) None (value_of q (x ∷ xs))) (sym (alike_right nat_list_cmp_total k x.key q is))
    at Greater is r = later (key_cmp q x.key) refl (flipped k x.key is) (value_of q (without k xs)) r

  -- ---- entries in which each key has the same value are the same

  found-first : (x : KeyedEntry V) (xs : List (KeyedEntry V)) → value_of x.key (x ∷ xs) ≡ Some x.value
  found-first x xs = ap (λ (o : Ordering). here x o (value_of x.key xs)) (tied_itself nat_list_cmp_total x.key)

  -- a key is found among entries whose first has it or one above it only where it is the first's
  above-first : (x : KeyedEntry V) (xs : List (KeyedEntry V)) (q : List ℕ) (v : V) → value_of q (x ∷ xs) ≡ Some v → (key_cmp q x.key ≡ Less → ⊥)
  above-first x xs q v found less = absurd (none-some v (sym (ap (λ (o : Ordering). here x o (value_of q xs)) less) ∙ found))

  same-key : (x y : KeyedEntry V) (xs ys : List (KeyedEntry V)) → ((q : List ℕ) → value_of q (x ∷ xs) ≡ value_of q (y ∷ ys)) → x.key ≡ y.key
  same-key x y xs ys same = by (key_cmp x.key y.key) refl where
    by : (o : Ordering) → key_cmp x.key y.key ≡ o → x.key ≡ y.key
    by Less is = absurd (above-first y ys x.key x.value (sym (same x.key) ∙ found-first x xs) is)
    by Equal is = equal-is-same x.key y.key (ap is_eq is)
    by Greater is = absurd (above-first x xs y.key y.value (same y.key ∙ found-first y ys) (flipped x.key y.key is))

  -- behind the first, look-ups agree where those with it do
  later-alike : (x y : KeyedEntry V) (xs ys : List (KeyedEntry V)) → x.key ≡ y.key → IsBelowAll x.key xs → IsBelowAll y.key ys → ((q : List ℕ) → value_of q (x ∷ xs) ≡ value_of q (y ∷ ys)) → (q : List ℕ) → value_of q xs ≡ value_of q ys
  later-alike x y xs ys k below under same q = by (key_cmp q x.key) refl where
    turned : (o : Ordering) → key_cmp q x.key ≡ o → key_cmp q y.key ≡ o
    turned o is = ap (key_cmp q) (sym k) ∙ is

    by : (o : Ordering) → key_cmp q x.key ≡ o → value_of q xs ≡ value_of q ys
    by Less is = none-below q xs (below-all q x.key xs is below) ∙ sym (none-below q ys (below-all q y.key ys (turned Less is) under))
    by Equal is = none-below q xs (equal-all q x.key xs is below) ∙ sym (none-below q ys (equal-all q y.key ys (turned Equal is) under))
    by Greater is =
        sym (ap (λ (o : Ordering). here x o (value_of q xs)) is) ∙ same q ∙ ap (λ (o : Ordering). here y o (value_of q ys)) (turned Greater is)

  same-entry : (x y : KeyedEntry V) → x.key ≡ y.key → x.value ≡ y.value → x ≡ y
  same-entry x y k v = ap (λ (l : List ℕ). entry_of l x.value) k ∙ ap (λ (w : V). entry_of y.key w) v

  pub alike : (s u : List (KeyedEntry V)) → Rises s → Rises u → ((q : List ℕ) → value_of q s ≡ value_of q u) → s ≡ u
  alike [] [] up on same = refl
  alike [] (y ∷ ys) up on same = absurd (none-some y.value (same y.key ∙ found-first y ys))
  alike (x ∷ xs) [] up on same = absurd (none-some x.value (sym (same x.key) ∙ found-first x xs))
  alike (x ∷ xs) (y ∷ ys) up on same =
      let k = same-key x y xs ys same in
      let v : x.value ≡ y.value = same_Some x.value y.value (sym (found-first x xs) ∙ same x.key ∙ ap (λ (q : List ℕ). value_of q (y ∷ ys)) k ∙ found-first y ys) in
      ap (λ (e : KeyedEntry V). e ∷ xs) (same-entry x y k v) ∙ ap (λ (l : List (KeyedEntry V)). y ∷ l) (alike xs ys up.1 on.1 (later-alike x y xs ys k up.0 on.0 same))
