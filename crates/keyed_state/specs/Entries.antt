-- Entries in the order of their keys: what is put, taken out and looked up.
use Rattle.std.specs.Prelude.{◌≡◌, ℕ, ◌<◌, ◌≤◌, Bool, true, ◌&&◌, List, [], ◌∷◌, length, Option, Some, None}
use Rattle.std.specs.List.{AllByRecursion, slice_set, insert, remove, slice_get}
use Rattle.std.specs.Ordering.{nat_cmp, match_ordering, is_lt}
use Rattle.std.specs.Cmp.Lexicographic.{slice_cmp}
use Rattle.std.specs.declared.cmp.Ordering.{Ordering}
use Rattle.std.specs.declared.cmp.Ordering.TheVariants.{Less}
use Rattle.keyed_state.specs.declared.entries.KeyedEntry.{KeyedEntry}
use Rattle.keyed_state.specs.declared.entries.Place.{Place}
use Rattle.keyed_state.specs.declared.entries.Place.TheVariants.{Held, Free}

-- the order of keys: by their first bytes that differ; a beginning of a key is below it
abbrev pub key_cmp : List ℕ → List ℕ → Ordering
key_cmp k l = slice_cmp nat_cmp k l

abbrev pub entry_of : {V : Type 0} → List ℕ → V → KeyedEntry V
entry_of k v = record { key = k; value = v }

-- the value that a key has
abbrev pub value_of : {V : Type 0} → List ℕ → List (KeyedEntry V) → Option V
value_of k [] = None
value_of k (x ∷ xs) = match_ordering (key_cmp k x.key) None (Some x.value) (value_of k xs)

-- with a value for a key, in place of the one that it had
abbrev pub put : {V : Type 0} → List ℕ → V → List (KeyedEntry V) → List (KeyedEntry V)
put k v [] = entry_of k v ∷ []
put k v (x ∷ xs) = match_ordering (key_cmp k x.key) (entry_of k v ∷ x ∷ xs) (entry_of x.key v ∷ xs) (x ∷ put k v xs)

-- without a value for a key
abbrev pub without : {V : Type 0} → List ℕ → List (KeyedEntry V) → List (KeyedEntry V)
without k [] = []
without k (x ∷ xs) = match_ordering (key_cmp k x.key) (x ∷ xs) xs (x ∷ without k xs)

-- each key is below those after it
abbrev pub Rises : {V : Type 0} → List (KeyedEntry V) → Type 0
Rises [] = Unit {0}
Rises (x ∷ xs) = AllByRecursion (λ y. key_cmp x.key y.key ≡ Less) xs × Rises xs

-- whether an entry's key is below that of the first of others
abbrev pub comes_before : {V : Type 0} → KeyedEntry V → List (KeyedEntry V) → Bool
comes_before x [] = true
comes_before x (y ∷ ys) = is_lt (key_cmp x.key y.key)

-- whether each key is below the next one
abbrev pub rises : {V : Type 0} → List (KeyedEntry V) → Bool
rises [] = true
rises (x ∷ xs) = comes_before x xs && rises xs

-- ---- where a key stands, or would

pub record IsHeldAt {V : Type 0} (k : List ℕ) (s : List (KeyedEntry V)) (i : ℕ) : Type 0 where
  pub within : i < length s
  pub value : (e : KeyedEntry V) → slice_get s i ≡ Some e → value_of k s ≡ Some e.value
  pub puts : (e : KeyedEntry V) (v : V) → slice_get s i ≡ Some e → put k v s ≡ slice_set s i (entry_of e.key v)
  pub takes : without k s ≡ remove s i

pub record IsFreeAt {V : Type 0} (k : List ℕ) (s : List (KeyedEntry V)) (i : ℕ) : Type 0 where
  pub within : i ≤ length s
  pub value : value_of k s ≡ None
  pub puts : (v : V) → put k v s ≡ insert s i (entry_of k v)
  pub takes : without k s ≡ s

abbrev pub IsPlace : {V : Type 0} → List ℕ → List (KeyedEntry V) → Place → Type 0
IsPlace k s (Held i) = IsHeldAt k s i
IsPlace k s (Free i) = IsFreeAt k s i
