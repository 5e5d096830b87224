-- What a put and a removal make of a map and of the number of bytes that it is encoded in.
use Rattle.std.proofs.Common.{◌≡◌, ℕ, ◌+◌, ◌-◌, ◌≤◌, Bool, true, false, List, [], ◌∷◌, ◌&&◌, length, get_or, cond, leb, None, Some, refl, sym, ap, subst, ◌∙◌, arith}
use Rattle.std.specs.List.{slice_get, remove, sum_by}
use Rattle.std.specs.Ordering.{match_ordering, is_eq}
use Rattle.std.specs.declared.cmp.Ordering.{Ordering}
use Rattle.std.specs.declared.cmp.Ordering.TheVariants.{Less, Equal, Greater}
use Rattle.std.proofs.lemmas.Option.{get_or_from_slice_get, none-some, same_Some}
use Rattle.std.proofs.lemmas.Bool.{leb-true, and_parts}
use Rattle.std.proofs.lemmas.List.Sums.{sum_by-cons, sum_by-remove}
use Rattle.keyed_state.proofs.LookUpsFind.{equal-is-same}
use Rattle.address.specs.Ids.{ViewId}
use Rattle.address.specs.declared.limits.TheConstants.{STATE, GREATEST_NUMBER}
use Rattle.keyed_state.specs.declared.entries.KeyedEntry.{KeyedEntry}
use Rattle.keyed_state.specs.Keys.{IsKey}
use Rattle.keyed_state.specs.Entries.{key_cmp, value_of, put, without, IsHeldAt}
use Rattle.keyed_state.specs.declared.token.Token.{Token}
use Rattle.keyed_state.specs.Tokens.{next_token, IsViewId}
use Rattle.replicated_map.specs.declared.entries.Held.{Held}
use Rattle.keyed_state.specs.States.{entry_size as size_in}
use Rattle.keyed_state.specs.StateLaws.{size-new, size-put}
use Rattle.replicated_map.specs.Values.{held_form}
use Rattle.replicated_map.specs.Entries.{MapState, state_of, held, map_size, IsValue, IsMap, given, is_within, put_within}
use Rattle.replicated_map.specs.MapLaws.{given_is_map, removed_is_map}

abbrev entry_size : KeyedEntry Held → ℕ
entry_size e = size_in held_form e

abbrev pub Entries : Type 0
Entries = List (KeyedEntry Held)

-- a map, and in how many bytes it is encoded
abbrev pub IsCountedMap : MapState → ℕ → Type 0
IsCountedMap s n = IsMap s × (n ≡ map_size s.entries)

-- ---- limits

pub put-goes : (view : ViewId) (k v : List ℕ) (s : MapState) → is_within (given view k v s) ≡ true → put_within view k v s ≡ given view k v s
put-goes view k v s e = ap (λ (b : Bool). cond b (given view k v s) s) e

pub put-stays : (view : ViewId) (k v : List ℕ) (s : MapState) → is_within (given view k v s) ≡ false → put_within view k v s ≡ s
put-stays view k v s e = ap (λ (b : Bool). cond b (given view k v s) s) e

-- ---- sizes

size-without : (k : List ℕ) (old : Held) (s : Entries) → value_of k s ≡ Some old → sum_by entry_size (without k s) + 25 + length k + length old.value ≡ sum_by entry_size s
size-without k old [] at = absurd (none-some old at)
size-without k old (x ∷ xs) at = by (key_cmp k x.key) refl (size-without k old xs) at where
  by : (o : Ordering) → key_cmp k x.key ≡ o → (value_of k xs ≡ Some old → sum_by entry_size (without k xs) + 25 + length k + length old.value ≡ sum_by entry_size xs)
      → match_ordering o None (Some x.value) (value_of k xs) ≡ Some old → sum_by entry_size (match_ordering o (x ∷ xs) xs (x ∷ without k xs)) + 25 + length k + length old.value ≡ sum_by entry_size (x ∷ xs)
  by Less is rest at = absurd (none-some old at)
  by Equal is rest at =
      let value = ap (λ (y : Held). length y.value) (same_Some x.value old at) in
      let key = ap length (equal-is-same k x.key (ap is_eq is)) in
      omega (arith, value, key, sum_by-cons entry_size x xs)
  by Greater is rest at = let more = rest at in omega (arith, more, sum_by-cons entry_size x (without k xs), sum_by-cons entry_size x xs)

pub new-key : (s : Entries) (k : List ℕ) (h : Held) → value_of k s ≡ None → map_size (put k h s) ≡ map_size s + 25 + length k + length h.value
new-key s k h free = let size = size-new held_form k h s free in omega (arith, size)

pub new-value : (s : Entries) (k : List ℕ) (h old : Held) → value_of k s ≡ Some old → map_size (put k h s) + length old.value ≡ map_size s + length h.value
new-value s k h old at = let size = size-put held_form k s old h at in omega (arith, size)

pub removal-size : (s : Entries) (k : List ℕ) (old : Held) → value_of k s ≡ Some old → map_size (without k s) + 25 + length k + length old.value ≡ map_size s
removal-size s k old at = let size = size-without k old s at in omega (arith, size)

-- without what a key has, at the place where its entry stands
pub removes-held : (last : Token) (s u : Entries) (k : List ℕ) (i : ℕ) (x : KeyedEntry Held) (n : ℕ) → IsHeldAt k s i → slice_get s i ≡ Some x → u ≡ remove s i → IsCountedMap (state_of last s) n
    → IsCountedMap (state_of last u) (n - (25 + length x.key + length x.value.value))
removes-held last s u k i x n held stands same kept =
    let without_it : u ≡ without k s = same ∙ sym held.takes in
    let sums = sum_by-remove entry_size s i x held.within in
    let at : entry_size (get_or s i x) ≡ entry_size x = ap entry_size (get_or_from_slice_get s i x x stands) in
    let sizes : map_size u ≡ map_size (remove s i) = ap map_size same in
    let size : n ≡ map_size s = kept.1 in
    (subst (λ (e : Entries). IsMap (state_of last e)) (sym without_it) (removed_is_map k (state_of last s) kept.0), omega (arith, sums, at, sizes, size))

-- with a value at its place, if the state has room for it
pub puts-in : (last t : Token) (view : ViewId) (k v : List ℕ) (s u : Entries) (n : ℕ) → IsMap (state_of last s) → IsViewId view → IsKey k → IsValue v → t ≡ next_token view last → u ≡ put k (held t v) s → n ≡ map_size (put k (held t v) s)
    → leb n STATE && leb t.count GREATEST_NUMBER ≡ true → IsCountedMap (state_of t u) n
puts-in last t view k v s u n is id key value next same size room =
    let both = and_parts (leb n STATE) (leb t.count GREATEST_NUMBER) room in
    let fits : n ≤ STATE = leb-true _ _ both.0 in
    let few : t.count ≤ GREATEST_NUMBER = leb-true _ _ both.1 in
    let sizes : map_size (put k (held t v) s) ≡ map_size (put k (held (next_token view last) v) s) = ap (λ (x : Token). map_size (put k (held x v) s)) next in
    let counts : t.count ≡ (next_token view last).count = ap (λ (x : Token). x.count) next in
    let made = given_is_map view k v (state_of last s) is id key value (omega (arith, size, sizes, fits)) (omega (arith, counts, few)) in
    let there = subst (λ (x : Token). IsMap (state_of x (put k (held x v) s))) (sym next) made in
    (subst (λ (e : Entries). IsMap (state_of t e)) (sym same) there, size ∙ ap map_size (sym same))

-- what an entry takes is part of the size
pub removes-fit : (s : Entries) (k : List ℕ) (i : ℕ) (x : KeyedEntry Held) (n a b : ℕ) → IsHeldAt k s i → slice_get s i ≡ Some x → n ≡ map_size s → a ≡ length x.key → b ≡ length x.value.value → 25 + a + b ≤ n
removes-fit s k i x n a b held stands size key value =
    let sums = sum_by-remove entry_size s i x held.within in
    let at : entry_size (get_or s i x) ≡ entry_size x = ap entry_size (get_or_from_slice_get s i x x stands) in
    omega (arith, sums, at, size, key, value)
