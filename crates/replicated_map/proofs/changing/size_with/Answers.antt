use Rattle.std.proofs.Common.{◌≡◌, ℕ, ◌+◌, ◌-◌, ◌≤◌, [], length, Some, refl, sym, subst, ap, ◌∙◌, arith}
use Rattle.std.specs.List.{slice_get}
use Rattle.std.proofs.lemmas.Option.{slice_get_read}
use Rattle.keyed_state.specs.declared.entries.KeyedEntry.{KeyedEntry}
use Rattle.keyed_state.specs.Entries.{IsHeldAt, IsFreeAt, value_of}
use Rattle.replicated_map.specs.declared.entries.Held.{Held}
use Rattle.replicated_map.specs.Entries.{IsValue, held}
use Rattle.replicated_map.proofs.EntriesChange.{new-value, new-key}
use Rattle.replicated_map.proofs.changing.size_with.Goals as goal

more : (n m k l a b p : ℕ) → n ≡ m → k ≡ a → l ≡ b → p ≡ m + 25 + a + b → n + 25 + k + l ≡ p
more n m k l a b p e f g h = omega (arith, e, f, g, h)

other : (n m old x new v p q : ℕ) → n ≡ m → old ≡ x → new ≡ v → p + x ≡ m + v → q + x ≡ m + 0 → n - old + new ≡ p
other n m old x new v p q e f g h k = omega (arith, e, f, g, h, k)

less : (n m old x q : ℕ) → n ≡ m → old ≡ x → q + x ≡ m + 0 → old ≤ n
less n m old x q e f g = omega (arith, e, f, g)

-- a new value in place of an old one
pub returns-in-Held-clause-size : goal.returns-in-Held-clause-size
returns-in-Held-clause-size c =
    let s = c.args.entries.now in
    let k = c.args.key.now in
    let i = c.in-Held.i in
    let x = c.index-entries-i.result in
    let place : IsHeldAt k s i = rw c.in-Held.is at c.requires.place in
    let stands : slice_get s i ≡ Some x = slice_get_read s (length s) i x refl place.within c.index-entries-i.is in
    let at : value_of k s ≡ Some x.value = place.value x stands in
    let size = new-value s k (held c.args.version.now c.args.value.now) x.value at in
    let small = new-value s k (held c.args.version.now []) x.value at in
    let old : length c.as_slice.result.now ≡ length x.value.value = ap length c.as_slice.ensures ∙ ap (λ (e : KeyedEntry Held). length e.value.value) (sym c.index-entries-i.is) in
    let new : length c.as_slice-len.result.now ≡ length c.args.value.now = ap length c.as_slice-len.ensures.bytes in
    other _ _ _ _ _ _ _ _ c.requires.size old new size small

-- a new key
pub returns-in-Free-clause-size : goal.returns-in-Free-clause-size
returns-in-Free-clause-size c =
    let free : IsFreeAt c.args.key.now c.args.entries.now c.in-Free.field-0 = rw c.in-Free.is at c.requires.place in
    let key : length c.as_slice-in-Free.result.now ≡ length c.args.key.now = ap length c.as_slice-in-Free.ensures.bytes in
    let value : length c.as_slice-len.result.now ≡ length c.args.value.now = ap length c.as_slice-len.ensures.bytes in
    let size = new-key c.args.entries.now c.args.key.now (held c.args.version.now c.args.value.now) free.value in
    more _ _ _ _ _ _ _ c.requires.size key value size

-- the value is within its limit
pub returns-in-Held-clause-value : goal.returns-in-Held-clause-value
returns-in-Held-clause-value c = subst IsValue c.as_slice-len.ensures.bytes c.as_slice-len.ensures.value

pub returns-in-Free-clause-value : goal.returns-in-Free-clause-value
returns-in-Free-clause-value c = subst IsValue c.as_slice-len.ensures.bytes c.as_slice-len.ensures.value

pub bounds-entries-i : goal.bounds-entries-i
bounds-entries-i c =
    let place : IsHeldAt c.args.key.now c.args.entries.now c.in-Held.i = rw c.in-Held.is at c.requires.place in
    place.within

pub overflow_sub-result : goal.overflow_sub-result
overflow_sub-result c =
    let s = c.args.entries.now in
    let k = c.args.key.now in
    let x = c.index-entries-i.result in
    let place : IsHeldAt k s c.in-Held.i = rw c.in-Held.is at c.requires.place in
    let small = new-value s k (held c.args.version.now []) x.value (place.value x (slice_get_read s (length s) c.in-Held.i x refl place.within c.index-entries-i.is)) in
    less _ _ _ _ _ c.requires.size (ap length c.as_slice.ensures ∙ ap (λ (e : KeyedEntry Held). length e.value.value) (sym c.index-entries-i.is)) small

pub overflow_add-result : goal.overflow_add-result
overflow_add-result c = omega (arith, c.requires.size, c.requires.fits, c.as_slice-len.ensures.value)

pub overflow_add-result-in-Free : goal.overflow_add-result-in-Free
overflow_add-result-in-Free c = omega (arith, c.requires.size, c.requires.fits)

pub overflow_add-result-in-Free-2 : goal.overflow_add-result-in-Free-2
overflow_add-result-in-Free-2 c = omega (arith, c.requires.size, c.requires.fits, c.as_slice-in-Free.ensures.key.1)

pub overflow_add-result-in-Free-3 : goal.overflow_add-result-in-Free-3
overflow_add-result-in-Free-3 c = omega (arith, c.requires.size, c.requires.fits, c.as_slice-in-Free.ensures.key.1, c.as_slice-len.ensures.value)
