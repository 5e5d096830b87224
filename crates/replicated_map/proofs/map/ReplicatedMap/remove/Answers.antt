use Rattle.std.proofs.Common.{◌≡◌, length, Some, refl, ap, sym, ◌∙◌, arith}
use Rattle.std.specs.List.{slice_get, remove}
use Rattle.std.proofs.lemmas.Option.{slice_get_read}
use Rattle.keyed_state.specs.Entries.{IsHeldAt, IsFreeAt}
use Rattle.replicated_map.specs.Entries.{state_of, removed}
use Rattle.replicated_map.proofs.EntriesChange.{Entries, removes-held, removes-fit}
use Rattle.replicated_map.proofs.map.ReplicatedMap.remove.Goals as goal

pub invariant_of-self : goal.invariant_of-self
invariant_of-self c =
    let s = c.self.inside.entries.items in
    let k = c.args.key.now in
    let i = c.in-Held.i in
    let x = c.remove-entry.result in
    let held : IsHeldAt k s i = rw (c.as_slice.ensures.value) at c.in-Held.ensures in
    let stands : slice_get s i ≡ Some x = slice_get_read s (length s) i x refl held.within c.remove-entry.ensures.value in
    let less : c.remove-entry.new.self.items ≡ remove s i = c.remove-entry.ensures.items in
    let key : length c.as_slice-in-Held.result.now ≡ length x.key = ap length c.as_slice-in-Held.ensures in
    let value : length c.as_slice-in-Held-2.result.now ≡ length x.value.value = ap length c.as_slice-in-Held-2.ensures in
    let r = removes-held c.self.inside.last s c.remove-entry.new.self.items k i x c.self.inside.size held stands less c.self.invariant in
    (r.0, omega (arith, key, value, r.1))

-- what the key has is taken
pub returns-in-Held : goal.returns-in-Held
returns-in-Held c =
    let held : IsHeldAt c.args.key.now c.self.inside.entries.items c.in-Held.i = rw (c.as_slice.ensures.value) at c.in-Held.ensures in
    ap (λ (es : Entries). state_of c.self.inside.last es) (c.remove-entry.ensures.items ∙ sym held.takes) ∙ ap (removed c.args.key.now) c.self.view_is

-- there is nothing to take
pub returns-in_default : goal.returns-in_default
returns-in_default c =
    let free : IsFreeAt c.args.key.now c.self.inside.entries.items c.in_default.field-0 = rw (c.as_slice.ensures.value) at c.in_default.ensures in
    sym c.self.view_is ∙ ap (λ (es : Entries). state_of c.self.inside.last es) (sym free.takes) ∙ ap (removed c.args.key.now) c.self.view_is

-- the size holds what is taken
pub overflow_sub-self : goal.overflow_sub-self
overflow_sub-self c =
    let s = c.self.inside.entries.items in
    let i = c.in-Held.i in
    let x = c.remove-entry.result in
    let held : IsHeldAt c.args.key.now s i = rw (c.as_slice.ensures.value) at c.in-Held.ensures in
    let stands : slice_get s i ≡ Some x = slice_get_read s (length s) i x refl held.within c.remove-entry.ensures.value in
    removes-fit s c.args.key.now i x _ _ _ held stands c.self.invariant.1 (ap length c.as_slice-in-Held.ensures) (ap length c.as_slice-in-Held-2.ensures)
