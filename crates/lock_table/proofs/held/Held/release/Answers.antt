use Rattle.std.proofs.Common.{◌≡◌, ◌≤◌, true, false, length, Some, refl, sym, ap, subst, ◌∙◌, arith}
use Rattle.std.specs.List.{slice_get}
use Rattle.std.proofs.lemmas.Bool.{ltb-false}
use Rattle.std.proofs.lemmas.Option.{slice_get_read}
use Rattle.address.specs.Ids.{same_address}
use Rattle.address.proofs.SameIds.{same_address-sym}
use Rattle.address.specs.declared.limits.TheConstants.{GREATEST_NUMBER}
use Rattle.keyed_state.specs.Entries.{IsHeldAt}
use Rattle.keyed_state.specs.Tokens.{next_token}
use Rattle.lock_table.specs.Locks.{IsTable, table_of}
use Rattle.lock_table.specs.StepLaws.{released-is-table}
use Rattle.lock_table.proofs.LocksInPlaces.{gone-freed, gone-kept}
use Rattle.lock_table.proofs.held.Held.release.Goals as goal

pub returns-then-eq-clause-makes : goal.returns-then-eq-clause-makes
returns-then-eq-clause-makes c =
    let entries = c.args.self.now.entries.items in
    let k = c.args.name.now in
    let i = c.in-Held.i in
    let x = c.index_mut.result.now in
    let l = c.release-self.new.self in
    let held : IsHeldAt k entries i = rw (c.as_slice-2.ensures.bytes, c.as_slice.ensures.value) at c.in-Held.ensures in
    let stands : slice_get entries i ≡ Some x = slice_get_read entries (length entries) i x refl held.within c.index_mut.ensures.value in
    let is : same_address l.holder c.args.from ≡ true = rw c.holder.ensures at (sym c.eq.ensures ∙ c.if-eq.true) in
    ap (table_of c.release-self.result) c.remove.ensures.items ∙ gone-freed c.args.from c.args.view k c.args.self.now.last entries i x l c.release-self.result held stands c.release-self.ensures (same_address-sym c.args.from l.holder ∙ is)

pub returns-else-eq-clause-makes : goal.returns-else-eq-clause-makes
returns-else-eq-clause-makes c =
    let entries = c.args.self.now.entries.items in
    let k = c.args.name.now in
    let i = c.in-Held.i in
    let x = c.index_mut.result.now in
    let l = c.release-self.new.self in
    let held : IsHeldAt k entries i = rw (c.as_slice-2.ensures.bytes, c.as_slice.ensures.value) at c.in-Held.ensures in
    let stands : slice_get entries i ≡ Some x = slice_get_read entries (length entries) i x refl held.within c.index_mut.ensures.value in
    let is : same_address l.holder c.args.from ≡ false = rw c.holder.ensures at (sym c.eq.ensures ∙ c.if-eq.false) in
    gone-kept c.args.from c.args.view k c.args.self.now.last entries i x l c.release-self.result held stands c.release-self.ensures (same_address-sym c.args.from l.holder ∙ is)

pub returns-then-eq-clause-kept : goal.returns-then-eq-clause-kept
returns-then-eq-clause-kept c =
    let s = table_of c.args.self.now.last c.args.self.now.entries.items in
    let few : (next_token c.args.view s.last).count ≤ GREATEST_NUMBER = omega (arith, ltb-false _ _ c.requires.numbers) in
    subst IsTable (sym (returns-then-eq-clause-makes c)) (released-is-table c.args.from c.args.view c.args.name.now s c.requires.table c.known_view_id.ensures (rw c.as_slice-2.ensures.bytes at c.as_slice-2.ensures.key) few)

pub returns-else-eq-clause-kept : goal.returns-else-eq-clause-kept
returns-else-eq-clause-kept c =
    let s = table_of c.args.self.now.last c.args.self.now.entries.items in
    let few : (next_token c.args.view s.last).count ≤ GREATEST_NUMBER = omega (arith, ltb-false _ _ c.requires.numbers) in
    subst IsTable (sym (returns-else-eq-clause-makes c)) (released-is-table c.args.from c.args.view c.args.name.now s c.requires.table c.known_view_id.ensures (rw c.as_slice-2.ensures.bytes at c.as_slice-2.ensures.key) few)
