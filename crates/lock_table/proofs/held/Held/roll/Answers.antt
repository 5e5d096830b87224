use Rattle.std.proofs.Common.{◌≡◌, ◌++◌, length, take, drop, ◌∙◌, sym, ap, subst, rules}
use Rattle.std.specs.List.{filter}
use Rattle.std.proofs.lemmas.Fn.{filter_same}
use Rattle.std.proofs.lemmas.List.{take_at}
use Rattle.std.proofs.lemmas.Bool.{ltb-false}
use Rattle.lock_table.specs.Locks.{IsTable, members, holder_in, table_of}
use Rattle.lock_table.specs.StepLaws.{rolled-is-table}
use Rattle.lock_table.proofs.held.Held.roll.Goals as goal

pub returns-clause-makes : goal.returns-clause-makes
returns-clause-makes c =
    let left = holder_in (members c.args.view.now) in
    let new = c.roll_each-self.new.entries in
    let old = c.args.self.now.entries.items in
    let whole : take c.args.self.now.entries.len (new ++ drop (length new) old) ≡ new = take_at new (drop (length new) old) c.args.self.now.entries.len (c.roll_each-self.ensures.len ∙ c.as_mut_slice.ensures.len) in
    ap (table_of c.roll_each-self.result) (filter_same _ left _ (λ x b f' t. search rules) _ _ c.retain.ensures.filtered ∙ ap (filter left) whole) ∙ (rw c.as_mut_slice.ensures.value at c.roll_each-self.ensures.rolls)

pub returns-clause-kept : goal.returns-clause-kept
returns-clause-kept c =
    subst IsTable (sym (returns-clause-makes c))
    (rolled-is-table (members c.args.view.now) c.args.view.now.id (table_of c.args.self.now.last c.args.self.now.entries.items) (rw c.id.ensures at c.known_view_id.ensures) c.requires.table (ltb-false _ _ c.requires.numbers))
