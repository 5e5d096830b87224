use Rattle.std.proofs.Common.{rules, ◌≡◌, ◌-◌, ◌∷◌, List, ℕ, Ok, Err, true, sym, ap, subst, ◌∙◌, arith}
use Rattle.wire_values.specs.Reading.{listed, is_whole, list_at}
use Rattle.wire_values.specs.Fields.{entry_at}
use Rattle.wire_values.proofs.Loops.{list_first, list_not_err, list_empty}
use Rattle.wire_values.proofs.entries.Items.take_first.Goals as goal

pub returns-then-self-eq0-clause-end : goal.returns-then-self-eq0-clause-end
returns-then-self-eq0-clause-end c = sym c.self.view_is ∙ list_empty entry_at c.self.inside.count c.self.inside.bytes.now c.if-self-eq0.true

pub invariant_of-self : goal.invariant_of-self
invariant_of-self c =
    let read : entry_at c.self.inside.bytes.now ≡ Ok (c.in-Ok.entry, c.entry_at.new.from) = ap entry_at (sym c.new-from.ensures) ∙ c.in-Ok.ensures in
    let s = list_first entry_at c.self.inside.count c.self.inside.bytes.now c.in-Ok.entry c.entry_at.new.from (omega arith) read c.self.invariant in
    subst (λ (t : List ℕ). is_whole (list_at entry_at (c.self.inside.count - 1) t) ≡ true) (sym c.rest-self-inside.ensures) s.1

pub unreachable-requires : goal.unreachable-requires
unreachable-requires c =
    let read : entry_at c.self.inside.bytes.now ≡ Err c.in-Err.field-0 = ap entry_at (sym c.new-from.ensures) ∙ c.in-Err.ensures in
    list_not_err entry_at c.self.inside.count c.self.inside.bytes.now c.in-Err.field-0 (omega arith) read c.self.invariant

pub returns-clause-first : goal.returns-clause-first
returns-clause-first c =
    let read : entry_at c.self.inside.bytes.now ≡ Ok (c.in-Ok.entry, c.entry_at.new.from) = ap entry_at (sym c.new-from.ensures) ∙ c.in-Ok.ensures in
    let s = list_first entry_at c.self.inside.count c.self.inside.bytes.now c.in-Ok.entry c.entry_at.new.from (omega arith) read c.self.invariant in
    sym c.self.view_is ∙ s.0 ∙ ap (λ (t : List ℕ). c.in-Ok.entry ∷ listed (list_at entry_at (c.self.inside.count - 1) t)) (sym c.rest-self-inside.ensures)

pub returns-then-self-eq0-clause-first : goal.returns-then-self-eq0-clause-first
returns-then-self-eq0-clause-first c = search rules
