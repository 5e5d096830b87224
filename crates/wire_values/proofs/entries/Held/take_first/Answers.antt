use Rattle.std.proofs.Common.{rules, ◌≡◌, ◌-◌, ◌∷◌, List, ℕ, Ok, Err, true, sym, ap, subst, ◌∙◌, arith}
use Rattle.wire_values.specs.Reading.{listed, is_whole, list_at}
use Rattle.wire_values.specs.Fields.{placed_at}
use Rattle.wire_values.proofs.Loops.{list_first, list_not_err, list_empty}
use Rattle.wire_values.proofs.entries.Held.take_first.Goals as goal

pub returns-then-self-eq0-clause-end : goal.returns-then-self-eq0-clause-end
returns-then-self-eq0-clause-end c = sym c.self.view_is ∙ list_empty placed_at c.self.inside.len c.self.inside.text.now c.if-self-eq0.true

pub invariant_of-self : goal.invariant_of-self
invariant_of-self c =
    let read : placed_at c.self.inside.text.now ≡ Ok (c.in-Ok.placed, c.placed_at.new.from) = ap placed_at (sym c.new-from.ensures) ∙ c.in-Ok.ensures in
    let s = list_first placed_at c.self.inside.len c.self.inside.text.now c.in-Ok.placed c.placed_at.new.from (omega arith) read c.self.invariant in
    subst (λ (t : List ℕ). is_whole (list_at placed_at (c.self.inside.len - 1) t) ≡ true) (sym c.rest-self-inside.ensures) s.1

pub unreachable-requires : goal.unreachable-requires
unreachable-requires c =
    let read : placed_at c.self.inside.text.now ≡ Err c.in-Err.field-0 = ap placed_at (sym c.new-from.ensures) ∙ c.in-Err.ensures in
    list_not_err placed_at c.self.inside.len c.self.inside.text.now c.in-Err.field-0 (omega arith) read c.self.invariant

pub returns-clause-first : goal.returns-clause-first
returns-clause-first c =
    let read : placed_at c.self.inside.text.now ≡ Ok (c.in-Ok.placed, c.placed_at.new.from) = ap placed_at (sym c.new-from.ensures) ∙ c.in-Ok.ensures in
    let s = list_first placed_at c.self.inside.len c.self.inside.text.now c.in-Ok.placed c.placed_at.new.from (omega arith) read c.self.invariant in
    sym c.self.view_is ∙ s.0 ∙ ap (λ (t : List ℕ). c.in-Ok.placed ∷ listed (list_at placed_at (c.self.inside.len - 1) t)) (sym c.rest-self-inside.ensures)

pub returns-then-self-eq0-clause-first : goal.returns-then-self-eq0-clause-first
returns-then-self-eq0-clause-first c = search rules
