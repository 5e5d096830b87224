use Rattle.std.proofs.Common.{rules, length, sym, ap, ◌∙◌}
use Rattle.wire_values.specs.Fields.{placed_at}
use Rattle.wire_values.proofs.Loops.{whole_count}
use Rattle.wire_values.proofs.entries.Held.len.Goals as goal

pub returns-clause-count : goal.returns-clause-count
returns-clause-count c = sym (whole_count placed_at c.self.inside.len c.self.inside.text.now c.self.invariant) ∙ ap length c.self.view_is

pub returns-clause-few : goal.returns-clause-few
returns-clause-few c = search rules
