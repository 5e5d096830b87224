use Rattle.std.proofs.Common.{rules, length, sym, ap, ◌∙◌}
use Rattle.wire_values.specs.Fields.{entry_at}
use Rattle.wire_values.proofs.Loops.{whole_count}
use Rattle.wire_values.proofs.entries.Items.len.Goals as goal

pub returns-clause-count : goal.returns-clause-count
returns-clause-count c = sym (whole_count entry_at c.self.inside.count c.self.inside.bytes.now c.self.invariant) ∙ ap length c.self.view_is

pub returns-clause-few : goal.returns-clause-few
returns-clause-few c = search rules
