use Rattle.std.proofs.Common.{rules}
use Rattle.wire_values.specs.Reading.{list_at}
use Rattle.wire_values.proofs.entries.Items.none.Goals as goal

pub invariant_of-result : goal.invariant_of-result
unfolding list_at
invariant_of-result c = search rules

pub returns : goal.returns
unfolding list_at
returns c = search rules
