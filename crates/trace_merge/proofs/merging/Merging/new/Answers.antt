use Rattle.std.specs.HashSet.{contains}
use Rattle.trace_merge.specs.Facts.{same_fact}
use Rattle.trace_merge.specs.Merges.{lists_of}
use Rattle.trace_merge.specs.Outcomes.{slices}
use Rattle.trace_merge.proofs.KeepCome.{nothing-came}
use Rattle.trace_merge.proofs.merging.Merging.new.Goals as goal

pub returns-clause-come : goal.returns-clause-come
returns-clause-come c = nothing-came (lists_of c.args.traces.now) (slices c.in_ok-events_of.field-0.items) (contains same_fact c.in_ok-shown_in.field-0) c.new.result.events
    c.in_ok-events_of.ensures.events c.new.ensures c.in_ok-shown_in.ensures
