use Rattle.std.specs.HashSet.{contains}
use Rattle.trace_merge.specs.Facts.{same_fact}
use Rattle.trace_merge.specs.Merges.{lists_of}
use Rattle.trace_merge.specs.Outcomes.{slices}
use Rattle.trace_merge.proofs.KeepCome.{all-came}
use Rattle.trace_merge.proofs.merging.merge.Goals as goal

pub returns-in-None : goal.returns-in-None
returns-in-None c = all-came (lists_of c.args.traces.now) (slices c.in-Ok.merging.left.items) (contains same_fact c.in-Ok.merging.awaited) c.in-Ok.merging.merged.events
    c.in-Ok.ensures.come c.in-None.ensures
