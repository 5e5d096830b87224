use Rattle.std.specs.HashSet.{contains}
use Rattle.trace_merge.specs.Facts.{same_fact}
use Rattle.trace_merge.proofs.KeepCome.{slices-come, slices-recordable, slices-fewer}
use Rattle.trace_merge.proofs.merging.Merging.take.Goals as goal

pub returns-clause-comes : goal.returns-clause-comes
returns-clause-comes c = λ processes h.
    slices-come c.args.self.now.left.items c.args.process c.index.result.now c.in-Some.behind c.in-Some.event.now (contains same_fact c.args.self.now.awaited) c.requires.free c.index.ensures c.in-Some.ensures.cases.0
    processes (contains same_fact c.strike.new.awaited) c.args.self.now.merged.events c.add.new.trace.events c.strike.ensures c.in_ok-add.ensures h

pub returns-clause-short : goal.returns-clause-short
returns-clause-short c =
    slices-recordable c.args.self.now.left.items c.args.process c.index.result.now c.in-Some.behind c.in-Some.event.now (contains same_fact c.args.self.now.awaited) c.requires.free c.index.ensures c.in-Some.ensures.cases.0
    c.requires.short

pub returns-clause-fewer : goal.returns-clause-fewer
returns-clause-fewer c =
    slices-fewer c.args.self.now.left.items c.args.process c.index.result.now c.in-Some.behind c.in-Some.event.now (contains same_fact c.args.self.now.awaited) c.requires.free c.index.ensures c.in-Some.ensures.cases.0
