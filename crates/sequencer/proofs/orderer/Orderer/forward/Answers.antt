use Rattle.std.proofs.Common.{sym, ◌∙◌}
use Rattle.sequencer.proofs.Queues.{not-taken}
use Rattle.sequencer.proofs.orderer.Orderer.forward.Goals as goal

pub returns-then-not-takes-clause-ok : goal.returns-then-not-takes-clause-ok
returns-then-not-takes-clause-ok c = not-taken c.args.sender.now c.args.number c.args.payload.now c.args.self.now (sym c.takes.ensures ∙ c.if-not-takes.true)
