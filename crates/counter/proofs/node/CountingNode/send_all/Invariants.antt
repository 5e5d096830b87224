use Rattle.std.proofs.Common.{length}
use Rattle.counter.proofs.node.CountingNode.send_all.Given as goal

abbrev pub decreases-loop-payload : goal.decreases-loop-payload
decreases-loop-payload g l = length l.self.unsent.payloads.items
