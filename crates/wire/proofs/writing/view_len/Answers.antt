use Rattle.std.proofs.Common.{length, ap, arith}
use Rattle.wire.proofs.Sizes.{length-view}
use Rattle.wire.proofs.writing.view_len.Goals as goal

pub returns-clause-size : goal.returns-clause-size
returns-clause-size c = omega (arith, length-view c.args.view.now, c.len.ensures.count, ap length c.members.ensures.members)
