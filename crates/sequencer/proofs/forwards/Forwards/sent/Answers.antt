use Rattle.std.proofs.Common.{rules}
use Rattle.sequencer.proofs.forwards.Forwards.sent.Goals as goal

pub returns : goal.returns
returns c = search rules
