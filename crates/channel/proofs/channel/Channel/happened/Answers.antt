use Rattle.std.proofs.Common.{rules}
use Rattle.channel.proofs.channel.Channel.happened.Goals as goal

pub returns-clause-first : goal.returns-clause-first
returns-clause-first g c = search rules
