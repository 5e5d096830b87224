use Rattle.std.proofs.Common.{rules}
use Rattle.channel.proofs.channel.Channel.send.Goals as goal

pub returns-in-Err-clause-payload : goal.returns-in-Err-clause-payload
returns-in-Err-clause-payload g c = search rules
