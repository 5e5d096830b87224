use Rattle.channel.proofs.StepsOfChannels.{has-left}
use Rattle.channel.proofs.channel.Channel.disconnect.Goals as goal

pub returns-clause-ended : goal.returns-clause-ended
returns-clause-ended g c = has-left g.R.Receiver.meaning _ _ c.act.result c.act.ensures.calls
