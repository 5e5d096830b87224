use Rattle.std.proofs.Common.{None, ap}
use Rattle.std.proofs.lemmas.Result.{err_from_is_err_and}
use Rattle.channel.specs.Channels.{ChannelModel}
use Rattle.channel.proofs.StepsOfChannels.{left-refused, kept}
use Rattle.channel.proofs.QueuesGiveFirst.{first-behind}
use Rattle.channel.proofs.channel.Channel.call.Goals as goal

-- after a step that is refused
pub returns-in_err-out-clause-left : goal.returns-in_err-out-clause-left
returns-in_err-out-clause-left g c =
    let p = err_from_is_err_and c.from_residual.result c.from_residual.ensures.1 in
    rw (p.1, p.2, ← c.self.view_is) (left-refused g.R.Receiver.meaning c.args.input.now _ c.hand.result _ c.hand.new.self c.hand.ensures c.in_err-out.was)

-- the step is taken, and all that it put out waits
pub returns-clause-calls : goal.returns-clause-calls
returns-clause-calls g c =
    rw (← c.self.view_is) (kept g.R.Receiver.meaning c.args.input.now _ c.hand.result c.hand.new.self c.in_ok-out.out None _ c.hand.ensures c.in_ok-out.was c.in_ok-keep.ensures)

-- its first event stands behind those that waited
pub returns-clause-number : goal.returns-clause-number
returns-clause-number g c =
    rw (← c.self.view_is) (first-behind _ _ _ _ _ c.number_sent-number.ensures c.deref.ensures.value (ap (λ (d : ChannelModel _). d.happened) c.in_ok-keep.ensures))
