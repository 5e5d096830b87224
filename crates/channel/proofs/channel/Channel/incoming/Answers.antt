use Rattle.std.proofs.Common.{None, ap}
use Rattle.std.proofs.lemmas.Result.{err_from_is_err_and}
use Rattle.member.specs.declared.input.Input.TheVariants as input
use Rattle.member.specs.Sources.{output_of}
use Rattle.channel.proofs.StepsOfChannels.{left-refused, kept}
use Rattle.channel.proofs.channel.Channel.incoming.Goals as goal

-- after a step that is refused
pub returns-in_err-taken-clause-left : goal.returns-in_err-taken-clause-left
returns-in_err-taken-clause-left g c =
    let p = err_from_is_err_and c.from_residual.result c.from_residual.ensures.1 in
    rw (p.1, p.2, ← c.self.view_is)
    (left-refused g.R.Receiver.meaning (input.Datagram c.args.bytes) _ (output_of c.take.result) _ c.take.new.self c.take.ensures.hands (ap output_of c.in_err-taken.was))

-- the step is taken, and all that it put out waits
pub returns-clause-calls : goal.returns-clause-calls
returns-clause-calls g c =
    rw (← c.self.view_is)
    (kept g.R.Receiver.meaning (input.Datagram c.args.bytes) _ (output_of c.take.result) c.take.new.self c.in_ok-taken.taken.out None _ c.take.ensures.hands (ap output_of c.in_ok-taken.was) c.in_ok-keep.ensures)
