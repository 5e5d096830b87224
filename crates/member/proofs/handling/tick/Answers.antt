use Rattle.member.proofs.StepsPromise.{from-some, tick-handled}
use Rattle.member.proofs.handling.tick.Goals as goal

pub pass_time-requires : goal.pass_time-requires
pass_time-requires g c =
    record { running = (c.requires.alive c.in-Some.running c.in-Some.is) }

pub returns-in-Ok : goal.returns-in-Ok
returns-in-Ok g c =
    from-some g.R.Receiver.meaning c.args.who.now.address c.args.who.now.group c.args.member_state.now c.in-Some.running _ _ _ c.in-Some.is
    (tick-handled g.R.Receiver.meaning c.args.who.now.address c.args.who.now.group c.in-Some.running c.nothing-out.result c.pass_time.new.out c.nothing-out.ensures c.in-Ok.ensures.does c.in-Ok.ensures.did c.in-Ok.ensures.calm (λ off. (c.in-Ok.ensures.ignored off).1) (c.requires.alive c.in-Some.running c.in-Some.is))
