use Rattle.member.proofs.StepsPromise.{from-some, hint-handled}
use Rattle.member.proofs.handling.merge_hint.Goals as goal

pub returns-in-Ok : goal.returns-in-Ok
returns-in-Ok g c =
    from-some g.R.Receiver.meaning c.args.who.now.address c.args.who.now.group c.args.member_state.now c.in-Some.running _ _ _ c.in-Some.is
    (hint-handled g.R.Receiver.meaning c.args.who.now.address c.args.who.now.group c.args.address c.in-Some.running c.nothing-out.result c.announce_view.new.out (c.requires.alive c.in-Some.running c.in-Some.is).member_state c.nothing-out.ensures c.in-Ok.ensures.does (λ i. (c.in-Ok.ensures.ignored i).1) (c.requires.alive c.in-Some.running c.in-Some.is))
