use Rattle.std.proofs.Common.{sym, ◌∙◌}
use Rattle.member.proofs.StepsPromise.{leave-handled, left-none}
use Rattle.member.proofs.handling.leave_group.Goals as goal

pub returns-in-Ok : goal.returns-in-Ok
returns-in-Ok g c =
    left-none g.R.Receiver.meaning c.args.who.now.address c.args.who.now.group c.args.member_state.now c.in-Some.running _ _ c.take.new.self (sym c.take.ensures.value ∙ c.in-Some.is) c.take.ensures.after
    (leave-handled g.R.Receiver.meaning c.args.who.now.address c.args.who.now.group c.in-Some.running c.nothing-out.result c.leave.new.out c.nothing-out.ensures c.in-Ok.ensures)
