use Rattle.std.proofs.Common.{rules}
use Rattle.std.proofs.lemmas.Result.{on_ok_weaker}
use Rattle.membership.proofs.BehindAnswered.{answered-behind}
use Rattle.membership.proofs.member_state.MemberState.take_flush.Goals as goal

pub returns-in-Accept-clause-member_state : goal.returns-in-Accept-clause-member_state
returns-in-Accept-clause-member_state g c = on_ok_weaker c.promise.result (λ is. rw is.member_state (search rules)) c.promise.ensures

pub returns-in-Behind-clause-takes : goal.returns-in-Behind-clause-takes
returns-in-Behind-clause-takes g c = on_ok_weaker c.put.result (λ put. answered-behind c.args.who.now.group c.args.who.now.address c.args.proposal.now c.unwrap-promised.result.now c.args.self.now c.args.out.now c.put.new.out (search rules) (search rules) (search rules)) c.put.ensures
