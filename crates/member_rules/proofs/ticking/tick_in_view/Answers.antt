use Rattle.std.proofs.lemmas.Result.{on_ok_weaker}
use Rattle.traffic.proofs.ActsOfAnswers.{tick-goes, status-tick-goes}
use Rattle.member_rules.proofs.MembersAreOpen.{there-is, orderly-in, goes-same, nothing-did}
use Rattle.member_rules.proofs.ticking.tick_in_view.Goals as goal

pub returns-in-Coordinator-clause-did : goal.returns-in-Coordinator-clause-did
returns-in-Coordinator-clause-did g c =
    let there = there-is _ _ _ c.in-Some.is c.in-Coordinator.is in
    on_ok_weaker c.tick.result (λ ticks came. goes-same g.R.Receiver.meaning came _ _ _ _ _ _ c.requires.member_state c.requires.installed there
    (status-tick-goes g.R.Receiver.meaning came _ _ _ _ _ _ (orderly-in _ _ _ c.requires.ordered there).0 ticks).goes) c.tick.ensures

pub returns-in-Follower-clause-did : goal.returns-in-Follower-clause-did
returns-in-Follower-clause-did g c =
    let there = there-is _ _ _ c.in-Some.is c.in-Follower.is in
    on_ok_weaker c.tick-in-Follower.result (λ ticks came. goes-same g.R.Receiver.meaning came _ _ _ _ _ _ c.requires.member_state c.requires.installed there
    (tick-goes g.R.Receiver.meaning came _ _ _ _ _ _ ticks).0) c.tick-in-Follower.ensures

pub returns-in_default-clause-did : goal.returns-in_default-clause-did
returns-in_default-clause-did g c = λ came. nothing-did g.R.Receiver.meaning came _ _ _ _
