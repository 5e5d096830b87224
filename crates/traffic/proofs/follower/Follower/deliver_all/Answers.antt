use Rattle.traffic.proofs.ActsOfFollowers.{turn-then}
use Rattle.traffic.proofs.ActsInTurn.{other-nothing}
use Rattle.traffic.proofs.OthersDeliver.{delivers-nothing, delivers-then, delivers-few}
use Rattle.traffic.proofs.follower.Follower.deliver_all.Goals as goal

pub loop-init : goal.loop-init
loop-init g c = (λ came. other-nothing g.R.Receiver.meaning came _ _, delivers-nothing g.R.Receiver.meaning _ _)

pub returns-then-not-branch-clause-goes : goal.returns-then-not-branch-clause-goes
returns-then-not-branch-clause-goes g c = λ came. turn-then g.R.Receiver.meaning came _ _ _ _ _ c.requires.other (c.loop.invariant.0 came) c.in_ok-deliver_one.ensures.does

pub loop-preserved : goal.loop-preserved
loop-preserved g c = (
  λ came. turn-then g.R.Receiver.meaning came _ _ _ _ _ c.requires.other (c.loop.invariant.0 came) c.in_ok-deliver_one.ensures.does,
  delivers-then g.R.Receiver.meaning _ _ _ _ _ c.loop.invariant.1 c.in_ok-deliver_one.ensures.does,
)

pub returns-then-not-branch-clause-delivers : goal.returns-then-not-branch-clause-delivers
returns-then-not-branch-clause-delivers g c = delivers-then g.R.Receiver.meaning _ _ _ _ _ c.loop.invariant.1 c.in_ok-deliver_one.ensures.does

pub returns-then-not-branch-clause-few : goal.returns-then-not-branch-clause-few
returns-then-not-branch-clause-few g c = delivers-few g.R.Receiver.meaning _ _ _ c.kept.ensures (delivers-then g.R.Receiver.meaning _ _ _ _ _ c.loop.invariant.1 c.in_ok-deliver_one.ensures.does)
