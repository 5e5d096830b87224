use Rattle.std.proofs.Common.{None}
use Rattle.traffic.proofs.ActsInTurn.{goes-nothing, goes-then}
use Rattle.traffic.proofs.TurnsFollow.{ordering-nothing, ordering-then}
use Rattle.traffic.proofs.FewAreOrdered.{few}
use Rattle.traffic.proofs.coordinator.Coordinator.order.Goals as goal

pub loop-init : goal.loop-init
loop-init g c = (λ came. goes-nothing g.R.Receiver.meaning came _ _ c.requires.coordinator, c.requires.settled, ordering-nothing g.R.Receiver.meaning _ _)

pub order_next-requires : goal.order_next-requires
order_next-requires g c = record { coordinator = (c.loop.invariant.0 None).coordinator; settled = c.loop.invariant.1 }

pub returns-then-not-branch-clause-goes : goal.returns-then-not-branch-clause-goes
returns-then-not-branch-clause-goes g c = λ came. goes-then g.R.Receiver.meaning came _ _ _ _ (c.loop.invariant.0 came) (c.in_ok-order_next.ensures.goes came)

pub loop-preserved : goal.loop-preserved
loop-preserved g c = (
  λ came. goes-then g.R.Receiver.meaning came _ _ _ _ (c.loop.invariant.0 came) (c.in_ok-order_next.ensures.goes came),
  c.in_ok-order_next.ensures.settled,
  ordering-then g.R.Receiver.meaning _ _ _ _ _ c.loop.invariant.2 c.in_ok-order_next.ensures.does,
)

pub returns-then-not-branch-clause-orders : goal.returns-then-not-branch-clause-orders
returns-then-not-branch-clause-orders g c = ordering-then g.R.Receiver.meaning _ _ _ _ _ c.loop.invariant.2 c.in_ok-order_next.ensures.does

pub returns-then-not-branch-clause-few : goal.returns-then-not-branch-clause-few
returns-then-not-branch-clause-few g c = few g.R.Receiver.meaning _ _ _ (ordering-then g.R.Receiver.meaning _ _ _ _ _ c.loop.invariant.2 c.in_ok-order_next.ensures.does)
    c.requires.coordinator c.requires.settled c.kept.ensures c.rest-rest.ensures.kept c.members-members.ensures.sound
