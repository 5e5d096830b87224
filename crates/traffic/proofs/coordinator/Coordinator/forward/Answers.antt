use Rattle.traffic.proofs.ActsOfTurns.{forward-goes}
use Rattle.traffic.proofs.ActsInTurn.{goes-then}
use Rattle.traffic.proofs.KeepBetweenSteps.{settled-queued}
use Rattle.traffic.proofs.coordinator.Coordinator.forward.Goals as goal

pub order-requires : goal.order-requires
order-requires g c = record {
  coordinator = (forward-goes g.R.Receiver.meaning _ c.args.who.now.group _ c.args.receiver.now c.args.out.now _ _ _ _ c.requires.coordinator c.requires.other c.in_ok-queue.ensures).coordinator;
  settled = settled-queued _ _ _ _ _ _ c.requires.other c.requires.settled c.in_ok-queue.ensures;
}

pub returns : goal.returns
returns g c = record {
  goes = goes-then g.R.Receiver.meaning _ _ _ _ _ (forward-goes g.R.Receiver.meaning _ _ _ _ _ _ _ _ _ c.requires.coordinator c.requires.other c.in_ok-queue.ensures) (c.in_ok-order.ensures.goes _);
  done = c.in_ok-order.ensures.done;
  orders = rw c.in_ok-queue.ensures at c.in_ok-order.ensures.orders;
  settled = c.in_ok-order.ensures.settled;
  few = c.in_ok-order.ensures.few;
}
