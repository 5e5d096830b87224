use Rattle.traffic.proofs.ActsOfTurns.{ack-goes}
use Rattle.traffic.proofs.ActsInTurn.{goes-then}
use Rattle.traffic.proofs.KeepBetweenSteps.{settled-heard, ack-heard}
use Rattle.traffic.proofs.coordinator.Coordinator.ack.Goals as goal

pub order-requires : goal.order-requires
order-requires g c = record {
  coordinator = (ack-goes g.R.Receiver.meaning _ c.args.who.now.group _ c.args.receiver.now c.args.out.now _ _ _ c.requires.coordinator c.requires.other c.requires.member c.acknowledge.ensures).coordinator;
  settled = settled-heard _ _ _ _ _ c.requires.other c.requires.coordinator c.requires.member c.requires.delivered c.requires.settled c.acknowledge.ensures;
}

pub returns : goal.returns
returns g c = record {
  goes = goes-then g.R.Receiver.meaning _ _ _ _ _ (ack-goes g.R.Receiver.meaning _ _ _ _ _ _ _ _ c.requires.coordinator c.requires.other c.requires.member c.acknowledge.ensures) (c.in_ok-order.ensures.goes _);
  orders = ack-heard g.R.Receiver.meaning _ _ _ _ _ _ _ _ _ _ _ c.acknowledge.ensures c.in_ok-order.ensures.orders c.in_ok-order.ensures.done;
  settled = c.in_ok-order.ensures.settled;
  few = c.in_ok-order.ensures.few;
}
