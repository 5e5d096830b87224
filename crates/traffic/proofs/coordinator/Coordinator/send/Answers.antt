use Rattle.std.proofs.Common.{None}
use Rattle.traffic.proofs.OwnSends.{send-goes}
use Rattle.traffic.proofs.ActsInTurn.{goes-then}
use Rattle.traffic.proofs.KeepBetweenSteps.{settled-sent, sends-orders, delivers-own-at-once, few-more}
use Rattle.traffic.proofs.coordinator.Coordinator.send.Goals as goal

pub order-requires : goal.order-requires
order-requires g c = record {
  coordinator = (send-goes g.R.Receiver.meaning None _ _ _ c.args.receiver.now _ _ _ _ c.requires.coordinator c.in_ok-say_and_queue.ensures.short c.in_ok-say_and_queue.ensures.happens c.in_ok-say_and_queue.ensures.now).coordinator;
  settled = settled-sent _ _ _ _ c.rest-rest.ensures.kept c.requires.free c.requires.settled c.in_ok-say_and_queue.ensures.now;
}

pub returns-clause-goes : goal.returns-clause-goes
returns-clause-goes g c = λ came. goes-then g.R.Receiver.meaning came _ _ _ _
    (send-goes g.R.Receiver.meaning came _ _ _ _ _ _ _ _ c.requires.coordinator c.in_ok-say_and_queue.ensures.short c.in_ok-say_and_queue.ensures.happens c.in_ok-say_and_queue.ensures.now)
    (c.in_ok-order.ensures.goes came)

pub returns-clause-orders : goal.returns-clause-orders
returns-clause-orders g c = sends-orders g.R.Receiver.meaning _ _ _ _ _ _ _ _ _ _ _ c.in_ok-say_and_queue.ensures.now c.in_ok-say_and_queue.ensures.happens c.in_ok-order.ensures.orders c.in_ok-order.ensures.done

pub returns-clause-prompt : goal.returns-clause-prompt
returns-clause-prompt g c = delivers-own-at-once g.R.Receiver.meaning _ _ _ _ _ _ _ _ _ c.rest-rest.ensures.kept c.requires.free c.requires.settled c.requires.rested
    (sends-orders g.R.Receiver.meaning _ _ _ _ _ _ _ _ _ _ _ c.in_ok-say_and_queue.ensures.now c.in_ok-say_and_queue.ensures.happens c.in_ok-order.ensures.orders c.in_ok-order.ensures.done)

pub returns-clause-few : goal.returns-clause-few
returns-clause-few g c = few-more _ _ _ _ c.in_ok-say_and_queue.ensures.happens.events c.in_ok-order.ensures.few
