use Rattle.traffic.proofs.ActsOfFollowers.{order-goes}
use Rattle.traffic.proofs.OthersDeliver.{order-taken, answers-goes, order-few}
use Rattle.traffic.proofs.follower.Follower.order.Goals as goal

pub returns : goal.returns
returns g c = record {
  goes = answers-goes g.R.Receiver.meaning _ _ _ _ _ _ _ _ _ _ _ _ _
      (order-goes g.R.Receiver.meaning _ _ _ _ _ _ _ _ _ _ _ _ c.requires.other c.collect_below.ensures c.in_ok-new.ensures.now c.in_ok-deliver_all.ensures.goes) c.in_ok-answer.ensures;
  takes = order-taken g.R.Receiver.meaning _ _ _ _ _ _ _ _ _ _ _ _ _ _ _ c.delivered-before.ensures c.collect_below.ensures c.in_ok-new.ensures.answer c.in_ok-new.ensures.now
      c.in_ok-deliver_all.ensures.delivers c.in_ok-deliver_all.ensures.done c.in_ok-answer.ensures;
  few = order-few _ _ _ _ _ _ c.args.out.now c.deliver_all.new.out _ c.in_ok-deliver_all.ensures.few c.in_ok-answer.ensures;
}
