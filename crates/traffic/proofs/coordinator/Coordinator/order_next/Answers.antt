use Rattle.traffic.proofs.ActsOfTurns.{rest-goes, rest-done, turn-goes, turn-fewer}
use Rattle.traffic.proofs.TurnsFollow.{serves-none, serves-some, held-view, turn-does, rest-does}
use Rattle.traffic.proofs.KeepSettled.{settled-next}
use Rattle.traffic.proofs.coordinator.Coordinator.order_next.Goals as goal

pub returns-in-None-clause-goes : goal.returns-in-None-clause-goes
returns-in-None-clause-goes g c = λ came. rest-goes g.R.Receiver.meaning came _ _ _ _ _ _ _ _ _ c.requires.coordinator c.in-None.is
    (serves-none g.R.Receiver.meaning _ _ _ _ _ _ _ _ _ c.in-None.is c.in_ok-next.ensures.does)

pub returns-in-None-clause-fewer : goal.returns-in-None-clause-fewer
returns-in-None-clause-fewer g c = rest-done g.R.Receiver.meaning _ _ _ _ _ _ _ _ _ c.in_ok-next.ensures.next c.in-None.is
    (serves-none g.R.Receiver.meaning _ _ _ _ _ _ _ _ _ c.in-None.is c.in_ok-next.ensures.does)

pub returns-in_ok-announce-in-Some-clause-goes : goal.returns-in_ok-announce-in-Some-clause-goes
returns-in_ok-announce-in-Some-clause-goes g c = λ came. turn-goes g.R.Receiver.meaning came _ _ _ _ _ _ _ _ _ _ _ _ _ c.requires.coordinator c.kept.ensures c.members-members.ensures.sound c.in_ok-next.ensures.next
    c.in-Some.is (serves-some g.R.Receiver.meaning _ _ _ _ _ _ _ _ _ _ _ c.in-Some.is c.hold.ensures c.in_ok-next.ensures.does)
    (held-view _ _ _ _ _ _ _ c.hold.ensures c.in_ok-announce-in-Some.ensures) c.delivered-reached.ensures c.acknowledge.ensures

pub returns-in_ok-announce-in-Some-clause-fewer : goal.returns-in_ok-announce-in-Some-clause-fewer
returns-in_ok-announce-in-Some-clause-fewer g c = turn-fewer g.R.Receiver.meaning _ _ _ _ _ _ _ _ _ _ _ _ c.requires.coordinator c.kept.ensures c.members-members.ensures.sound c.in_ok-next.ensures.next
    c.in-Some.is (serves-some g.R.Receiver.meaning _ _ _ _ _ _ _ _ _ _ _ c.in-Some.is c.hold.ensures c.in_ok-next.ensures.does) c.acknowledge.ensures

pub returns-in-None-clause-does : goal.returns-in-None-clause-does
returns-in-None-clause-does g c = rest-does g.R.Receiver.meaning _ _ _ _ _ _ _ _ _ (serves-none g.R.Receiver.meaning _ _ _ _ _ _ _ _ _ c.in-None.is c.in_ok-next.ensures.does) c.in_ok-next.ensures.next c.in-None.is

pub returns-in_ok-announce-in-Some-clause-does : goal.returns-in_ok-announce-in-Some-clause-does
returns-in_ok-announce-in-Some-clause-does g c = turn-does g.R.Receiver.meaning _ _ _ _ _ _ _ _ _ _ _ _ _
    (serves-some g.R.Receiver.meaning _ _ _ _ _ _ _ _ _ _ _ c.in-Some.is c.hold.ensures c.in_ok-next.ensures.does) c.in_ok-next.ensures.next c.in-Some.is
    (held-view _ _ _ _ _ _ _ c.hold.ensures c.in_ok-announce-in-Some.ensures) c.delivered-reached.ensures c.acknowledge.ensures

pub returns-in-None-clause-settled : goal.returns-in-None-clause-settled
returns-in-None-clause-settled g c = settled-next g.R.Receiver.meaning _ _ _ _ _ _ _ _ _ c.requires.coordinator c.requires.settled c.rest-rest.ensures.kept
    c.kept.ensures.counts c.members-members.ensures.sound
    (rest-does g.R.Receiver.meaning _ _ _ _ _ _ _ _ _ (serves-none g.R.Receiver.meaning _ _ _ _ _ _ _ _ _ c.in-None.is c.in_ok-next.ensures.does) c.in_ok-next.ensures.next c.in-None.is)

pub returns-in_ok-announce-in-Some-clause-settled : goal.returns-in_ok-announce-in-Some-clause-settled
returns-in_ok-announce-in-Some-clause-settled g c = settled-next g.R.Receiver.meaning _ _ _ _ _ _ _ _ _ c.requires.coordinator c.requires.settled c.rest-rest.ensures.kept
    c.kept.ensures.counts c.members-members.ensures.sound (turn-does g.R.Receiver.meaning _ _ _ _ _ _ _ _ _ _ _ _ _
    (serves-some g.R.Receiver.meaning _ _ _ _ _ _ _ _ _ _ _ c.in-Some.is c.hold.ensures c.in_ok-next.ensures.does) c.in_ok-next.ensures.next c.in-Some.is
    (held-view _ _ _ _ _ _ _ c.hold.ensures c.in_ok-announce-in-Some.ensures) c.delivered-reached.ensures c.acknowledge.ensures)
