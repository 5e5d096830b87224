use Rattle.std.proofs.Common.{List, subst, inl}
use Rattle.frames.specs.declared.peers.Peer.{Peer}
use Rattle.frames.specs.Taken.{StayTaken}
use Rattle.frames.proofs.StayTaken.{stay-on}
use Rattle.frames.proofs.peers.Peers.take.Goals as goal

pub returns-in-Some-clause-stay : goal.returns-in-Some-clause-stay
returns-in-Some-clause-stay c = λ boot counter was. inl (c.take_known.ensures.stay boot counter was)

pub returns-in_err-add-clause-stay : goal.returns-in_err-add-clause-stay
returns-in_err-add-clause-stay c = subst (λ (ps : List Peer). StayTaken ps c.add.new.self.peers.items) (c.take_known.ensures.same c.in_default.is) c.add.ensures.stay

pub returns-clause-stay : goal.returns-clause-stay
returns-clause-stay c =
    stay-on c.args.self.now.peers.items c.add.new.self.peers.items c.take_known-2.new.self.peers.items
    (subst (λ (ps : List Peer). StayTaken ps c.add.new.self.peers.items) (c.take_known.ensures.same c.in_default.is) c.add.ensures.stay) c.take_known-2.ensures.stay
