use Rattle.std.proofs.Common.{List, subst, sym}
use Rattle.frames.specs.declared.peers.Peer.{Peer}
use Rattle.frames.specs.Taken.{StayTaken}
use Rattle.frames.proofs.StayTaken.{stay-push, stay-same, taken-without}
use Rattle.frames.proofs.peers.Peers.add.Goals.{then-len-ge-PEERS, else-len-ge-PEERS}
use Rattle.frames.proofs.peers.Peers.add.Goals as goal

pub returns : goal.returns
returns c =
    let old : List Peer = c.args.self.now.peers.items in
    let room : StayTaken old c.if-len-ge-PEERS.self.peers.items =
    elim c.if-len-ge-PEERS.branch [
      | then-len-ge-PEERS w ↦ rw w.self-is (subst (λ (ps : List Peer). StayTaken old ps) (sym w.remove.ensures.items) (taken-without old))
      | else-len-ge-PEERS w ↦ rw w.self-is (stay-same old)
    ] in
    record { stay = subst (λ (ps : List Peer). StayTaken old ps) (sym c.in_ok-push.ensures.items) (stay-push old c.if-len-ge-PEERS.self.peers.items _ room) }

pub returns-in_err-push : goal.returns-in_err-push
returns-in_err-push c =
    let old : List Peer = c.args.self.now.peers.items in
    let room : StayTaken old c.if-len-ge-PEERS.self.peers.items =
    elim c.if-len-ge-PEERS.branch [
      | then-len-ge-PEERS w ↦ rw w.self-is (subst (λ (ps : List Peer). StayTaken old ps) (sym w.remove.ensures.items) (taken-without old))
      | else-len-ge-PEERS w ↦ rw w.self-is (stay-same old)
    ] in
    record { stay = subst (λ (ps : List Peer). StayTaken old ps) (sym c.in_err-push.ensures.items) room }
