use Rattle.std.proofs.Common.{◌≡◌, rules, subst, sym, Some}
use Rattle.frames.specs.Parts.{part_of}
use Rattle.frames.specs.Taken.{StayTaken, WasTaken}
use Rattle.frames.specs.declared.peers.Peers.{Peers}
use Rattle.frames.proofs.Opened.{if-ok, once-several, opens-several, several-no-piece}
use Rattle.frames.proofs.opener.Opener.open_several.Goals as goal

pub returns-clause-stands : goal.returns-clause-stands
returns-clause-stands c = λ key frame sealed l given stands.
    let is : part_of c.args.self.now.node c.args.head.now.to c.args.content.now ≡ Some c.as_slice.result.now = search rules in
    c.open_packets.ensures.stands l key frame c.args.head.now given
    (opens-several key c.args.self.now.node frame c.args.head.now c.args.content.now c.as_slice.result.now c.requires sealed is) (several-no-piece c.args.head.now.kind c.requires) stands

pub returns-clause-once : goal.returns-clause-once
returns-clause-once c = λ key frame sealed.
    let is : part_of c.args.self.now.node c.args.head.now.to c.args.content.now ≡ Some c.as_slice.result.now = search rules in
    if-ok c.open_packets.result _ (λ good yes.
    once-several key frame c.args.self.now c.open_packets.new.self c.args.head.now c.as_slice.result.now c.requires
    (opens-several key c.args.self.now.node frame c.args.head.now c.args.content.now c.as_slice.result.now c.requires sealed is) (c.in_ok-take.ensures.fresh c.if-not-branch.false)
    (subst (λ (p : Peers). WasTaken c.args.head.now.boot c.args.head.now.counter p.peers.items) (sym c.open_packets.ensures.several) (c.in_ok-take.ensures.taken c.if-not-branch.false)))

pub returns-clause-stay : goal.returns-clause-stay
returns-clause-stay c = subst (λ (p : Peers). StayTaken c.args.self.now.several.peers.items p.peers.items) (sym c.open_packets.ensures.several) c.take.ensures.stay
