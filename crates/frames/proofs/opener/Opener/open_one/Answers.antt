use Rattle.std.proofs.Common.{◌≡◌, ℕ, Bool, true, false, not, refl, subst, sym}
use Rattle.std.specs.Prelude.{nat_eq}
use Rattle.std.proofs.lemmas.Bool.{eqb-true}
use Rattle.frames.specs.Taken.{StayTaken, WasTaken}
use Rattle.frames.specs.declared.peers.Peers.{Peers}
use Rattle.frames.proofs.Opened.{if-ok, once-one, opens-one, packets-no-piece}
use Rattle.frames.proofs.opener.Opener.open_one.Goals as goal

-- a test for another node that fails
same : (a b : ℕ) → false ≡ not (nat_eq a b) → a ≡ b
same a b e = eqb-true a b (yes (nat_eq a b) e)
  where
    yes : (x : Bool) → false ≡ not x → x ≡ true
    yes true e = refl
    yes false e = e

pub returns-in-Packets-clause-stands : goal.returns-in-Packets-clause-stands
returns-in-Packets-clause-stands c = λ key frame sealed l given stands.
    let to : c.args.head.now.to ≡ c.args.self.now.node = same c.args.head.now.to c.args.self.now.node c.if-ne.ensures in
    c.open_packets.ensures.stands l key frame c.args.head.now given (opens-one key c.args.self.now.node frame c.args.head.now c.args.content.now c.requires sealed to) (packets-no-piece c.args.head.now.kind c.in-Packets.is) stands

pub returns-in-Packets-clause-once : goal.returns-in-Packets-clause-once
returns-in-Packets-clause-once c = λ key frame sealed.
    let to : c.args.head.now.to ≡ c.args.self.now.node = same c.args.head.now.to c.args.self.now.node c.if-ne.ensures in
    if-ok c.open_packets.result _ (λ good yes.
    once-one key frame c.args.self.now c.open_packets.new.self c.args.head.now c.args.content.now c.requires
    (opens-one key c.args.self.now.node frame c.args.head.now c.args.content.now c.requires sealed to) (c.in_ok-take.ensures.fresh c.if-not-branch.false)
    (subst (λ (p : Peers). WasTaken c.args.head.now.boot c.args.head.now.counter p.peers.items) (sym c.open_packets.ensures.peers) (c.in_ok-take.ensures.taken c.if-not-branch.false)))

pub returns-in-Packets-clause-stay : goal.returns-in-Packets-clause-stay
returns-in-Packets-clause-stay c = subst (λ (p : Peers). StayTaken c.args.self.now.peers.peers.items p.peers.items) (sym c.open_packets.ensures.peers) c.take.ensures.stay

pub returns-in-Piece-clause-stands : goal.returns-in-Piece-clause-stands
returns-in-Piece-clause-stands c = λ key frame sealed l given stands.
    let to : c.args.head.now.to ≡ c.args.self.now.node = same c.args.head.now.to c.args.self.now.node c.if-ne.ensures in
    c.open_piece.ensures.stands l key frame c.args.head.now given (opens-one key c.args.self.now.node frame c.args.head.now c.args.content.now c.requires sealed to) c.in-Piece.is refl stands

pub returns-in-Piece-clause-once : goal.returns-in-Piece-clause-once
returns-in-Piece-clause-once c = λ key frame sealed.
    let to : c.args.head.now.to ≡ c.args.self.now.node = same c.args.head.now.to c.args.self.now.node c.if-ne.ensures in
    if-ok c.open_piece.result _ (λ good yes.
    once-one key frame c.args.self.now c.open_piece.new.self c.args.head.now c.args.content.now c.requires
    (opens-one key c.args.self.now.node frame c.args.head.now c.args.content.now c.requires sealed to) (c.in_ok-take.ensures.fresh c.if-not-branch.false)
    (subst (λ (p : Peers). WasTaken c.args.head.now.boot c.args.head.now.counter p.peers.items) (sym c.open_piece.ensures.peers) (c.in_ok-take.ensures.taken c.if-not-branch.false)))

pub returns-in-Piece-clause-stay : goal.returns-in-Piece-clause-stay
returns-in-Piece-clause-stay c = subst (λ (p : Peers). StayTaken c.args.self.now.peers.peers.items p.peers.items) (sym c.open_piece.ensures.peers) c.take.ensures.stay
