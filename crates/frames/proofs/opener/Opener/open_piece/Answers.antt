use Rattle.std.proofs.Common.{List, [], ◌∷◌, ◌++◌, ◌∙◌, ℕ, Option, ap, subst, sym}
use Rattle.std.specs.Prelude.{IfSome}
use Rattle.frames.specs.Arrivals.{ArrivedInPieces, GivenIn}
use Rattle.frames.specs.Openers.{AllArrived}
use Rattle.frames.proofs.Opened.{piece-comes, packet-comes}
use Rattle.frames.proofs.opener.Opener.open_piece.Goals as goal

pub returns-in_ok-push-clause-stands : goal.returns-in_ok-push-clause-stands
returns-in_ok-push-clause-stands c = λ l key frame h g o kind b stands.
    let node = c.args.self.now.node in
    let x = piece-comes l key node frame h c.args.content.now c.args.boot.now c.in-Some.piece g o kind b c.in-Some.ensures in
    let packet : ArrivedInPieces (GivenIn l) key node c.in-Some-2.packet =
    subst (λ (p : Option (List ℕ)). IfSome p (ArrivedInPieces (GivenIn l) key node)) c.in-Some-2.is (c.in_ok-packet.ensures.whole l key node x stands.0) in (
      c.take.ensures.parts l key node x stands.0,
      subst (λ (xs : List (List ℕ)). AllArrived l key node xs) (sym (c.in_ok-push.ensures.ok ∙ ap (λ (p : List ℕ). c.args.self.now.opened ++ p ∷ []) c.as_slice.ensures)) (packet-comes l key node c.args.self.now.opened c.in-Some-2.packet stands.1 packet),
    )

pub returns-in_default-2-clause-stands : goal.returns-in_default-2-clause-stands
returns-in_default-2-clause-stands c = λ l key frame h g o kind b stands.
    (c.take.ensures.parts l key c.args.self.now.node (piece-comes l key c.args.self.now.node frame h c.args.content.now c.args.boot.now c.in-Some.piece g o kind b c.in-Some.ensures) stands.0, stands.1)

pub returns-in_err-packet-clause-stands : goal.returns-in_err-packet-clause-stands
returns-in_err-packet-clause-stands c = λ l key frame h g o kind b stands.
    (c.take.ensures.parts l key c.args.self.now.node (piece-comes l key c.args.self.now.node frame h c.args.content.now c.args.boot.now c.in-Some.piece g o kind b c.in-Some.ensures) stands.0, stands.1)

pub returns-in_err-push-clause-stands : goal.returns-in_err-push-clause-stands
returns-in_err-push-clause-stands c = λ l key frame h g o kind b stands. (
  c.take.ensures.parts l key c.args.self.now.node (piece-comes l key c.args.self.now.node frame h c.args.content.now c.args.boot.now c.in-Some.piece g o kind b c.in-Some.ensures) stands.0,
  subst (λ (xs : List (List ℕ)). AllArrived l key c.args.self.now.node xs) (sym c.in_err-push.ensures.err) stands.1,
)
