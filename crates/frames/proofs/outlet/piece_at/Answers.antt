use Rattle.std.proofs.Common.{◌∙◌, ◌*◌, ap, drop, ℕ}
use Rattle.frames.proofs.SendsCarried.{all-of}
use Rattle.frames.proofs.outlet.piece_at.Goals as goal

pub returns-then-left-le-PIECE-clause-piece : goal.returns-then-left-le-PIECE-clause-piece
returns-then-left-le-PIECE-clause-piece c =
    all-of c.split_at.result.1.now (1344 * c.args.index) c.args.packet.now (c.split_at.ensures.back ∙ ap (λ (m : ℕ). drop (1344 * m) c.args.packet.now) c.from.ensures)
    c.if-left-le-PIECE.true
