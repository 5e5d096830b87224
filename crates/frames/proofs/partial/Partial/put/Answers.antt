use Rattle.std.proofs.Common.{rules}
use Rattle.frames.proofs.PiecesCome.{one-in}
use Rattle.frames.proofs.partial.Partial.put.Goals as goal

pub returns-in_ok-from_slice : goal.returns-in_ok-from_slice
returns-in_ok-from_slice c = λ l key node boot its x came.
    one-in l key node boot c.args.self.now.boot c.args.self.now.number c.args.self.now.pieces.items c.args.piece.now c.from-place.result c.in_ok-from_slice.field-0 (search rules) (search rules)
    its.boot_is its.number its.count x came
