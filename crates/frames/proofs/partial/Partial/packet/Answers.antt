use Rattle.std.proofs.Common.{◌≡◌, true, rules}
use Rattle.frames.specs.Arrivals.{is_whole}
use Rattle.frames.proofs.PiecesCome.{whole-in}
use Rattle.frames.proofs.partial.Partial.packet.Goals as goal

pub returns : goal.returns
returns c = λ l key node came.
    let w : is_whole c.args.self.now.pieces.items ≡ true = search rules in
    whole-in l key node c.args.self.now.boot c.args.self.now.number c.args.self.now.pieces.items c.new-bytes.result.items c.join.new.out.items c.from_vec.result came w c.new-bytes.ensures.items
    (search rules) c.from_vec.ensures
