use Rattle.std.proofs.Common.{◌≡◌, ◌-◌, length, ap, sym, ◌∙◌, arith}
use Rattle.std.proofs.lemmas.Bool.Decides.{nat_tests}
use Rattle.frames.proofs.Rows.{row-length}
use Rattle.frames.proofs.row.Row.is_empty.Goals as goal

pub returns : goal.returns
returns c =
    let n : length c.args.self.now ≡ length c.self.inside.lengths.items - c.self.inside.given =
    ap length (sym c.self.view_is) ∙ row-length c.self.inside.bytes.items c.self.inside.lengths.items c.self.inside.given c.self.inside.start c.self.inside.last c.self.invariant in
    grind (arith, nat_tests, n, c.self.invariant.some, c.len.ensures)
