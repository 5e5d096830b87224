use Rattle.std.proofs.Common.{◌+◌, ◌-◌, ◌++◌, ◌∙◌, sym, ap, append_assoc, arith}
use Rattle.std.specs.List.{range_with_len, flat_map}
use Rattle.std.proofs.lemmas.Bool.Decides.{nat_tests}
use Rattle.std.proofs.lemmas.Result.{on_ok_weaker}
use Rattle.membership.specs.HeldChunks.{bytes_at}
use Rattle.membership.proofs.Pieces.{range_next}
use Rattle.membership.proofs.held_chunks.HeldChunks.+join.Goals as goal

pub returns : goal.returns
returns t c =
    let f = bytes_at c.args.total c.args.self.now in
    let rest = flat_map f (range_with_len (c.args.first + 1) (c.args.count - 1)) in
    on_ok_weaker c.join.result (λ is. is
    ∙ ap (λ l. l ++ rest) (c.in_ok-extend_from_slice.ensures.items ∙ ap (λ l. c.args.out.now.items ++ l) c.bytes_at.ensures)
    ∙ append_assoc c.args.out.now.items (f c.args.first) rest
    ∙ ap (λ l. c.args.out.now.items ++ flat_map f l) (sym (range_next c.args.first c.args.count (grind (arith, nat_tests))))) c.join.ensures
