use Rattle.std.proofs.Common.{◌++◌, ◌∙◌, ap, append_assoc, ℕ, List}
use Rattle.byteorder.specs.Endian.{big_bytes}
use Rattle.frames.proofs.partial.put_piece.Goals as goal

pub returns-clause-items : goal.returns-clause-items
returns-clause-items c =
    let old = c.args.out.now.items in
    let number = big_bytes 8 c.args.number in
    let index = big_bytes 2 c.args.index in
    let count = big_bytes 2 c.args.count in
    let bytes = c.args.bytes.now in
    let head =
    c.put_u16-2.ensures.items ∙ ap (λ (l : List ℕ). l ++ count) (c.put_u16.ensures.items ∙ ap (λ (l : List ℕ). l ++ index) c.put_u64.ensures.items ∙ append_assoc old number index) ∙ append_assoc old (number ++ index) count in
    c.put.ensures.items ∙ ap (λ (l : List ℕ). l ++ bytes) head ∙ append_assoc old (number ++ index ++ count) bytes
