use Rattle.std.proofs.Common.{◌≡◌, ◌-◌, ◌∙◌, arith, false, nat_eq, rules, suc}
use Rattle.std.proofs.lemmas.Option.{IfSome_then}
use Rattle.byteorder.specs.Endian.{big_number}
use Rattle.frames.proofs.PartsRead.{bytes-behind}
use Rattle.frames.proofs.several.+bytes_for.Goals as goal

pub returns-clause-is : goal.returns-clause-is
returns-clause-is t c =
    let other : nat_eq (big_number 2 c.args.rows.now) c.args.node ≡ false = search rules in
    let more : c.args.count ≡ suc (c.args.count - 1) = omega (arith, c.if-count-eq0.false) in
    IfSome_then c.bytes_for.result c.bytes_for.ensures.is
    (λ b is. bytes-behind c.args.node c.args.count (c.args.count - 1) c.split_at.result.1.now c.args.rows.now more c.split_at.ensures.back other ∙ is)
