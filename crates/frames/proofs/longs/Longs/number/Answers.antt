use Rattle.std.proofs.Common.{◌≡◌, ◌∙◌, ap, arith, List, ℕ}
use Rattle.frames.specs.declared.longs.Long.{Long}
use Rattle.frames.specs.Longs.{number_for, number_in}
use Rattle.frames.proofs.longs.Longs.number.Goals as goal

pub returns-clause-known : goal.returns-clause-known
returns-clause-known c = λ long known numbered.
    let n : ℕ = c.number_in-number.result in
    let is : n ≡ number_for c.args.packet.now c.args.self.now =
    c.number_in-number.ensures.number ∙ ap (λ (k : List Long). number_in c.args.packet.now c.args.self.now.next k) c.as_slice.ensures.value in
    let next : c.args.self.now.next ≡ n = omega (arith, c.number_in-number.ensures.within, c.if-number-self.false) in
    c.in_ok-keep.ensures.known long known (ap long (next ∙ is) ∙ numbered (omega (arith, is)))
