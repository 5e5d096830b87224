use Rattle.std.proofs.Common.{◌≤◌, ap, arith}
use Rattle.trace_drawing.specs.Layout.{above}
use Rattle.trace_drawing.proofs.AsidesHaveLevels.{above-within, above-stops, above-goes}
use Rattle.trace_drawing.proofs.levels.above.Goals as goal

-- the next one has a later place
pub returns-then-number-asides-clause-is : goal.returns-then-number-asides-clause-is
returns-then-number-asides-clause-is c =
    let so_far : c.loop-count.count ≤ above c.args.asides.now c.args.number = c.loop-count.invariant in
    omega (
      arith,
      so_far,
      above-stops c.args.asides.now c.args.number c.loop-count.count c.index-asides-count.result c.index-asides-count.is c.loop-count-test.true
          (omega (arith, c.if-number-asides.true, ap (λ x. x.place) c.index-asides-count.is)),
    )

-- the next one has none
pub loop-count-preserved : goal.loop-count-preserved
loop-count-preserved c =
    above-goes c.args.asides.now c.args.number c.loop-count.count c.index-asides-count.result c.index-asides-count.is c.loop-count-test.true
    (omega (arith, c.if-number-asides.false, ap (λ x. x.place) c.index-asides-count.is)) c.loop-count.invariant

-- there is no other
pub returns-clause-is : goal.returns-clause-is
returns-clause-is c =
    let so_far : c.loop-count.count ≤ above c.args.asides.now c.args.number = c.loop-count.invariant in
    omega (arith, so_far, c.loop-count-test.false, above-within c.args.asides.now c.args.number)
