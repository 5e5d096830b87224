use Rattle.std.proofs.Common.{sym, ◌∙◌, arith, ◌<◌, length}
use Rattle.world.proofs.FirstForAddress.{first-later, first-here}
use Rattle.world.proofs.pool.Pool.first_for.Goals as goal

-- this one is for it
pub returns-then-is_for : goal.returns-then-is_for
returns-then-is_for c =
    let low : c.loop-known.known < length c.args.self.now = omega (arith, c.loop-known-test.true, c.count.ensures) in
    sym (c.loop-known.invariant ∙ first-here c.args.address c.loop-known.known c.args.self.now low (sym c.is_for.ensures ∙ c.if-is_for.true))

-- this one is not
pub loop-known-preserved : goal.loop-known-preserved
loop-known-preserved c =
    let low : c.loop-known.known < length c.args.self.now = omega (arith, c.loop-known-test.true, c.count.ensures) in
    c.loop-known.invariant ∙ first-later c.args.address c.loop-known.known c.args.self.now low (sym c.is_for.ensures ∙ c.if-is_for.false)
