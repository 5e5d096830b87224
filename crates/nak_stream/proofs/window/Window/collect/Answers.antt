use Rattle.std.proofs.Common.{arith, ◌≤◌}
use Rattle.nak_stream.proofs.Rings.{gone-ring}
use Rattle.nak_stream.proofs.window.Window.collect.Goals as goal

pub invariant_of-self : goal.invariant_of-self
invariant_of-self c =
    let low : c.self.inside.stable ≤ c.min-stable.result = omega arith in
    let high : c.min-stable.result ≤ c.self.inside.delivered = omega (arith, c.min-stable.ensures) in
    gone-ring _ _ _ _ _ c.self.invariant low high c.advance.ensures.full c.advance.ensures.above
