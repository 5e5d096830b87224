use Rattle.std.proofs.Common.{◌≡◌, ℕ, arith, subst}
use Rattle.nak_stream.specs.Windows.{held_above}
use Rattle.nak_stream.specs.Rings.{numbered}
use Rattle.nak_stream.proofs.Rings.{none-gone, one-gone}
use Rattle.nak_stream.proofs.window.advance.Goals as goal

pub loop-gone-init : goal.loop-gone-init
loop-gone-init c = none-gone _ _ c.requires.full

pub loop-gone-preserved : goal.loop-gone-preserved
loop-gone-preserved c = one-gone _ _ _ _ _ _ c.loop-gone.invariant c.loop-gone.auto.gone c.pop_front-first.ensures.items c.push_back-none.ensures.items

pub returns-clause-full : goal.returns-clause-full
returns-clause-full c = c.loop-gone.invariant.full

pub returns-clause-above : goal.returns-clause-above
returns-clause-above c =
    let n : c.loop-gone.gone ≡ c.args.to = omega (arith, c.loop-gone.auto.gone-end c.requires.order) in
    subst (λ (k : ℕ). numbered k c.loop-gone.slots.items ≡ held_above k (numbered c.args.stable c.args.slots.now.items)) n c.loop-gone.invariant.above
