use Rattle.std.proofs.Common.{◌≡◌, ◌-◌, length}
use Rattle.world.specs.Pools.{first_for}
use Rattle.world.proofs.pool.Pool.first_for.Given as goal

-- none so far is for it
abbrev pub invariant-loop-known : goal.invariant-loop-known
invariant-loop-known l = first_for l.fn.address l.fn.past l.fn.self ≡ first_for l.fn.address l.known l.fn.self

abbrev pub decreases-loop-known : goal.decreases-loop-known
decreases-loop-known l = length l.fn.self - l.known
