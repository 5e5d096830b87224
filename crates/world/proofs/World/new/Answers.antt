use Rattle.std.proofs.Common.{[]}
use Rattle.world.specs.Worlds.Runs.{Still}
use Rattle.world.proofs.World.new.Goals as goal

-- nothing happened, and no node is kept
pub invariant_of-result : goal.invariant_of-result
invariant_of-result g c =
    rw (c.new-2.ensures.items, c.new-3.ensures.items, c.new-4.ensures, c.new-5.ensures, c.new.ensures.empty) (record { events = []; runs = Still })
