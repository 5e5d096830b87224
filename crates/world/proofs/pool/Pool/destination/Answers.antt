use Rattle.std.proofs.Common.{rules, sym, ap, ◌∙◌}
use Rattle.std.specs.Option.{option_copied}
use Rattle.world.proofs.PoolDestinations.{destination-at, found-at}
use Rattle.world.proofs.pool.Pool.destination.Goals as goal

-- so many were not put out
pub returns-in_err-destination : goal.returns-in_err-destination
returns-in_err-destination c =
    let found = sym (ap option_copied c.in_err-destination.was) ∙ found-at c.get.result _ _ c.get.ensures.lookup.3 in
    let kept = destination-at c.self.inside.packets.items c.self.inside.destinations.items c.in_ok-index.index c.self.invariant in
    search rules

pub returns : goal.returns
returns c =
    let found = sym (ap option_copied c.in_ok-destination.was) ∙ found-at c.get.result _ _ c.get.ensures.lookup.3 in
    let kept = destination-at c.self.inside.packets.items c.self.inside.destinations.items c.in_ok-index.index c.self.invariant in
    search rules
