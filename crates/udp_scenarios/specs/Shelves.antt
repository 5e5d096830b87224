-- What a machine keeps of the nets that were given back to it.
use Rattle.std.specs.Prelude.{Bool, List}
use Rattle.udp_scenarios.specs.declared.shelf.Returned.{Returned}

-- the nets, in order, and whether it has all of them
pub record ShelfModel : Type 0 where
  pub returned : List Returned
  pub is_whole : Bool
