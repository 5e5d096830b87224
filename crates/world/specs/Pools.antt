-- The packets that were put out: which of them are for an address.
use Rattle.std.specs.Prelude.{ℕ, ◌+◌, Bool, false, List, drop, Option}
use Rattle.std.specs.Option.{option_map_or}
use Rattle.std.specs.List.{position_from}
use Rattle.address.specs.Ids.{Address, same_address}
use Rattle.world_model.specs.Packets.{destination_of}

-- whether the packet that some bytes spell is for an address
abbrev pub is_destined : Address → List ℕ → Bool
is_destined p bytes = option_map_or (λ q. same_address q p) (destination_of bytes) false

-- the number of the first packet past so many that is for an address
abbrev pub first_for : Address → ℕ → List (List ℕ) → Option ℕ
first_for p past pool = position_from (is_destined p) (past + 1) (drop past pool)
