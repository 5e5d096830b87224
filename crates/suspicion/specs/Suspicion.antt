-- The suspected addresses, and what follows for the members of a view.
use Rattle.std.specs.Prelude.{Bool, false, not, List, [], ◌∷◌, ◌++◌, filter, take, if◌then◌else◌}
use Rattle.std.specs.List.{list_all}
use Rattle.std.specs.Option.{option_map_or}
use Rattle.address.specs.Ids.{Address}
use Rattle.view.specs.Members.{stands_in, rank_of}

-- the suspects with one more, who stands once
abbrev pub suspected_too : Address → List Address → List Address
suspected_too p suspects = if stands_in p suspects then suspects else suspects ++ p ∷ []

-- whether p is a member and every member before it is suspected
abbrev pub leads : List Address → List Address → Address → Bool
leads suspects members p = option_map_or (λ rank. list_all (λ m. stands_in m suspects) (take rank members)) (rank_of p members) false

-- the members that are not suspected, by rank
abbrev pub survivors_of : List Address → List Address → List Address
survivors_of suspects members = filter (λ m. not (stands_in m suspects)) members
