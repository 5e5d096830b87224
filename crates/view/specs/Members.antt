-- Lists of addresses, and the view as contracts see it.
use Rattle.std.specs.Prelude.{ℕ, Bool, true, Option, List, [], ◌∷◌, ◌&&◌, position, not}
use Rattle.std.specs.List.{list_any}
use Rattle.address.specs.Ids.{Address, ViewId, same_address}

-- a view: its id, and its members in order of rank
pub record View : Type 0 where
  pub id : ViewId
  pub members : List Address

-- whether an address stands in a list
abbrev pub stands_in : Address → List Address → Bool
stands_in p members = list_any (same_address p) members

-- the rank of an address in a list of members, from 0
abbrev pub rank_of : Address → List Address → Option ℕ
rank_of p members = position (same_address p) members

-- no address stands twice
abbrev pub is_distinct : List Address → Bool
is_distinct [] = true
is_distinct (p ∷ members) = not (stands_in p members) && is_distinct members
