-- Which lists of members are views of an id.
use Rattle.std.specs.Prelude.{ℕ, Bool, List, Option, None, Some, length, slice_get, nat_lt, nat_eq, if◌then◌else◌, not}
use Rattle.std.specs.Option.{option_map_or}
use Rattle.address.specs.Ids.{Address, ViewId, same_address}
use Rattle.view.specs.Members.{is_distinct}
use Rattle.view.specs.declared.ViewError.{ViewError}
use Rattle.view.specs.declared.ViewError.TheVariants.{Empty, TooMany, Repeated, NotFirst}
use Rattle.address.specs.declared.limits.TheConstants.{MEMBERS}
use Rattle.std.specs.Prelude.{false}

-- whether a list begins with an address
abbrev pub begins_with : Address → List Address → Bool
begins_with p members = option_map_or (same_address p) (slice_get members 0) false

-- why a list of members is no view of an id: the first of these that applies
abbrev pub view_refusal : ViewId → List Address → Option ViewError
view_refusal id members =
    if nat_eq (length members) 0 then Some Empty
    else if nat_lt MEMBERS (length members) then Some TooMany
    else if not (is_distinct members) then Some Repeated
    else if not (begins_with id.creator members) then Some NotFirst
    else None

abbrev pub error_number : ViewError → ℕ
error_number Empty = 30
error_number TooMany = 31
error_number Repeated = 32
error_number NotFirst = 33
