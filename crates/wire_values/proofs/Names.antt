-- The name of a group.
use Rattle.std.proofs.Common.{◌≡◌, ◌≤◌, ℕ, true, List, length}
use Rattle.std.specs.List.{list_all}
use Rattle.std.proofs.lemmas.Bool.{le-leb}
use Rattle.address.specs.declared.limits.TheConstants.{GROUP_NAME}
use Rattle.wire_values.specs.Names.{is_name_byte, is_group_name}

-- a name of a length that was tested
pub name_is : (name : List ℕ) → 1 ≤ length name → length name ≤ GROUP_NAME → list_all is_name_byte name ≡ true → is_group_name name ≡ true
name_is name some few plain = rw (le-leb _ _ some, le-leb _ _ few) plain
