-- The name of a group: letters, digits, '-' and '_', as many as a name may have.
use Rattle.std.specs.Prelude.{ℕ, Bool, List, length, nat_le, ◌==◌, ◌&&◌, ◌||◌}
use Rattle.std.specs.List.{list_all}
use Rattle.address.specs.declared.limits.TheConstants.{GROUP_NAME}

-- letters, digits, '-' and '_'
abbrev pub is_name_byte : ℕ → Bool
is_name_byte b =
    (nat_le 97 b && nat_le b 122) || (nat_le 65 b && nat_le b 90) || (nat_le 48 b && nat_le b 57) || b == 45 || b == 95

abbrev pub is_group_name : List ℕ → Bool
is_group_name name = nat_le 1 (length name) && nat_le (length name) GROUP_NAME && list_all is_name_byte name
