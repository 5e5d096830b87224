-- Addresses as a text spells them.
use Rattle.std.specs.Prelude.{ℕ, List, Option, None, Some, option_and_then}
use Rattle.address.specs.Ids.{Address}
use Rattle.vsync_text.specs.Lines.{before_byte, behind_byte}
use Rattle.vsync_text.specs.Numbers.{number_in}
use Rattle.address.specs.declared.limits.TheConstants.{GREATEST_INCARNATION, GREATEST_NODE}

-- the address of a node and an incarnation, if both are there
abbrev pub address_from : Option ℕ → Option ℕ → Option Address
address_from None incarnation = None
address_from (Some node) None = None
address_from (Some node) (Some incarnation) = Some (record { node = node; incarnation = incarnation })

-- the address that a text spells, if it spells one: `N.I`
abbrev pub address_of_text : List ℕ → Option Address
address_of_text text =
    address_from (number_in 1 GREATEST_NODE (before_byte 46 text)) (option_and_then (number_in 1 GREATEST_INCARNATION) (behind_byte 46 text))
