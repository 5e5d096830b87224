use Rattle.std.proofs.Common.{◌≡◌}
use Rattle.std.specs.Option.{option_copied}
use Rattle.vsync_text.specs.AddressText.{address_of_text}
use Rattle.vsync_text.specs.Forms.{parts_of, parts_left, left_len, each_of}
use Rattle.vsync_text.proofs.ListsAreRead.{with_front}
use Rattle.vsync_text.proofs.forms.addresses_in.Given as goal

-- the addresses so far go on with the parts that are left
abbrev pub invariant-loop-part : goal.invariant-loop-part
invariant-loop-part l =
    each_of address_of_text (parts_of l.field) ≡ with_front l.addresses.items (each_of address_of_text (parts_left (option_copied l.left)))

abbrev pub decreases-loop-part : goal.decreases-loop-part
decreases-loop-part l = left_len (option_copied l.left)
