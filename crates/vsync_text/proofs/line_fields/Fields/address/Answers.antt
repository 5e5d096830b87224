use Rattle.std.proofs.Common.{rules}
use Rattle.vsync_text.specs.AddressText.{address_of_text}
use Rattle.vsync_text.specs.Fronts.{address_in_front}
use Rattle.vsync_text.proofs.FieldsInFront.{address_is_front, address_read, address_goes_on, field_fails}
use Rattle.vsync_text.proofs.line_fields.Fields.address.Goals as goal

pub returns-in_default-address_in_front : goal.returns-in_default-address_in_front
returns-in_default-address_in_front c = field_fails address_of_text address_in_front _ _ address_is_front (search rules) c.in_default-address_in_front.ensures

pub returns-in_default-left_behind : goal.returns-in_default-left_behind
returns-in_default-left_behind c = search (rules, address_goes_on)

pub returns : goal.returns
returns c = search (rules, address_read)
