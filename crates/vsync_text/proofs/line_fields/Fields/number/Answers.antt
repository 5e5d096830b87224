use Rattle.std.proofs.Common.{rules}
use Rattle.address.specs.declared.limits.TheConstants.{GREATEST_NUMBER}
use Rattle.vsync_text.specs.Spelling.{number_of_text}
use Rattle.vsync_text.specs.Fronts.{number_in_front}
use Rattle.vsync_text.proofs.FieldsInFront.{number_is_front, field_read, field_goes_on, field_fails}
use Rattle.vsync_text.proofs.line_fields.Fields.number.Goals as goal

pub returns-in_default-number_in_front : goal.returns-in_default-number_in_front
returns-in_default-number_in_front c = field_fails number_of_text (number_in_front GREATEST_NUMBER) _ _ (number_is_front GREATEST_NUMBER) (search rules) c.in_default-number_in_front.ensures.reads

pub returns-in_default-left_behind : goal.returns-in_default-left_behind
returns-in_default-left_behind c =
    field_goes_on number_of_text (number_in_front GREATEST_NUMBER) _ _ _ _ (number_is_front GREATEST_NUMBER) (search rules) c.in-Some-number_in_front.ensures.reads c.in_default-left_behind.ensures

pub returns : goal.returns
returns c = field_read number_of_text (number_in_front GREATEST_NUMBER) _ _ _ _ _ (number_is_front GREATEST_NUMBER) (search rules) c.in-Some-number_in_front.ensures.reads c.in-Some-left_behind.ensures
