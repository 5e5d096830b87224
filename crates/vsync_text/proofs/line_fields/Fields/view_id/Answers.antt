use Rattle.std.proofs.Common.{rules}
use Rattle.vsync_text.specs.Spelling.{view_id_of_text}
use Rattle.vsync_text.specs.Fronts.{view_id_in_front}
use Rattle.vsync_text.proofs.FieldsInFront.{view_id_is_front, view_id_read, view_id_goes_on, field_fails}
use Rattle.vsync_text.proofs.line_fields.Fields.view_id.Goals as goal

pub returns-in_default-view_id_in_front : goal.returns-in_default-view_id_in_front
returns-in_default-view_id_in_front c = field_fails view_id_of_text view_id_in_front _ _ view_id_is_front (search rules) c.in_default-view_id_in_front.ensures

pub returns-in_default-left_behind : goal.returns-in_default-left_behind
returns-in_default-left_behind c = search (rules, view_id_goes_on)

pub returns : goal.returns
returns c = search (rules, view_id_read)
