use Rattle.std.proofs.Common.{◌∙◌, ap}
use Rattle.std.specs.HashMap.{get}
use Rattle.address.specs.Ids.{same_address, same_view_id}
use Rattle.trace_drawing.specs.Layout.{same_message}
use Rattle.trace_drawing.proofs.RowsAndLines.{column-kept, row-kept}
use Rattle.trace_drawing.proofs.KeepKnown.{members-noted}
use Rattle.trace_drawing.proofs.known.Known.note.Goals as goal

-- the row is laid out by what is kept
pub returns-clause-row : goal.returns-clause-row
returns-clause-row c = λ at t here knows. c.in_ok-row.ensures.row ∙ row-kept at c.args.self.now.members.items (get same_address c.args.self.now.lifelines) (get same_message c.args.self.now.sends) (get same_view_id c.args.self.now.installs) t c.args.event.now
    c.origin-origin.result c.args.level c.origin-origin.ensures here knows

-- all that is kept serves one event further
pub returns-clause-known : goal.returns-clause-known
returns-clause-known c = λ at t number here knows. record {
  of_members = members-noted at c.args.self.now.members.items c.note_member.new.members.items (get same_address c.args.self.now.lifelines) (get same_address c.note_member.new.lifelines) t c.args.event.now c.args.level c.in_ok-row.row.column
      here (ap (λ r. r.column) c.in_ok-row.ensures.row ∙ column-kept at c.args.self.now.members.items (get same_address c.args.self.now.lifelines) t c.args.event.now knows.of_members)
      c.in_ok-row.ensures.members c.in_ok-row.ensures.lifelines knows.of_members;
  of_sends = (c.in_ok-note_origin.ensures t number knows.of_sends knows.of_installs).0;
  of_installs = (c.in_ok-note_origin.ensures t number knows.of_sends knows.of_installs).1;
}
