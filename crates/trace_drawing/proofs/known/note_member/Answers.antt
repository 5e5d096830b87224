use Rattle.std.proofs.Common.{◌∙◌, ap, sym, cond, length, None, Some, rules}
use Rattle.std.specs.HashMap.{get}
use Rattle.address.specs.Ids.{same_address}
use Rattle.trace_drawing.specs.Known.{lifeline_after, row_after}
use Rattle.trace_drawing.proofs.KeepKnown.{noted-of}
use Rattle.trace_drawing.proofs.known.note_member.Goals as goal

-- the row of a member of which something is kept
pub returns-in-Some-clause-row : goal.returns-in-Some-clause-row
returns-in-Some-clause-row c =
    c.row_after.ensures (length c.args.members.now.items)
    ∙ ap (λ o. row_after o (length c.args.members.now.items) c.args.level c.args.origin) (c.in-Some.ensures.value ∙ ap (get same_address c.args.lifelines.now) c.member-member.ensures)

-- what is kept of it
pub returns-in-Some-clause-lifelines : goal.returns-in-Some-clause-lifelines
returns-in-Some-clause-lifelines c = noted-of (get same_address c.args.lifelines.now) (get same_address (c.get_mut.follows.lender c.lifeline_after.result)) c.args.event.now c.member-member.result (Some c.in-Some.kept.now) c.lifeline_after.result c.args.level c.row_after.result.column
    c.member-member.ensures c.in-Some.ensures.value (c.lifeline_after.ensures ∙ ap (λ k. lifeline_after (Some c.in-Some.kept.now) k c.args.level c.args.event.now) (ap (λ r. r.column) (sym (c.row_after.ensures 0)))) (search rules)

-- what is kept of another
pub returns-clause-lifelines : goal.returns-clause-lifelines
returns-clause-lifelines c = noted-of (get same_address c.args.lifelines.now) (get same_address c.insert.new.self) c.args.event.now c.member-member.result None c.lifeline_after-2.result c.args.level c.in-Ok.column
    c.member-member.ensures c.in_default.ensures.value c.lifeline_after-2.ensures
    (λ q. c.in_ok-insert.ensures.updates.0 q ∙ ap (λ o. cond (same_address c.member-member.result q) (Some c.lifeline_after-2.result) o) (search rules))
