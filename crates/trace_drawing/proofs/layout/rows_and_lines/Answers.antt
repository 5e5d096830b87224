use Rattle.std.proofs.Common.{◌∙◌, take, ap, subst, List, arith, rules}
use Rattle.std.specs.HashMap.{get}
use Rattle.std.proofs.lemmas.List.{take_all}
use Rattle.trace_props.specs.declared.event.Event.{Event}
use Rattle.address.specs.Ids.{same_address, same_view_id}
use Rattle.trace_drawing.specs.Layout.{same_message, level_of, rows_of}
use Rattle.trace_drawing.specs.Known.{Knows}
use Rattle.trace_drawing.proofs.RowsAndLines.{rows-next, known-next}
use Rattle.trace_drawing.proofs.AsidesHaveLevels.{level-here, above-grows}
use Rattle.trace_drawing.proofs.layout.rows_and_lines.Goals as goal

-- nothing is laid out, and no aside is passed
pub loop-index-init : goal.loop-index-init
loop-index-init c = (c.in_ok-rows.ensures.items, c.new-known.ensures (level_of c.args.asides.now), omega arith, search rules)

-- one row more
pub loop-index-preserved : goal.loop-index-preserved
loop-index-preserved c =
    let at = level_of c.args.asides.now in
    let past = take c.loop-index.index c.args.events.now in
    let here = level-here c.args.asides.now c.args.events.now c.loop-index.index c.above-passed.result c.loop-index-test.true c.above-passed.ensures.is in
    let is = c.in_ok-note.ensures.row at past here c.loop-index.invariant.1 in (
      rows-next at c.args.events.now c.loop-index.index c.index-events-index.result c.loop-index.rows.items c.push_reserved.new.self.items c.in_ok-note.field-0 c.index-events-index.is c.loop-index-test.true c.loop-index.invariant.0 is c.push_reserved.ensures.items,
      known-next c.args.events.now c.loop-index.index c.index-events-index.result
          (λ t. Knows at c.note.new.self.members.items (get same_address c.note.new.self.lifelines) (get same_message c.note.new.self.sends) (get same_view_id c.note.new.self.installs) t)
          c.index-events-index.is c.loop-index-test.true
          (λ number. c.in_ok-note.ensures.known at past number here c.loop-index.invariant.1),
      omega (arith, c.above-passed.ensures.is, above-grows c.args.asides.now c.loop-index.index),
      search rules,
    )

-- all rows, and the lines of all members
pub returns-clause-rows : goal.returns-clause-rows
returns-clause-rows c =
    c.loop-index.invariant.0 ∙ ap (rows_of (level_of c.args.asides.now)) (take_all c.loop-index.index c.args.events.now (omega (arith, c.loop-index-test.false)))

pub returns-clause-lines : goal.returns-clause-lines
returns-clause-lines c =
    let at = level_of c.args.asides.now in
    let known = c.loop-index.known in
    c.in_ok-lines.ensures at c.args.events.now
    (subst (λ (t : List Event). Knows at known.members.items (get same_address known.lifelines) (get same_message known.sends) (get same_view_id known.installs) t)
    (take_all c.loop-index.index c.args.events.now (omega (arith, c.loop-index-test.false))) c.loop-index.invariant.1)
