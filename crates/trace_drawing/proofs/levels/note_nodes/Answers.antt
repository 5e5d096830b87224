use Rattle.std.proofs.Common.{◌∙◌, ap, cond, Some, nat_eq, take, rules}
use Rattle.std.specs.HashMap.{get}
use Rattle.trace_drawing.specs.Layout.{happens_at}
use Rattle.trace_drawing.specs.Known.{KnowsNodes}
use Rattle.trace_drawing.proofs.KeepKnown.{lasts-noted}
use Rattle.trace_drawing.proofs.RowsAndLines.{known-next}
use Rattle.trace_drawing.proofs.levels.note_nodes.Goals as goal

-- the last event of the next one's node is the next one
pub loop-number-preserved : goal.loop-number-preserved
loop-number-preserved c = λ was. known-next c.args.events.now c.loop-number.number c.index-events-number.result (λ t. KnowsNodes (get nat_eq c.put_row.new.table) t) c.index-events-number.is (search rules)
    (λ at. lasts-noted happens_at (get nat_eq c.loop-number.nodes) (get nat_eq c.put_row.new.table) (take c.loop-number.number c.args.events.now) c.index-events-number.result c.loop-number.number at
    (λ q. c.in_ok-put_row.ensures q ∙ ap (λ x. cond (nat_eq x q) (Some c.loop-number.number) (get nat_eq c.loop-number.nodes q)) (c.node.ensures ∙ ap (λ a. a.node) c.member.ensures)) (c.loop-number.invariant was))
