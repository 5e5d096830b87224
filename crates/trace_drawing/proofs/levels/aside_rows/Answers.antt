use Rattle.trace_drawing.proofs.AsidesHaveLevels.{later-up, asides-next}
use Rattle.std.proofs.Common.{subst, sym, ◌≤◌, rules}
use Rattle.trace_drawing.proofs.levels.aside_rows.Goals as goal

-- one aside more
pub loop-count-preserved : goal.loop-count-preserved
loop-count-preserved c =
    let goes = c.later-next.ensures in
    let knows = c.in_ok-note_nodes.ensures c.loop-count.invariant.1 (subst (λ n. c.loop-count.front ≤ n) (sym goes) (later-up c.loop-count.front c.index-asides-count.result.place)) in (
      asides-next c.args.rows.now c.args.events.now c.args.asides.now c.loop-count.count c.loop-count.front c.later-next.result c.index-asides-count.result c.in_ok-aside_row.field-0
          c.loop-count.out.items c.push_reserved.new.self.items _ c.index-asides-count.is c.loop-count-test.true goes c.loop-count.invariant.0 (c.in_ok-aside_row.ensures c.args.events.now knows) c.push_reserved.ensures.items,
      knows,
      search rules,
    )
