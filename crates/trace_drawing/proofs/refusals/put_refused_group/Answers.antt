use Rattle.std.proofs.Common.{ap}
use Rattle.vsync_text.specs.Runs.{refusal_line}
use Rattle.vsync_text.proofs.TextsAppend.{appends-three, appends-four, same-text}
use Rattle.trace_drawing.proofs.refusals.put_refused_group.Goals as goal

-- the place, the title with the line that `world` prints and the ring, and why
pub returns : goal.returns
returns c = appends-four c.put_refused_place.ensures (appends-three c.put.ensures (same-text (ap (λ n. refusal_line c.args.line n) c.number.ensures) c.append_refusal.ensures) c.put-2.ensures)
    (same-text c.reason_of.ensures c.put-3.ensures) c.put-4.ensures
