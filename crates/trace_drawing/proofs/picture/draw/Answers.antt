use Rattle.std.proofs.Common.{◌≡◌, ◌∙◌, ◌+◌, ◌++◌, sym, ap, length}
use Rattle.std.specs.Prelude.{flat_map}
use Rattle.std.proofs.lemmas.Result.{IfOk-weaker}
use Rattle.trace_drawing.specs.Layout.{level_of, rows_of, member_lines, aside_rows}
use Rattle.trace_drawing.specs.Marks.{x_of, y_of}
use Rattle.trace_drawing.specs.Asides.{asides_text}
use Rattle.trace_drawing.specs.Broken.{broken_text, room_for}
use Rattle.trace_drawing.specs.Picture.{line_group, event_groups, head_text, picture_of}
use Rattle.vsync_text.specs.Written.{TextModel}
use Rattle.vsync_text.proofs.TextsAppend.{appends-three, appends-four, same-text}
use Rattle.trace_drawing.proofs.TextsDrawn.{rows-length}
use Rattle.trace_drawing.proofs.picture.draw.Goals as goal

-- there is a row for each event
pub put_events-requires-clause-events : goal.put_events-requires-clause-events
put_events-requires-clause-events c = sym (rows-length (level_of c.args.asides.now) c.args.events.now) ∙ sym (ap length c.in_ok-layout.ensures.rows) ∙ sym (ap length c.as_slice-2.ensures.value)

-- the head, the lines, the events, the asides, a broken rule and the end
pub returns : goal.returns
returns c =
    let t = c.args.events.now in
    let verdict = c.args.verdict in
    let rows = c.in_ok-layout.ensures.rows in
    let lines = c.in_ok-layout.ensures.lines in
    let beside = c.in_ok-layout.ensures.asides in
    let rs = rows_of (level_of c.args.asides.now) t in
    let ls = member_lines (level_of c.args.asides.now) t in
    let bs = aside_rows rs t c.args.asides.now in
    let columns : c.in_ok-columns.columns ≡ length ls = c.in_ok-columns.ensures ∙ c.len.ensures ∙ sym c.as_slice.ensures.len ∙ ap length (c.as_slice.ensures.value ∙ lines) in
    let levels : c.in_ok-levels.levels ≡ length rs + length bs = c.in_ok-levels.ensures ∙ ap (λ n. n + c.len-3.result) (c.len-2.ensures ∙ sym c.as_slice-2.ensures.len ∙ ap length (c.as_slice-2.ensures.value ∙ rows)) ∙ ap (λ n. length rs + n) (c.len-3.ensures ∙ sym c.as_slice-3.ensures.len ∙ ap length (c.as_slice-3.ensures.value ∙ beside)) in
    let bottom : c.y_of-bottom.result ≡ y_of (length rs + length bs) = c.y_of-bottom.ensures ∙ ap y_of levels in
    let width : c.x_of.result + c.room_for.result ≡ x_of (length ls) + room_for verdict = ap (λ x. x + c.room_for.result) (c.x_of.ensures ∙ ap x_of columns) ∙ ap (λ r. x_of (length ls) + r) c.room_for.ensures in
    let head = same-text (ap (λ w. head_text w (c.y_of-bottom.result + 20)) width ∙ ap (λ y. head_text (x_of (length ls) + room_for verdict) (y + 20)) bottom) c.put_head.ensures in
    let drawn_lines = same-text (ap (λ y. flat_map (line_group y) c.as_slice.result.now) bottom ∙ ap (flat_map (line_group (y_of (length rs + length bs)))) (c.as_slice.ensures.value ∙ lines)) c.put_lines.ensures in
    let drawn_events = same-text (ap (λ xs. event_groups xs 0 xs t) (c.as_slice-2.ensures.value ∙ rows)) c.put_events.ensures in
    let drawn_asides = same-text (ap (λ xs. asides_text xs c.args.packets.now) (c.as_slice-3.ensures.value ∙ beside)) c.put_asides.ensures in
    let broken = same-text (ap (λ xs. broken_text xs t verdict) (c.as_slice-4.ensures.value ∙ rows)) c.put_broken.ensures in
    let whole = appends-three (appends-four head drawn_lines drawn_events drawn_asides) broken c.put.ensures in
    IfOk-weaker c.whole.result _ _ (λ bytes w. w.1 ∙ whole.text w.0 ∙ ap (λ (x : TextModel). x.items ++ picture_of t c.args.asides.now c.args.packets.now verdict) c.new-out.ensures) c.whole.ensures.ok
