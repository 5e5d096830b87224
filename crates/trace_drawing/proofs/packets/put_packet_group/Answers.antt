use Rattle.std.proofs.Common.{◌∙◌, ◌++◌, ap}
use Rattle.std.specs.Prelude.{flat_map, option_to_list}
use Rattle.trace_drawing.specs.declared.marks.Mark.TheVariants as marks
use Rattle.trace_drawing.specs.Spelling.{mark_text}
use Rattle.trace_drawing.specs.Packets.{packet_name}
use Rattle.vsync_text.proofs.TextsAppend.{appends-two, appends-four, same-text}
use Rattle.trace_drawing.proofs.packets.put_packet_group.Goals as goal

-- the title, the marks, the name and the end
pub returns : goal.returns
returns c = λ rows knows. (let drawn = appends-two (same-text (ap (λ p. mark_text (marks.Packet p)) c.aside_place.ensures) c.put_mark.ensures)
    (same-text (ap (λ o. flat_map mark_text (option_to_list o)) (c.lost.ensures rows knows)) c.put_some_mark.ensures) in
    appends-four c.put_packet_start-kind.ensures.text drawn
    (record {
      whole = c.put_packet_name.ensures.whole;
      text = λ e. c.put_packet_name.ensures.text e ∙ ap (λ k. c.put_some_mark.new.out.items ++ packet_name c.args.row.now c.args.number k) (c.put_packet_start-kind.ensures.kind (drawn.whole (c.put_packet_name.ensures.whole e)));
    }) c.put.ensures)
