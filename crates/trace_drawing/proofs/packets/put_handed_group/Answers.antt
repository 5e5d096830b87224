use Rattle.std.proofs.Common.{◌+◌, ◌++◌, ◌∷◌, [], ap, sym, codes, append_assoc}
use Rattle.std.specs.Prelude.{flat_map, option_to_list}
use Rattle.std.specs.Fmt.{decimal}
use Rattle.trace_drawing.specs.Spelling.{mark_text, start_behind}
use Rattle.trace_drawing.specs.Marks.{x_in, y_of}
use Rattle.vsync_text.proofs.TextsAppend.{appends-two, appends-four, same-text}
use Rattle.trace_drawing.proofs.packets.put_handed_group.Goals as goal

-- the title with the script's line, the way, the number and the end
pub returns : goal.returns
returns c = λ knows. appends-four
    (same-text (ap (λ t. codes "<g><title>deliver " ++ t) (sym (append_assoc (decimal c.args.number) (10 ∷ []) (codes "</title>")))) (appends-two c.put.ensures c.put_over.ensures))
    (same-text (ap (λ o. flat_map mark_text (option_to_list o)) (c.to.ensures knows)) c.put_some_mark.ensures)
    (same-text (sym (append_assoc (start_behind (codes "<text class='j' x='") (x_in c.args.row.now.column + 11) (y_of c.args.row.now.level + 4)) (decimal c.args.number) (codes "</text>"))) (appends-two c.put_name_start.ensures c.put_over-2.ensures)) c.put-2.ensures
