use Rattle.std.proofs.Common.{◌≡◌, List, ℕ, [], length, Some, true, false, eqb, sym, ap, ◌∙◌}
use Rattle.wire_values.specs.Values.{Entry}
use Rattle.wire_values.specs.Reading.{list_at, rest_of}
use Rattle.wire_values.specs.Fields.{IsEntry, entry_bytes, entry_at}
use Rattle.wire_values.proofs.FieldLaws.{ok_is, entry_part}
use Rattle.wire_values.proofs.Loops.{spelled_whole, rest_no_error}
use Rattle.wire_values.proofs.entries.Items.new.Goals.{in_default-via-in-Ok+else-is_empty, in_default-via-in_default}
use Rattle.wire_values.proofs.entries.Items.new.Goals as goal

pub returns-in-Ok-clause-spelled : goal.returns-in-Ok-clause-spelled
returns-in-Ok-clause-spelled c = λ values fits count e.
    let whole = spelled_whole entry_at entry_bytes IsEntry entry_part c.args.count c.new-ahead.result values fits count (c.new-ahead.ensures ∙ e) in
    ap (λ (p : List Entry × List ℕ). Some p.0) (ok_is (c.in-Ok.items, c.items_at.new.from) (values, []) (sym c.in-Ok.ensures.gives ∙ whole))

pub returns-in_default-clause-spelled : goal.returns-in_default-clause-spelled
returns-in_default-clause-spelled c = λ values fits count e.
    let whole = spelled_whole entry_at entry_bytes IsEntry entry_part c.args.count c.new-ahead.result values fits count (c.new-ahead.ensures ∙ e) in
    elim c.in_default.branch [
      | in_default-via-in-Ok+else-is_empty w ↦ (
          let nothing : w.rest.result.now ≡ [] = w.rest.ensures ∙ ap (λ (p : List Entry × List ℕ). p.1) (ok_is (w.in-Ok.items, c.items_at.new.from) (values, []) (sym w.in-Ok.ensures.gives ∙ whole)) in
          let f : false ≡ true = w.if-is_empty.ensures ∙ ap (λ (t : List ℕ). eqb (length t) 0) nothing in
          absurd (let g : false ≡ true = f in cc))
      | in_default-via-in_default w ↦ absurd (rest_no_error (list_at entry_at c.args.count c.new-ahead.result) values w.in_default.field-0 whole (ap rest_of w.in_default.ensures.gives))
    ]
