use Rattle.std.proofs.Common.{◌≡◌, List, ℕ, [], length, Some, true, false, eqb, refl, sym, ap, ◌∙◌}
use Rattle.wire_values.specs.Reading.{rest_of, list_at, listed, is_whole}
use Rattle.wire_values.specs.Fields.{IsPlaced, placed_bytes, placed_at}
use Rattle.wire_values.proofs.FieldLaws.{placed_part}
use Rattle.wire_values.proofs.Loops.{list_goes_on, list_ends, list_is_done, whole_ok, rest_ok, spelled_whole, rest_nothing, rest_no_error}
use Rattle.wire_values.proofs.entries.Held.new.Goals as goal

pub loop-preserved : goal.loop-preserved
loop-preserved c = list_goes_on placed_at c.args.count c.loop.counter c.loop.ahead c.in-Ok.field-0 c.placed_at.new.from (rest_of (list_at placed_at c.args.count c.args.bytes.now)) c.loop-test.true c.in-Ok.ensures c.loop.invariant

pub returns-in_default-clause-read : goal.returns-in_default-clause-read
returns-in_default-clause-read c = λ whole. rest_no_error (list_at placed_at c.args.count c.args.bytes.now) (listed (list_at placed_at c.args.count c.args.bytes.now)) c.in_default.field-0 (whole_ok (list_at placed_at c.args.count c.args.bytes.now) whole) (list_ends placed_at c.args.count c.loop.counter c.loop.ahead c.in_default.field-0 (rest_of (list_at placed_at c.args.count c.args.bytes.now)) c.loop-test.true c.in_default.ensures c.loop.invariant)

pub returns-in_default-clause-spelled : goal.returns-in_default-clause-spelled
returns-in_default-clause-spelled c = λ values fits count e. absurd (rest_no_error (list_at placed_at c.args.count c.args.bytes.now) values c.in_default.field-0 (spelled_whole placed_at placed_bytes IsPlaced placed_part c.args.count c.args.bytes.now values fits count e) (list_ends placed_at c.args.count c.loop.counter c.loop.ahead c.in_default.field-0 (rest_of (list_at placed_at c.args.count c.args.bytes.now)) c.loop-test.true c.in_default.ensures c.loop.invariant))

pub returns-then-not-is_empty-clause-read : goal.returns-then-not-is_empty-clause-read
returns-then-not-is_empty-clause-read c = λ whole.
    let nothing : c.rest.result.now ≡ [] = c.rest.ensures ∙ rest_nothing (list_at placed_at c.args.count c.args.bytes.now) (listed (list_at placed_at c.args.count c.args.bytes.now)) c.loop.ahead (whole_ok (list_at placed_at c.args.count c.args.bytes.now) whole) (list_is_done placed_at c.args.count c.loop.counter c.loop.ahead (rest_of (list_at placed_at c.args.count c.args.bytes.now)) c.loop-test.false c.loop.invariant) in
    let f : false ≡ true = c.if-not-is_empty.ensures ∙ ap (λ (t : List ℕ). eqb (length t) 0) nothing in
    let g : false ≡ true = f in cc

pub returns-then-not-is_empty-clause-spelled : goal.returns-then-not-is_empty-clause-spelled
returns-then-not-is_empty-clause-spelled c = λ values fits count e.
    let nothing : c.rest.result.now ≡ [] = c.rest.ensures ∙ rest_nothing (list_at placed_at c.args.count c.args.bytes.now) values c.loop.ahead (spelled_whole placed_at placed_bytes IsPlaced placed_part c.args.count c.args.bytes.now values fits count e) (list_is_done placed_at c.args.count c.loop.counter c.loop.ahead (rest_of (list_at placed_at c.args.count c.args.bytes.now)) c.loop-test.false c.loop.invariant) in
    let f : false ≡ true = c.if-not-is_empty.ensures ∙ ap (λ (t : List ℕ). eqb (length t) 0) nothing in
    absurd (let g : false ≡ true = f in cc)

pub invariant_of-result : goal.invariant_of-result
invariant_of-result c = ap is_whole (rest_ok (list_at placed_at c.args.count c.args.bytes.now) c.loop.ahead (list_is_done placed_at c.args.count c.loop.counter c.loop.ahead (rest_of (list_at placed_at c.args.count c.args.bytes.now)) c.loop-test.false c.loop.invariant)).1 ∙ ap (λ (t : List ℕ). eqb (length t) 0) (sym c.rest.ensures) ∙ sym c.if-not-is_empty.ensures

pub returns-clause-read : goal.returns-clause-read
returns-clause-read c = (ap is_whole (rest_ok (list_at placed_at c.args.count c.args.bytes.now) c.loop.ahead (list_is_done placed_at c.args.count c.loop.counter c.loop.ahead (rest_of (list_at placed_at c.args.count c.args.bytes.now)) c.loop-test.false c.loop.invariant)).1 ∙ ap (λ (t : List ℕ). eqb (length t) 0) (sym c.rest.ensures) ∙ sym c.if-not-is_empty.ensures, refl)

pub returns-clause-spelled : goal.returns-clause-spelled
returns-clause-spelled c = λ values fits count e. ap (λ r. Some (listed r)) (spelled_whole placed_at placed_bytes IsPlaced placed_part c.args.count c.args.bytes.now values fits count e)
