use Rattle.std.proofs.Common.{◌-◌, length, take, refl}
use Rattle.std.proofs.lemmas.Result.{err_from_is_err_and}
use Rattle.wire_values.specs.Reading.{list_at, rest_of}
use Rattle.wire_values.specs.Fields.{IsEntry, entry_bytes, entry_at}
use Rattle.wire_values.proofs.FieldLaws.{entry_part}
use Rattle.wire_values.proofs.Loops.{list_goes_on, list_ends, rest_err, list_passed}
use Rattle.wire_values.proofs.entries.items_at.Goals as goal

pub returns-in_err-entry_at-clause-gives : goal.returns-in_err-entry_at-clause-gives
returns-in_err-entry_at-clause-gives c =
    let p = err_from_is_err_and c.from_residual.result c.from_residual.ensures.1 in
    rw (p.1, p.2) (rest_err (list_at entry_at c.args.count c.args.from.now) c.in_err-entry_at.field-0.0 (list_ends entry_at c.args.count c.loop.counter c.loop.from c.in_err-entry_at.field-0.0 (rest_of (list_at entry_at c.args.count c.args.from.now)) c.loop-test.true c.in_err-entry_at.ensures c.loop.invariant.read))

pub loop-preserved : goal.loop-preserved
loop-preserved c = record {
  read = list_goes_on entry_at c.args.count c.loop.counter c.loop.from c.in_ok-entry_at.field-0 c.entry_at.new.from (rest_of (list_at entry_at c.args.count c.args.from.now)) c.loop-test.true c.in_ok-entry_at.ensures c.loop.invariant.read;
  fits = c.loop.invariant.fits;
}

pub overflow_sub-bytes : goal.overflow_sub-bytes
overflow_sub-bytes c = (list_passed entry_at entry_bytes IsEntry entry_part c.args.count c.loop.counter c.args.from.now c.loop.from c.rest-bytes.result.now c.rest.result.now (take (length c.rest-bytes.result.now - length c.rest.result.now) c.rest-bytes.result.now) c.loop.invariant.fits c.rest-bytes.ensures c.rest.ensures c.loop-test.false c.loop.invariant.read refl).behind

pub invariant_of-result : goal.invariant_of-result
invariant_of-result c = (list_passed entry_at entry_bytes IsEntry entry_part c.args.count c.loop.counter c.args.from.now c.loop.from c.rest-bytes.result.now c.rest.result.now c.split_at.result.0.now c.loop.invariant.fits c.rest-bytes.ensures c.rest.ensures c.loop-test.false c.loop.invariant.read c.split_at.ensures.front).whole

pub returns-clause-gives : goal.returns-clause-gives
returns-clause-gives c = (list_passed entry_at entry_bytes IsEntry entry_part c.args.count c.loop.counter c.args.from.now c.loop.from c.rest-bytes.result.now c.rest.result.now c.split_at.result.0.now c.loop.invariant.fits c.rest-bytes.ensures c.rest.ensures c.loop-test.false c.loop.invariant.read c.split_at.ensures.front).are.0

pub returns-clause-count : goal.returns-clause-count
returns-clause-count c = (list_passed entry_at entry_bytes IsEntry entry_part c.args.count c.loop.counter c.args.from.now c.loop.from c.rest-bytes.result.now c.rest.result.now c.split_at.result.0.now c.loop.invariant.fits c.rest-bytes.ensures c.rest.ensures c.loop-test.false c.loop.invariant.read c.split_at.ensures.front).are.1
