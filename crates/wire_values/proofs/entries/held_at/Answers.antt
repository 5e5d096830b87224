use Rattle.std.proofs.Common.{◌≡◌, ◌+◌, ◌-◌, length, take, refl, subst, Ok, Err, ℕ, arith}
use Rattle.std.proofs.lemmas.Result.{err_from_is_err_and}
use Rattle.wire_values.specs.declared.error.WireError.TheVariants.{Value}
use Rattle.wire_values.specs.Reading.{number_at, rest_of}
use Rattle.wire_values.specs.Lists.{held_at}
use Rattle.wire_values.proofs.ListLaws.{highest_next-le}
use Rattle.wire_values.proofs.Loops.{rest_err, held_goes_on, held_no_place, held_no_entry, held_passed}
use Rattle.wire_values.proofs.entries.held_at.Goals as goal

pub returns-in_err-last-clause-gives : goal.returns-in_err-last-clause-gives
returns-in_err-last-clause-gives c =
    let p = err_from_is_err_and c.from_residual.result c.from_residual.ensures.1 in
    let e = subst (λ (h : ℕ). number_at 8 (c.loop.last + 1) h Value c.loop.from ≡ Err c.in_err-last.field-0.0) c.highest_next-highest.ensures c.in_err-last.ensures.gives in
    rw (p.1, p.2) (rest_err (held_at c.args.stable c.args.delivered c.args.stable c.args.count c.args.from.now) c.in_err-last.field-0.0 (held_no_place c.args.stable c.args.delivered c.loop.last c.args.count c.loop.counter c.loop.from c.in_err-last.field-0.0 (rest_of (held_at c.args.stable c.args.delivered c.args.stable c.args.count c.args.from.now)) c.loop-test.true e c.loop.invariant.read))

pub returns-in_err-entry_at-clause-gives : goal.returns-in_err-entry_at-clause-gives
returns-in_err-entry_at-clause-gives c =
    let p = err_from_is_err_and c.from_residual-in_err-entry_at.result c.from_residual-in_err-entry_at.ensures.1 in
    let e = subst (λ (h : ℕ). number_at 8 (c.loop.last + 1) h Value c.loop.from ≡ Ok (c.in_ok-last.last, c.u64.new.self)) c.highest_next-highest.ensures c.in_ok-last.ensures.gives in
    rw (p.1, p.2) (rest_err (held_at c.args.stable c.args.delivered c.args.stable c.args.count c.args.from.now) c.in_err-entry_at.field-0.0 (held_no_entry c.args.stable c.args.delivered c.loop.last c.args.count c.loop.counter c.loop.from c.in_ok-last.last c.u64.new.self c.in_err-entry_at.field-0.0 (rest_of (held_at c.args.stable c.args.delivered c.args.stable c.args.count c.args.from.now)) c.loop-test.true e c.in_err-entry_at.ensures c.loop.invariant.read))

pub loop-preserved : goal.loop-preserved
loop-preserved c =
    let e = subst (λ (h : ℕ). number_at 8 (c.loop.last + 1) h Value c.loop.from ≡ Ok (c.in_ok-last.last, c.u64.new.self)) c.highest_next-highest.ensures c.in_ok-last.ensures.gives in
    record {
      read = held_goes_on c.args.stable c.args.delivered c.loop.last c.args.count c.loop.counter c.loop.from c.in_ok-last.last c.u64.new.self c.in_ok-entry_at.field-0 c.entry_at.new.from (rest_of (held_at c.args.stable c.args.delivered c.args.stable c.args.count c.args.from.now)) c.loop-test.true e c.in_ok-entry_at.ensures c.loop.invariant.read;
      small = omega (arith, c.in_ok-last.ensures.in_range, c.highest_next-highest.ensures, highest_next-le c.args.stable c.args.delivered c.loop.last c.requires.count);
      fits = c.loop.invariant.fits;
    }

pub overflow_sub-bytes : goal.overflow_sub-bytes
overflow_sub-bytes c = (held_passed c.args.stable c.args.delivered c.loop.last c.args.count c.loop.counter c.args.from.now c.loop.from c.rest-bytes.result.now c.rest.result.now (take (length c.rest-bytes.result.now - length c.rest.result.now) c.rest-bytes.result.now) c.requires.count c.loop.invariant.fits c.rest-bytes.ensures c.rest.ensures c.loop-test.false c.loop.invariant.read refl).behind

pub invariant_of-result : goal.invariant_of-result
invariant_of-result c = (held_passed c.args.stable c.args.delivered c.loop.last c.args.count c.loop.counter c.args.from.now c.loop.from c.rest-bytes.result.now c.rest.result.now c.split_at.result.0.now c.requires.count c.loop.invariant.fits c.rest-bytes.ensures c.rest.ensures c.loop-test.false c.loop.invariant.read c.split_at.ensures.front).whole

pub returns-clause-gives : goal.returns-clause-gives
returns-clause-gives c = (held_passed c.args.stable c.args.delivered c.loop.last c.args.count c.loop.counter c.args.from.now c.loop.from c.rest-bytes.result.now c.rest.result.now c.split_at.result.0.now c.requires.count c.loop.invariant.fits c.rest-bytes.ensures c.rest.ensures c.loop-test.false c.loop.invariant.read c.split_at.ensures.front).are.0

pub returns-clause-count : goal.returns-clause-count
returns-clause-count c = (held_passed c.args.stable c.args.delivered c.loop.last c.args.count c.loop.counter c.args.from.now c.loop.from c.rest-bytes.result.now c.rest.result.now c.split_at.result.0.now c.requires.count c.loop.invariant.fits c.rest-bytes.ensures c.rest.ensures c.loop-test.false c.loop.invariant.read c.split_at.ensures.front).are.1

pub returns-clause-rising : goal.returns-clause-rising
returns-clause-rising c = (held_passed c.args.stable c.args.delivered c.loop.last c.args.count c.loop.counter c.args.from.now c.loop.from c.rest-bytes.result.now c.rest.result.now c.split_at.result.0.now c.requires.count c.loop.invariant.fits c.rest-bytes.ensures c.rest.ensures c.loop-test.false c.loop.invariant.read c.split_at.ensures.front).are.2
