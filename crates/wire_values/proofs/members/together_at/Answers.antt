use Rattle.std.proofs.Common.{List, [], sym, ap, ◌∙◌, arith}
use Rattle.std.proofs.lemmas.List.{length-append}
use Rattle.std.proofs.lemmas.Result.{err_from_is_err_and}
use Rattle.address.specs.Ids.{Address}
use Rattle.wire_values.specs.Lists.{is_in_order, together_at}
use Rattle.wire_values.proofs.Loops.{together_goes_on, together_no_address, together_wrong, together_done, together_ordered}
use Rattle.wire_values.proofs.members.together_at.Goals as goal

pub returns-in_err-address-clause-gives : goal.returns-in_err-address-clause-gives
returns-in_err-address-clause-gives c =
    let p = err_from_is_err_and c.from_residual.result c.from_residual.ensures.1 in
    rw (p.1, p.2) (together_no_address c.args.count c.loop.counter c.loop.left.now c.loop.together c.loop.from c.in_err-address.field-0.0 (together_at c.args.count c.args.roster.now.members [] c.args.from.now) c.loop-test.true c.in_err-address.ensures c.loop.invariant.read)

pub returns-in_default-clause-gives : goal.returns-in_default-clause-gives
returns-in_default-clause-gives c =
    together_wrong c.args.count c.loop.counter c.loop.left.now c.loop.together c.loop.from c.in_ok-address.address c.address.new.self (together_at c.args.count c.args.roster.now.members [] c.args.from.now) c.loop-test.true c.in_ok-address.ensures (sym c.in_default.ensures) c.loop.invariant.read

pub loop-preserved : goal.loop-preserved
loop-preserved c =
    record {
      read = rw (c.push.ensures) (together_goes_on c.args.count c.loop.counter c.loop.left.now c.loop.together c.loop.from c.in_ok-address.address c.address.new.self c.in-Some.others.now (together_at c.args.count c.args.roster.now.members [] c.args.from.now) c.loop-test.true c.in_ok-address.ensures (sym c.in-Some.ensures) c.loop.invariant.read);
      count = rw (c.push.ensures) (omega (arith, length-append {A = Address}));
    }

pub returns-clause-gives : goal.returns-clause-gives
returns-clause-gives c = together_done c.args.count c.loop.counter c.loop.left.now c.loop.together c.loop.from (together_at c.args.count c.args.roster.now.members [] c.args.from.now) c.loop-test.false c.loop.invariant.read

pub returns-clause-ordered : goal.returns-clause-ordered
returns-clause-ordered c =
    let read = together_done c.args.count c.loop.counter c.loop.left.now c.loop.together c.loop.from (together_at c.args.count c.args.roster.now.members [] c.args.from.now) c.loop-test.false c.loop.invariant.read in
    let o = together_ordered c.args.count c.args.roster.now.members [] c.args.from.now (c.loop.together, c.loop.from) read in
    ap (λ (m : List Address). is_in_order m c.args.roster.now.members) o.whole ∙ o.ordered
