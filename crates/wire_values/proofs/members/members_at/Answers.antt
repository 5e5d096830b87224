use Rattle.std.proofs.Common.{◌≡◌, false, true, List, [], sym, ap, ◌∙◌, arith}
use Rattle.std.proofs.lemmas.List.{length-append}
use Rattle.std.proofs.lemmas.Result.{err_from_is_err_and}
use Rattle.address.specs.Ids.{Address}
use Rattle.wire_values.specs.Lists.{may_follow, members_at}
use Rattle.wire_values.proofs.MemberLaws.{sound_push}
use Rattle.wire_values.proofs.Loops.{members_go_on, members_no_address, members_wrong, members_done}
use Rattle.wire_values.proofs.members.members_at.Goals as goal

pub returns-in_err-address-clause-gives : goal.returns-in_err-address-clause-gives
returns-in_err-address-clause-gives c =
    let p = err_from_is_err_and c.from_residual.result c.from_residual.ensures.1 in
    rw (p.1, p.2) (members_no_address c.args.id c.args.count c.loop.counter c.loop.members c.loop.from c.in_err-address.field-0.0 (members_at c.args.id c.args.count [] c.args.from.now) c.loop-test.true c.in_err-address.ensures c.loop.invariant.read)

pub returns-then-not-may_follow-clause-gives : goal.returns-then-not-may_follow-clause-gives
returns-then-not-may_follow-clause-gives c =
    let a = c.in_ok-address.address in
    let wrong : may_follow c.args.id c.loop.members a ≡ false = ap (λ (m : List Address). may_follow c.args.id m a) (sym c.as_slice.ensures.items) ∙ sym c.if-not-may_follow.ensures in
    members_wrong c.args.id c.args.count c.loop.counter c.loop.members c.loop.from a c.address.new.self (members_at c.args.id c.args.count [] c.args.from.now) c.loop-test.true c.in_ok-address.ensures wrong c.loop.invariant.read

pub loop-preserved : goal.loop-preserved
loop-preserved c =
    let a = c.in_ok-address.address in
    let ok : may_follow c.args.id c.loop.members a ≡ true = ap (λ (m : List Address). may_follow c.args.id m a) (sym c.as_slice.ensures.items) ∙ sym c.if-not-may_follow.ensures in
    record {
      read = rw (c.push.ensures) (members_go_on c.args.id c.args.count c.loop.counter c.loop.members c.loop.from a c.address.new.self (members_at c.args.id c.args.count [] c.args.from.now) c.loop-test.true c.in_ok-address.ensures ok c.loop.invariant.read);
      count = rw (c.push.ensures) (omega (arith, length-append {A = Address}));
      sound = rw (c.push.ensures) (sound_push c.args.id c.loop.members a c.loop.invariant.sound ok);
    }

pub returns-clause-gives : goal.returns-clause-gives
returns-clause-gives c = members_done c.args.id c.args.count c.loop.counter c.loop.members c.loop.from (members_at c.args.id c.args.count [] c.args.from.now) c.loop-test.false c.loop.invariant.read
