use Rattle.std.proofs.Common.{◌≡◌, ◌≤◌, ◌<◌, ◌++◌, get_or, length, sym, ap, ◌∙◌, append-nil, rules, arith}
use Rattle.std.specs.List.{flat_map}
use Rattle.std.proofs.lemmas.Fn.{filter_same}
use Rattle.std.proofs.lemmas.List.{take_all}
use Rattle.lock_table.specs.Keeping.{still_waits, told}
use Rattle.lock_table.proofs.ListsGrow.{next-list}
use Rattle.lock_table.proofs.answer.tell_late.Goals as goal

pub loop-waits-init : goal.loop-waits-init
loop-waits-init c = record {
  answers = sym (append-nil c.args.answers.now.items);
  room = omega (arith, c.requires);
  more = omega arith;
  few = omega arith;
}

-- one more is told
pub loop-waits-preserved : goal.loop-waits-preserved
loop-waits-preserved c =
    let all = c.args.queued.now.items in
    let f = told c.args.followed.now.own c.args.followed.now.copy c.args.view c.args.followed.now.place in
    let before = c.loop-waits.invariant in
    let one = rw (c.own-own.ensures, c.copy-copy.ensures, c.place-place.ensures) at c.tell_one.ensures.items in
    let at : c.waits-item.result ≡ get_or all c.loop-waits.waits-index c.waits-item.result = rw c.as_slice-waits-items.ensures.value at c.waits-item.is in
    let inside : c.loop-waits.waits-index < length all = rw c.as_slice-waits-items.ensures.value at c.loop-waits-test.true in
    record {
      answers = next-list f c.args.answers.now.items c.loop-waits.answers.items c.tell_one.new.answers.items all c.loop-waits.waits-index c.waits-item.result c.waits-item.result at inside before.answers one;
      room = omega (arith, before.room, c.tell_one.ensures.few, c.tell_one.ensures.room, inside);
      more = omega (arith, before.more, c.tell_one.ensures.room);
      few = omega (arith, before.few, c.tell_one.ensures.few);
    }

pub returns-clause-answers : goal.returns-clause-answers
returns-clause-answers c =
    let all : length c.args.queued.now.items ≤ c.loop-waits.waits-index = rw c.as_slice-waits-items.ensures.value at c.loop-waits-test.false in
    let f = told c.args.followed.now.own c.args.followed.now.copy c.args.view c.args.followed.now.place in
    c.loop-waits.invariant.answers ∙ ap (λ l. c.args.answers.now.items ++ flat_map f l) (take_all c.loop-waits.waits-index c.args.queued.now.items all)

pub returns-clause-queued : goal.returns-clause-queued
returns-clause-queued c = filter_same _ (still_waits c.args.followed.now.own c.args.followed.now.copy) _ (λ x b f' t. search rules) _ _ c.retain.ensures.filtered
