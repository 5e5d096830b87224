use Rattle.std.proofs.Common.{◌≡◌, ◌≤◌, ◌<◌, ◌++◌, get_or, length, length-append, sym, ap, ◌∙◌, append-nil, rules, arith}
use Rattle.std.specs.List.{filter, filter_map}
use Rattle.std.proofs.lemmas.Fn.{filter_same}
use Rattle.std.proofs.lemmas.List.{take_all, get_or_default}
use Rattle.tickets.specs.declared.tickets.Pending.{Pending}
use Rattle.tickets.specs.declared.tickets.Stage.TheVariants as stage
use Rattle.tickets.specs.Ledger.{ended_by, stays_open}
use Rattle.tickets.proofs.EndsGrow.{next-end, each-stays-or-ends}
use Rattle.tickets.proofs.tickets.end_each.Goals as goal

pub loop-one-init : goal.loop-one-init
loop-one-init c = record {
  ended = sym (append-nil c.args.ended.now.items);
  room = omega (arith, c.requires);
  more = omega arith;
}

-- one more end is noted, if there is one
pub loop-one-preserved : goal.loop-one-preserved
loop-one-preserved c =
    let all = c.args.pending.now.items in
    let i = c.loop-one.one-index in
    let before = c.loop-one.invariant in
    let inside : i < length all = rw c.as_slice-one-items.ensures.value at c.loop-one-test.true in
    let any : Pending = record { ticket = 0; until = 0; stage = stage.Waiting } in
    let items = rw c.as_slice-one-items.ensures.value at c.end_one.ensures.items in
    record {
      ended = next-end (ended_by c.args.change.now) c.args.ended.now.items c.loop-one.ended.items c.end_one.new.ended.items all i (get_or all i any) (get_or_default all i any (get_or all i any) inside) inside before.ended items;
      room = omega (arith, before.room, c.end_one.ensures.few, c.end_one.ensures.room, inside);
      more = omega (arith, before.more, c.end_one.ensures.room);
    }

pub returns-clause-ended : goal.returns-clause-ended
returns-clause-ended c =
    let all : length c.args.pending.now.items ≤ c.loop-one.one-index = rw c.as_slice-one-items.ensures.value at c.loop-one-test.false in
    c.loop-one.invariant.ended ∙ ap (λ l. c.args.ended.now.items ++ filter_map (ended_by c.args.change.now) l) (take_all c.loop-one.one-index c.args.pending.now.items all)

pub returns-clause-pending : goal.returns-clause-pending
returns-clause-pending c = filter_same _ (stays_open c.args.change.now) _ (λ x b f' t. search rules) _ _ c.retain.ensures.filtered

pub returns-clause-room : goal.returns-clause-room
returns-clause-room c =
    let os = c.args.pending.now.items in
    let ch = c.args.change.now in
    let all : length os ≤ c.loop-one.one-index = rw c.as_slice-one-items.ensures.value at c.loop-one-test.false in
    let ended : c.loop-one.ended.items ≡ c.args.ended.now.items ++ filter_map (ended_by ch) os = c.loop-one.invariant.ended ∙ ap (λ l. c.args.ended.now.items ++ filter_map (ended_by ch) l) (take_all c.loop-one.one-index os all) in
    let rest : c.retain.new.self.items ≡ filter (stays_open ch) os = filter_same _ (stays_open ch) _ (λ x b f' t. search rules) _ _ c.retain.ensures.filtered in
    let both = each-stays-or-ends ch os in
    omega (arith, c.requires, c.loop-one.invariant.more, simp length-append at (ap length ended), ap length rest, both)
