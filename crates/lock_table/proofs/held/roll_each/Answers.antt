use Rattle.std.proofs.Common.{refl, sym, ap, arith}
use Rattle.lock_table.specs.Locks.{members, rolled}
use Rattle.lock_table.proofs.LocksRoll.{left-at, rolls-on, rolls-end}
use Rattle.lock_table.proofs.held.roll_each.Goals as goal

pub loop-entry-init : goal.loop-entry-init
loop-entry-init c = record { all = refl; may = c.requires }

pub loop-entry-preserved : goal.loop-entry-preserved
loop-entry-preserved c =
    rolls-on (members c.args.view.now) c.args.view.now.id c.loop-entry.last c.roll-last.result c.loop-entry.entries c.loop-entry.entry-index _ c.entry-item.result _ c.roll-last.new.self (rolled (members c.args.view.now) c.args.view.now.id c.args.last c.args.entries.now)
    (omega (arith, c.loop-entry-test.true, c.loop-entry.auto.entries)) (omega arith) c.entry-item.is (ap (λ e. e.key) (sym c.entry-item.is)) (left-at (members c.args.view.now) c.args.view.now.id c.loop-entry.last _ _ _ _ c.entry-item.is c.roll-last.ensures) c.loop-entry.invariant

pub returns-clause-len : goal.returns-clause-len
returns-clause-len c = c.loop-entry.auto.entries

pub returns-clause-rolls : goal.returns-clause-rolls
returns-clause-rolls c =
    rolls-end (members c.args.view.now) c.args.view.now.id c.loop-entry.last c.loop-entry.entries c.loop-entry.entry-index _ c.loop-entry.invariant (omega (arith, c.loop-entry-test.false, c.loop-entry.auto.entries))
