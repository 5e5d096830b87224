use Rattle.std.proofs.Common.{rules}
use Rattle.std.proofs.lemmas.Fn.{filter_same}
use Rattle.lock_table.specs.Locks.{members}
use Rattle.lock_table.proofs.LocksLeft.{left-as-passed}
use Rattle.lock_table.proofs.lock.Lock.roll.Goals as goal

pub returns : goal.returns
returns c =
    rw (← c.self.view_is)
    (left-as-passed (members c.args.view.now) c.args.view.now.id c.args.last (record { holder = c.self.inside.holder; token = c.self.inside.token; waiters = c.self.inside.waiters.items }) _ _ _ _
    (filter_same _ (members c.args.view.now) _ (λ x b f' t. search rules) _ _ c.retain.ensures.filtered) c.contains-stays.ensures (rw c.id.ensures at c.pass_on.ensures))
