use Rattle.std.proofs.Common.{rules}
use Rattle.std.proofs.lemmas.Fn.{filter_same}
use Rattle.lock_table.specs.Locks.{others}
use Rattle.lock_table.proofs.LocksLeft.{left-as-passed}
use Rattle.lock_table.proofs.lock.Lock.release.Goals as goal

pub returns : goal.returns
returns c =
    rw (← c.self.view_is)
    (left-as-passed (others c.args.address) c.args.view c.args.last (record { holder = c.self.inside.holder; token = c.self.inside.token; waiters = c.self.inside.waiters.items }) _ _ _ _
    (filter_same _ (others c.args.address) _ (λ x b f' t. search rules) _ _ c.retain.ensures.filtered) c.ne-stays.ensures c.pass_on.ensures)
