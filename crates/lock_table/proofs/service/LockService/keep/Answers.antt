use Rattle.std.proofs.Common.{◌==◌, List, ap, rules}
use Rattle.std.specs.List.{list_any}
use Rattle.std.proofs.lemmas.Fn.{filter_same}
use Rattle.lock_table.specs.declared.answer.Queued.{Queued}
use Rattle.lock_table.specs.Keeping.{Keeping}
use Rattle.lock_table.proofs.service.LockService.keep.Goals as goal

pub returns : goal.returns
returns c =
    let s = c.self.inside in
    let with : List Queued → Keeping = λ l. record { followed = s.followed; queued = l; answers = s.answers.items } in
    rw (← c.self.view_is) (ap with (filter_same _ (λ q. list_any (λ t. t == q.ticket) c.args.tickets.now) _ (λ x b f' t. search rules) _ _ c.retain.ensures.filtered))
