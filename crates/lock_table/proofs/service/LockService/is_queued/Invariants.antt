use Rattle.std.proofs.Common.{◌≡◌, ◌==◌, false, take}
use Rattle.std.specs.List.{list_any}
use Rattle.lock_table.proofs.service.LockService.is_queued.Given as goal

-- none of those so far waits for it
abbrev pub invariant-loop-waits : goal.invariant-loop-waits
invariant-loop-waits l = list_any (λ q. q.ticket == l.ticket) (take l.waits-index l.self.queued) ≡ false
