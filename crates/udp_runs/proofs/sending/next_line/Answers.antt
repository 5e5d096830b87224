use Rattle.std.proofs.Common.{sym, subst}
use Rattle.udp_runs.specs.Outboxes.{OutboxModel}
use Rattle.udp_runs.specs.Came.{Owes}
use Rattle.udp_runs.proofs.LinesKept.{owes-without-long}
use Rattle.udp_runs.proofs.LinesOwed.{on-any, no-ok, line-of}
use Rattle.udp_runs.proofs.sending.next_line.Goals as goal

pub returns-in_err-from_slice-in-Ok-Some-clause-owes : goal.returns-in_err-from_slice-in-Ok-Some-clause-owes
returns-in_err-from_slice-in-Ok-Some-clause-owes c = on-any _ c.from_residual.result (λ start came u x. subst (λ (q : OutboxModel). Owes start came q u) (sym c.see_end.ensures) x)

pub returns-in_err-from_slice-in-Ok-Some-clause-line : goal.returns-in_err-from_slice-in-Ok-Some-clause-line
returns-in_err-from_slice-in-Ok-Some-clause-line c start came u x = no-ok _ c.from_residual.result c.from_residual.ensures.0

pub returns-in_ok-from_slice-in-Ok-Some-clause-line : goal.returns-in_ok-from_slice-in-Ok-Some-clause-line
returns-in_ok-from_slice-in-Ok-Some-clause-line c start came u x = line-of start came c.args.outbox.now c.see_end.new.self u _ _ c.see_end.ensures c.in_ok-from_slice-in-Ok-Some.ensures.items (rw c.in-Ok-Some.field-0-is at c.in-Ok-Some.ensures) x

pub returns-in-Err-Long-clause-owes : goal.returns-in-Err-Long-clause-owes
returns-in-Err-Long-clause-owes c start came u x = subst (λ (q : OutboxModel). Owes start came q u) (sym c.drop_long.ensures)
    (owes-without-long start came c.see_end.new.self u (subst (λ (q : OutboxModel). Owes start came q u) (sym c.see_end.ensures) x))

pub returns-in_ok-from_slice-in-Ok-Some-clause-owes : goal.returns-in_ok-from_slice-in-Ok-Some-clause-owes
returns-in_ok-from_slice-in-Ok-Some-clause-owes c start came u x = subst (λ (q : OutboxModel). Owes start came q u) (sym c.see_end.ensures) x

pub returns-in-Ok-None-clause-owes : goal.returns-in-Ok-None-clause-owes
returns-in-Ok-None-clause-owes c start came u x = subst (λ (q : OutboxModel). Owes start came q u) (sym c.see_end.ensures) x

pub returns-then-has_notice-clause-owes : goal.returns-then-has_notice-clause-owes
returns-then-has_notice-clause-owes c start came u x = x
