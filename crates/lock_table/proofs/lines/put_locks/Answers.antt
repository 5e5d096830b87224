use Rattle.std.proofs.Common.{rules, arith}
use Rattle.std.proofs.lemmas.Grind.{common_steps}
use Rattle.lock_table.specs.TableText.{text_of_lock}
use Rattle.vsync_text.specs.TraceText.{field}
use Rattle.vsync_text.proofs.KeepFront.{puts_next, goes_on}
use Rattle.lock_table.proofs.lines.put_locks.Goals as goal

pub loop-lock-preserved : goal.loop-lock-preserved
loop-lock-preserved c = puts_next (λ e. field (text_of_lock e)) _ _ _ _ _ _ _ c.lock-item.is c.loop-lock-test.true c.loop-lock.invariant c.in_ok-put_lock.ensures.text c.in_ok-put_lock.ensures.kept

pub returns-in_err-put_lock-clause-text : goal.returns-in_err-put_lock-clause-text
returns-in_err-put_lock-clause-text c = search rules

pub returns-in_err-put_lock-clause-kept : goal.returns-in_err-put_lock-clause-kept
returns-in_err-put_lock-clause-kept c = goes_on _ _ _ c.loop-lock.invariant.1 c.in_err-put_lock.ensures.kept

pub returns-clause-text : goal.returns-clause-text
returns-clause-text c = grind (arith, common_steps)

pub returns-clause-kept : goal.returns-clause-kept
returns-clause-kept c = c.loop-lock.invariant.1
