use Rattle.std.proofs.Common.{◌∷◌, rules, arith}
use Rattle.std.proofs.lemmas.Grind.{common_steps}
use Rattle.replicated_map.specs.MapText.{text_of_entry}
use Rattle.vsync_text.proofs.KeepFront.{puts_next, goes_on}
use Rattle.replicated_map.proofs.lines.put_more.Goals as goal

pub loop-entry-preserved : goal.loop-entry-preserved
loop-entry-preserved c = puts_next (λ e. 44 ∷ text_of_entry e) _ _ _ _ _ _ _ c.entry-item.is c.loop-entry-test.true c.loop-entry.invariant c.in_ok-put_entry.ensures.text c.in_ok-put_entry.ensures.kept

pub returns-in_err-put_entry-clause-text : goal.returns-in_err-put_entry-clause-text
returns-in_err-put_entry-clause-text c = search rules

pub returns-in_err-put_entry-clause-kept : goal.returns-in_err-put_entry-clause-kept
returns-in_err-put_entry-clause-kept c = goes_on _ _ _ c.loop-entry.invariant.1 c.in_err-put_entry.ensures.kept

pub returns-clause-text : goal.returns-clause-text
returns-clause-text c = grind (arith, common_steps)

pub returns-clause-kept : goal.returns-clause-kept
returns-clause-kept c = c.loop-entry.invariant.1
