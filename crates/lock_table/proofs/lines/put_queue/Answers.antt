use Rattle.vsync_text.proofs.KeepFront.{goes_on}
use Rattle.lock_table.proofs.lines.put_queue.Goals as goal

pub returns-in_err-put_token_text-clause-kept : goal.returns-in_err-put_token_text-clause-kept
returns-in_err-put_token_text-clause-kept c = goes_on _ _ _ c.in_ok-put_address.ensures.kept c.in_err-put_token_text.ensures.kept

pub returns-clause-kept : goal.returns-clause-kept
returns-clause-kept c = goes_on _ _ _ (goes_on _ _ _ c.in_ok-put_address.ensures.kept c.in_ok-put_token_text.ensures.kept) c.put_addresses.ensures.kept
