use Rattle.vsync_text.proofs.KeepFront.{goes_on}
use Rattle.vsync_text.proofs.part.put_part.Goals as goal

pub returns-in_ok-put_decimal-in-Address-clause-kept : goal.returns-in_ok-put_decimal-in-Address-clause-kept
returns-in_ok-put_decimal-in-Address-clause-kept c = goes_on _ _ _ c.in_ok-put_decimal-in-Address.ensures.kept c.put_number.ensures.kept

pub returns-in_ok-put_decimal-in-View-clause-kept : goal.returns-in_ok-put_decimal-in-View-clause-kept
returns-in_ok-put_decimal-in-View-clause-kept c = goes_on _ _ _ c.in_ok-put_decimal-in-View.ensures.kept c.put_address.ensures.kept
