use Rattle.std.proofs.lemmas.Result.{on_ok_weaker}
use Rattle.vsync_text.proofs.KeepFront.{goes_on, two_fields}
use Rattle.chat_log.proofs.chat_lines.put_chat.Goals as goal

pub returns-in_err-put_address-clause-kept : goal.returns-in_err-put_address-clause-kept
returns-in_err-put_address-clause-kept g c = goes_on _ _ _ c.in_ok-put.ensures.kept c.in_err-put_address.ensures.kept

pub returns-in_err-put_lines-clause-kept : goal.returns-in_err-put_lines-clause-kept
returns-in_err-put_lines-clause-kept g c = goes_on _ _ _ (goes_on _ _ _ c.in_ok-put.ensures.kept c.in_ok-put_address.ensures.kept) c.in_err-put_lines.ensures.kept

pub returns-clause-text : goal.returns-clause-text
returns-clause-text g c =
    on_ok_weaker c.put-2.result (λ last. two_fields _ _ _ _ _ _ _ _ _ c.in_ok-put.ensures.text c.in_ok-put_address.ensures.text c.in_ok-put_lines.ensures.text last) c.put-2.ensures.text

pub returns-clause-kept : goal.returns-clause-kept
returns-clause-kept g c =
    goes_on _ _ _ (goes_on _ _ _ (goes_on _ _ _ c.in_ok-put.ensures.kept c.in_ok-put_address.ensures.kept) c.in_ok-put_lines.ensures.kept) c.put-2.ensures.kept
