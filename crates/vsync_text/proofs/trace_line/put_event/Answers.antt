use Rattle.std.proofs.Common.{◌∙◌, ◌++◌, ap}
use Rattle.std.proofs.lemmas.Result.{on_ok_weaker}
use Rattle.vsync_text.proofs.KeepFront.{goes_on, three_texts}
use Rattle.vsync_text.proofs.trace_line.put_event.Goals as goal

pub returns-clause-text : goal.returns-clause-text
returns-clause-text c =
    on_ok_weaker c.put-2.result
    (λ last. three_texts _ _ _ _ _ _ _ (c.in_ok-put.ensures.text ∙ ap (λ x. c.args.out.now.items ++ x) c.event_word.ensures) c.in_ok-put_fields.ensures.text last) c.put-2.ensures.text

pub returns-clause-kept : goal.returns-clause-kept
returns-clause-kept c = goes_on _ _ _ c.in_ok-put.ensures.kept (goes_on _ _ _ c.in_ok-put_fields.ensures.kept c.put-2.ensures.kept)

pub returns-in_err-put_fields-clause-kept : goal.returns-in_err-put_fields-clause-kept
returns-in_err-put_fields-clause-kept c = goes_on _ _ _ c.in_ok-put.ensures.kept c.put_fields.ensures.kept
