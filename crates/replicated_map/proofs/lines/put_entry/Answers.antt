use Rattle.std.proofs.Common.{[], ◌∷◌, ◌∙◌, codes, ap, ◌++◌}
use Rattle.std.proofs.lemmas.Result.{on_ok_weaker}
use Rattle.vsync_text.specs.TraceText.{hex_of}
use Rattle.keyed_state.proofs.PartsAppend.{four-parts}
use Rattle.vsync_text.proofs.KeepFront.{goes_on}
use Rattle.replicated_map.proofs.lines.put_entry.Goals as goal

pub returns-in_err-put_hex-clause-kept : goal.returns-in_err-put_hex-clause-kept
returns-in_err-put_hex-clause-kept c = goes_on _ _ _ c.in_ok-put.ensures.kept c.in_err-put_hex.ensures.kept

pub returns-in_err-put-2-clause-kept : goal.returns-in_err-put-2-clause-kept
returns-in_err-put-2-clause-kept c = goes_on _ _ _ (goes_on _ _ _ c.in_ok-put.ensures.kept c.in_ok-put_hex.ensures.kept) c.in_err-put-2.ensures.kept

pub returns-clause-kept : goal.returns-clause-kept
returns-clause-kept c = goes_on _ _ _ (goes_on _ _ _ (goes_on _ _ _ c.in_ok-put.ensures.kept c.in_ok-put_hex.ensures.kept) c.in_ok-put-2.ensures.kept) c.put_hex-2.ensures.kept

-- the byte, the key, a colon and the value
pub returns-clause-text : goal.returns-clause-text
returns-clause-text c =
    let key = c.in_ok-put_hex.ensures.text ∙ ap (λ x. c.put.new.out.items ++ hex_of x) c.as_slice.ensures in
    let value = ap (λ x. c.put-2.new.out.items ++ hex_of x) c.as_slice-2.ensures in
    on_ok_weaker c.put_hex-2.result (λ last. four-parts c.args.out.now.items (c.args.before ∷ []) (hex_of c.args.entry.now.key) (codes ":") (hex_of c.args.entry.now.value.value) _ _ _ _ c.in_ok-put.ensures.text key c.in_ok-put-2.ensures.text (last ∙ value)) c.put_hex-2.ensures.text
