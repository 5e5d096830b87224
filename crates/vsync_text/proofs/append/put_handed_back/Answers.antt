use Rattle.std.proofs.Common.{◌≡◌, true, false, List, [], length, ◌∷◌, ◌++◌, ◌∙◌, sym, refl, ap, append_assoc}
use Rattle.std.specs.Prelude.{◌==◌}
use Rattle.std.specs.List.{join_by}
use Rattle.std.specs.Fmt.{decimal}
use Rattle.trace_props.specs.declared.event.Numbered.{Numbered}
use Rattle.vsync_text.specs.TraceText.{hex_of, text_of_numbered, text_of_handed_back}
use Rattle.vsync_text.proofs.KeepFront.{goes_on, none_joined, one_joined, all_joined}
use Rattle.vsync_text.proofs.append.put_handed_back.Goals as goal

pub loop-message-preserved : goal.loop-message-preserved
loop-message-preserved c =
    let before = c.loop-message.out.items in
    let number = c.loop-message.mark ∷ decimal c.message-item.result.number in
    let payload = 58 ∷ hex_of c.as_slice.result.now in
    one_joined text_of_numbered _ _ _ _ _ _ _ _ _ c.message-item.is c.loop-message-test.true c.loop-message.invariant
    (c.in_ok-put_hex_behind.ensures.text ∙ ap (λ t. t ++ payload) c.in_ok-put_number.ensures.text ∙ append_assoc before number payload ∙ ap (λ x. before ++ (number ++ 58 ∷ hex_of x)) c.as_slice.ensures)
    (goes_on _ _ _ c.in_ok-put_number.ensures.kept c.in_ok-put_hex_behind.ensures.kept)

pub loop-message-init : goal.loop-message-init
loop-message-init c = none_joined text_of_numbered c.args.before c.args.out.now.items c.args.messages.now

joined : (ms : List Numbered) → (length ms == 0) ≡ false → join_by text_of_numbered (44 ∷ []) ms ≡ text_of_handed_back ms
joined [] some = let n : true ≡ false = some in absurd (cc)
joined (m ∷ ms) some = refl

pub returns : goal.returns
returns c =
    let some = sym c.is_empty.ensures ∙ c.if-is_empty.false in
    record {
      text = all_joined text_of_numbered _ _ _ _ _ _ some c.loop-message-test.false c.loop-message.invariant ∙ ap (λ t. c.args.out.now.items ++ c.args.before ∷ t) (joined c.args.messages.now some);
      kept = c.loop-message.invariant.kept;
    }

pub returns-in_err-put_number-clause-kept : goal.returns-in_err-put_number-clause-kept
returns-in_err-put_number-clause-kept c = goes_on _ _ _ c.loop-message.invariant.kept c.put_number.ensures.kept

pub returns-in_err-put_hex_behind-clause-kept : goal.returns-in_err-put_hex_behind-clause-kept
returns-in_err-put_hex_behind-clause-kept c = goes_on _ _ _ c.loop-message.invariant.kept (goes_on _ _ _ c.in_ok-put_number.ensures.kept c.put_hex_behind.ensures.kept)
