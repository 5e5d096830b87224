use Rattle.std.proofs.Common.{◌≡◌, ◌++◌, ◌∷◌, ◌∙◌, [], List, ℕ, ap, sym, append_assoc, append-nil}
use Rattle.address.specs.Ids.{text_of_address, text_of_view_id}
use Rattle.vsync_text.specs.TraceText.{field, text_of_previous, text_of_addresses, text_of_handed_back, text_of_given}
use Rattle.std.proofs.lemmas.Result.{on_ok_weaker}
use Rattle.vsync_text.proofs.KeepFront.{goes_on, five_texts}
use Rattle.vsync_text.proofs.trace_line.put_install_fields.Goals as goal

-- three fields
three : (m p v w x : List ℕ) → w ≡ p → x ≡ v → 32 ∷ (m ++ 32 ∷ (w ++ 32 ∷ (x ++ []))) ≡ (field m ++ field p) ++ field v
three m p v w x e f =
    ap (λ y. 32 ∷ (m ++ 32 ∷ (y ++ 32 ∷ (x ++ [])))) e ∙ ap (λ y. 32 ∷ (m ++ 32 ∷ (p ++ 32 ∷ y))) (append-nil x ∙ f) ∙ sym (append_assoc (field m) (field p) (field v))

pub returns-clause-text : goal.returns-clause-text
returns-clause-text c =
    let i = c.args.install.now in
    on_ok_weaker c.put_given.result
    (λ last. five_texts _ _ _ _ _ _ _ _ _ _ _
    (c.in_ok-put_parts.ensures.text ∙ ap (λ x. c.args.out.now.items ++ x)
    (three (text_of_address i.member) _ _ _ _ (c.previous_part.ensures ∙ ap text_of_previous c.as_ref.ensures.value) (ap text_of_view_id c.id.ensures)))
    (c.in_ok-put_addresses.ensures.text ∙ ap (λ x. c.put_parts.new.out.items ++ field (text_of_addresses x)) (c.as_slice.ensures ∙ c.members.ensures.members))
    (c.in_ok-put_addresses-2.ensures.text ∙ ap (λ x. c.put_addresses.new.out.items ++ field (text_of_addresses x)) c.as_slice-2.ensures)
    (c.in_ok-put_handed_back.ensures.text ∙ ap (λ x. c.put_addresses-2.new.out.items ++ field (text_of_handed_back x)) c.as_slice-3.ensures)
    (last ∙ ap (λ x. c.put_handed_back.new.out.items ++ field (text_of_given x)) c.as_ref-2.ensures.value))
    c.put_given.ensures.text

pub returns-clause-kept : goal.returns-clause-kept
returns-clause-kept c =
    goes_on _ _ _ c.in_ok-put_parts.ensures.kept (goes_on _ _ _ c.in_ok-put_addresses.ensures.kept (goes_on _ _ _ c.in_ok-put_addresses-2.ensures.kept
    (goes_on _ _ _ c.in_ok-put_handed_back.ensures.kept c.put_given.ensures.kept)))

pub returns-in_err-put_addresses-clause-kept : goal.returns-in_err-put_addresses-clause-kept
returns-in_err-put_addresses-clause-kept c = goes_on _ _ _ c.in_ok-put_parts.ensures.kept c.put_addresses.ensures.kept

pub returns-in_err-put_addresses-2-clause-kept : goal.returns-in_err-put_addresses-2-clause-kept
returns-in_err-put_addresses-2-clause-kept c = goes_on _ _ _ c.in_ok-put_parts.ensures.kept (goes_on _ _ _ c.in_ok-put_addresses.ensures.kept c.put_addresses-2.ensures.kept)

pub returns-in_err-put_handed_back-clause-kept : goal.returns-in_err-put_handed_back-clause-kept
returns-in_err-put_handed_back-clause-kept c =
    goes_on _ _ _ c.in_ok-put_parts.ensures.kept (goes_on _ _ _ c.in_ok-put_addresses.ensures.kept (goes_on _ _ _ c.in_ok-put_addresses-2.ensures.kept c.put_handed_back.ensures.kept))
