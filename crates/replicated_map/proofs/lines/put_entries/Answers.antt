use Rattle.std.proofs.Common.{◌≡◌, ◌∙◌, List, [], ◌∷◌, ◌++◌, length, refl, ap, sym, append_assoc, codes, arith}
use Rattle.std.proofs.lemmas.Result.{on_ok_weaker, IfOk-from_err}
use Rattle.keyed_state.specs.declared.entries.KeyedEntry.{KeyedEntry}
use Rattle.replicated_map.specs.declared.entries.Held.{Held}
use Rattle.replicated_map.specs.MapText.{text_of_entry, text_of_more, text_of_entries}
use Rattle.vsync_text.proofs.KeepFront.{goes_on}
use Rattle.replicated_map.proofs.lines.put_entries.Goals as goal

no-entries : (entries : List (KeyedEntry Held)) → length entries ≡ 0 → codes " -" ≡ 32 ∷ text_of_entries entries
no-entries [] none = refl
no-entries (e ∷ entries) none = absurd (omega (arith, none))

-- a dash
pub returns-in-None-clause-text : goal.returns-in-None-clause-text
returns-in-None-clause-text c = on_ok_weaker c.put.result (λ text. text ∙ ap (λ t. c.args.out.now.items ++ t) (no-entries c.args.entries.now c.in-None.ensures.cases)) c.put.ensures.text

pub returns-in-None-clause-kept : goal.returns-in-None-clause-kept
returns-in-None-clause-kept c = c.put.ensures.kept

pub returns-in_err-put_entry-in-Some-clause-kept : goal.returns-in_err-put_entry-in-Some-clause-kept
returns-in_err-put_entry-in-Some-clause-kept c = c.in_err-put_entry-in-Some.ensures.kept

pub returns-in_err-put_entry-in-Some-clause-text : goal.returns-in_err-put_entry-in-Some-clause-text
returns-in_err-put_entry-in-Some-clause-text c = IfOk-from_err c.from_residual.result _ c.from_residual.ensures.0

pub returns-in_ok-put_entry-in-Some-clause-kept : goal.returns-in_ok-put_entry-in-Some-clause-kept
returns-in_ok-put_entry-in-Some-clause-kept c = goes_on _ _ _ c.in_ok-put_entry-in-Some.ensures.kept c.put_more.ensures.kept

-- the first one, and the others
pub returns-in_ok-put_entry-in-Some-clause-text : goal.returns-in_ok-put_entry-in-Some-clause-text
returns-in_ok-put_entry-in-Some-clause-text c =
    let out = c.args.out.now.items in
    let more = text_of_more c.in-Some.more.now in
    on_ok_weaker c.put_more.result (λ text. text ∙ ap (λ t. t ++ more) c.in_ok-put_entry-in-Some.ensures.text ∙ append_assoc out (32 ∷ text_of_entry c.in-Some.first.now) more ∙ ap (λ es. out ++ 32 ∷ text_of_entries es) (sym c.in-Some.ensures.cases.0)) c.put_more.ensures.text
