use Rattle.std.proofs.Common.{◌≡◌, ℕ, List, ◌++◌}
use Rattle.std.proofs.lemmas.Result.{on_ok_weaker}
use Rattle.keyed_state.proofs.PartsAppend.{two-parts, three-parts}
use Rattle.vsync_text.proofs.KeepFront.{goes_on}
use Rattle.lock_table.proofs.lines.put_table_line.Goals as goal

-- a word, three fields and an end, one behind another
three_fields : (old a b c d new word first second third end : List ℕ) → a ≡ old ++ word → b ≡ a ++ first → c ≡ b ++ second → d ≡ c ++ third → new ≡ d ++ end → new ≡ old ++ (word ++ (((first ++ second) ++ third) ++ end))
three_fields old a b c d new word first second third end e f g h k =
    three-parts old word ((first ++ second) ++ third) end a d new e (two-parts a (first ++ second) third c d (two-parts a first second b c f g) h) k

pub returns-clause-text : goal.returns-clause-text
returns-clause-text c =
    on_ok_weaker c.put-2.result (λ last. three_fields _ _ _ _ _ _ _ _ _ _ _ c.in_ok-put.ensures.text c.in_ok-put_address.ensures.text c.in_ok-put_token_text.ensures.text c.in_ok-put_locks.ensures.text last) c.put-2.ensures.text

pub returns-clause-kept : goal.returns-clause-kept
returns-clause-kept c =
    goes_on _ _ _ (goes_on _ _ _ (goes_on _ _ _ (goes_on _ _ _ c.in_ok-put.ensures.kept c.in_ok-put_address.ensures.kept) c.in_ok-put_token_text.ensures.kept) c.in_ok-put_locks.ensures.kept) c.put-2.ensures.kept

pub returns-in_err-put_address-clause-kept : goal.returns-in_err-put_address-clause-kept
returns-in_err-put_address-clause-kept c = goes_on _ _ _ c.in_ok-put.ensures.kept c.in_err-put_address.ensures.kept

pub returns-in_err-put_token_text-clause-kept : goal.returns-in_err-put_token_text-clause-kept
returns-in_err-put_token_text-clause-kept c = goes_on _ _ _ (goes_on _ _ _ c.in_ok-put.ensures.kept c.in_ok-put_address.ensures.kept) c.in_err-put_token_text.ensures.kept

pub returns-in_err-put_locks-clause-kept : goal.returns-in_err-put_locks-clause-kept
returns-in_err-put_locks-clause-kept c = goes_on _ _ _ (goes_on _ _ _ (goes_on _ _ _ c.in_ok-put.ensures.kept c.in_ok-put_address.ensures.kept) c.in_ok-put_token_text.ensures.kept) c.in_err-put_locks.ensures.kept
