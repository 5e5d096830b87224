-- The lines of a chat that are not printed yet.
use Rattle.std.proofs.Common.{◌≡◌, ℕ, zero, suc, ◌+◌, List, [], ◌∷◌, ◌++◌, Some, None, drop, refl, ap, sym, ◌∙◌, append_assoc, append-nil, slice_get, arith}
use Rattle.chat_log.specs.declared.lines.Line.{Line}
use Rattle.vsync_text.specs.TraceText.{GoesOnFrom}
use Rattle.vsync_text.proofs.KeepFront.{goes_on}
use Rattle.chat_log.specs.ChatText.{text_of_said, text_of_more}

from-here : (lines : List Line) (i : ℕ) (l : Line) → slice_get lines i ≡ Some l → drop i lines ≡ l ∷ drop (suc i) lines
from-here [] i l e = absurd (let bad : None ≡ Some l = e in cc)
from-here (x ∷ xs) zero l e = ap (λ (y : Line). y ∷ xs) (let same : Some x ≡ Some l = e in cc)
from-here (x ∷ xs) (suc i) l e = from-here xs i l e

past-end : (lines : List Line) (i : ℕ) → slice_get lines i ≡ None → drop i lines ≡ []
past-end [] zero e = refl
past-end [] (suc i) e = refl
past-end (x ∷ xs) zero e = absurd (let bad : Some x ≡ None = e in cc)
past-end (x ∷ xs) (suc i) e = past-end xs i e

-- one line more is printed
pub printed-one : (lines : List Line) (i : ℕ) (l : Line) (old now new all : List ℕ) → slice_get lines i ≡ Some l
    → (now ++ text_of_more (drop i lines) ≡ all) × GoesOnFrom old now → new ≡ now ++ 44 ∷ text_of_said l.sender l.payload → GoesOnFrom now new
    → (new ++ text_of_more (drop (i + 1) lines) ≡ all) × GoesOnFrom old new
printed-one lines i l old now new all here kept more front =
    let said : List ℕ = 44 ∷ text_of_said l.sender l.payload in (
      ap (λ (t : List ℕ). t ++ text_of_more (drop (i + 1) lines)) more
          ∙ append_assoc now said (text_of_more (drop (i + 1) lines))
          ∙ ap (λ (t : List Line). now ++ text_of_more t) (ap (λ (k : ℕ). l ∷ drop k lines) (let up : i + 1 ≡ suc i = omega arith in up) ∙ sym (from-here lines i l here))
          ∙ kept.0,
      goes_on old now new kept.1 front,
    )

-- all is printed
pub printed-all : (lines : List Line) (i : ℕ) (now all : List ℕ) → slice_get lines i ≡ None → now ++ text_of_more (drop i lines) ≡ all → now ≡ all
printed-all lines i now all none kept = sym (append-nil now) ∙ ap (λ (t : List Line). now ++ text_of_more t) (sym (past-end lines i none)) ∙ kept
