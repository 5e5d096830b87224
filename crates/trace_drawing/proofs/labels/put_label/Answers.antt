use Rattle.std.proofs.Common.{◌≡◌, ◌∙◌, ℕ, true, false, cond, List, ◌++◌, take, ap, sym, codes}
use Rattle.vsync_text.specs.TraceText.{hex_of}
use Rattle.trace_drawing.specs.declared.labels.TheConstants.{LETTERS, BYTES}
use Rattle.trace_drawing.specs.Labels.{escaped, is_text, dots, label}
use Rattle.vsync_text.proofs.TextsAppend.{appends-two, appends-three, same-text}
use Rattle.trace_drawing.proofs.labels.put_label.Goals as goal

-- a payload that is text
letters : (p : List ℕ) → is_text p ≡ true → escaped (take LETTERS p) ++ dots LETTERS p ≡ label p
letters p e = ap (λ b. cond b (escaped (take LETTERS p) ++ dots LETTERS p) (codes "0x" ++ hex_of (take BYTES p) ++ dots BYTES p)) (sym e)

-- another payload
bytes : (p : List ℕ) → is_text p ≡ false → codes "0x" ++ hex_of (take BYTES p) ++ dots BYTES p ≡ label p
bytes p e = ap (λ b. cond b (escaped (take LETTERS p) ++ dots LETTERS p) (codes "0x" ++ hex_of (take BYTES p) ++ dots BYTES p)) (sym e)

-- its first letters
pub returns-then-is_text : goal.returns-then-is_text
returns-then-is_text c = same-text (letters c.args.payload.now (sym c.is_text.ensures ∙ c.if-is_text.true)) (appends-two (same-text (ap escaped c.front.ensures) c.put_text.ensures) c.put_dots.ensures)

-- its first bytes
pub returns-else-is_text : goal.returns-else-is_text
returns-else-is_text c = same-text (bytes c.args.payload.now (sym c.is_text.ensures ∙ c.if-is_text.false))
    (appends-three c.put.ensures (same-text (ap hex_of c.front-else-is_text.ensures) c.put_hex.ensures) c.put_dots-else-is_text.ensures)
