-- The text of a chat's lines.
use Rattle.std.specs.Prelude.{ℕ, ◌∷◌, [], ◌++◌, List, codes, flat_map}
use Rattle.address.specs.Ids.{Address, text_of_address}
use Rattle.chat_log.specs.declared.lines.Line.{Line}
use Rattle.vsync_text.specs.TraceText.{hex_of, dash, field, line_with}

-- who said a line, and what: `ADDR:hex`
abbrev pub text_of_said : Address → List ℕ → List ℕ
text_of_said sender payload = text_of_address sender ++ 58 ∷ hex_of payload

-- lines, each behind a comma
abbrev pub text_of_more : List Line → List ℕ
text_of_more lines = flat_map (λ l. 44 ∷ text_of_said l.sender l.payload) lines

-- lines joined by commas, the oldest first, `-` for none
abbrev pub text_of_lines : List Line → List ℕ
text_of_lines [] = dash
text_of_lines (l ∷ lines) = text_of_said l.sender l.payload ++ text_of_more lines

-- the line of a member whose chat holds these lines: `chat P LINES`, with its line feed
abbrev pub chat_line : Address → List Line → List ℕ
chat_line member lines = line_with (codes "chat") (field (text_of_address member) ++ field (text_of_lines lines))
