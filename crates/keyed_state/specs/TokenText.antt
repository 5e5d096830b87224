-- Tokens in texts.
use Rattle.std.specs.Prelude.{ℕ, ◌∷◌, ◌++◌, List, Option, Some}
use Rattle.std.specs.Fmt.{decimal}
use Rattle.address.specs.Ids.{text_of_view_id}
use Rattle.address.specs.declared.limits.TheConstants.{GREATEST_NUMBER}
use Rattle.vsync_text.specs.Lines.{before_byte, behind_byte}
use Rattle.vsync_text.specs.Numbers.{number_in}
use Rattle.vsync_text.specs.Forms.{◌>>=◌}
use Rattle.vsync_text.specs.Spelling.{view_id_of_text}
use Rattle.keyed_state.specs.declared.token.Token.{Token}

-- a token: `VIEW/COUNT`
abbrev pub text_of_token : Token → List ℕ
text_of_token t = text_of_view_id t.view ++ 47 ∷ decimal t.count

-- the token that a text spells
unfoldable pub token_of_text : List ℕ → Option Token
token_of_text text = do
  view ← view_id_of_text (before_byte 47 text)
  behind ← behind_byte 47 text
  count ← number_in 0 GREATEST_NUMBER behind
  Some (record { view = view; count = count })
