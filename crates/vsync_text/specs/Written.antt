-- Texts that are written part by part.
use Rattle.std.specs.Prelude.{◌≡◌, ℕ, Bool, false, List, ◌++◌}

-- a text: its bytes, and whether memory was refused to a part of it
pub record TextModel : Type 0 where
  pub items : List ℕ
  pub is_short : Bool

-- bytes are appended: a text that is whole then was whole before, and ends in them
pub record Appends (bytes : List ℕ) (old new : TextModel) : Type 0 where
  pub whole : new.is_short ≡ false → old.is_short ≡ false
  pub text : new.is_short ≡ false → new.items ≡ old.items ++ bytes
