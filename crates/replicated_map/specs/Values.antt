-- What a key has: a value, and the version that it was given with; as bytes, and from bytes.
use Rattle.std.specs.Prelude.{ℕ, ◌+◌, ◌≤◌, List, ◌++◌, length, Some}
use Rattle.big_endian.specs.Reading.{Read, ◌>>=◌, sized_bytes, sized_at}
use Rattle.keyed_state.specs.declared.token.Token.{Token}
use Rattle.keyed_state.specs.Tokens.{IsToken}
use Rattle.keyed_state.specs.Spelling.{token_bytes, token_at}
use Rattle.keyed_state.specs.States.{Form}
use Rattle.replicated_map.specs.declared.TheConstants.{VALUE}
use Rattle.replicated_map.specs.declared.entries.Held.{Held}

-- the values that a map may hold: of at most 400 bytes
abbrev pub IsValue : List ℕ → Type 0
IsValue v = length v ≤ VALUE

-- a value of a version
abbrev pub held : Token → List ℕ → Held
held version v = record { version = version; value = v }

pub record IsHeld (h : Held) : Type 0 where
  pub version : IsToken h.version
  pub value : IsValue h.value

-- ---- a value: its length in two bytes, and its bytes

abbrev pub value_bytes : List ℕ → List ℕ
value_bytes v = sized_bytes v

abbrev pub value_at : List ℕ → Read (List ℕ)
value_at bytes = sized_at VALUE bytes

-- ---- what a key has: its version, and its value

abbrev pub held_bytes : Held → List ℕ
held_bytes h = token_bytes h.version ++ value_bytes h.value

unfoldable pub held_at : List ℕ → Read Held
held_at bytes = do
  version ← token_at bytes
  value ← value_at version.1
  Some (held version.0 value.0, value.1)

-- in how many bytes: the version in 22, the length of the value in two
abbrev pub held_form : Form Held
held_form = record { bytes_of = held_bytes; size_of = λ h. 24 + length h.value; read_at = held_at; token_of = λ h. h.version; IsValue = IsHeld; IsShort = IsHeld }
