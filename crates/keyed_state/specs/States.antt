-- States that are entries in the order of their keys, and the last token that was given; as bytes, and the state that bytes stand for.
use Rattle.std.specs.Prelude.{◌≡◌, ℕ, ◌+◌, ◌≤◌, Bool, true, ◌==◌, ◌&&◌, List, ◌++◌, length, Option, Some, None, nat_le, if◌then◌else◌}
use Rattle.std.specs.List.{AllByRecursion, list_all, sum_by}
use Rattle.address.specs.declared.limits.TheConstants.{STATE}
use Rattle.big_endian.specs.Reading.{Read, ◌>>=◌}
use Rattle.keyed_state.specs.declared.entries.KeyedEntry.{KeyedEntry}
use Rattle.keyed_state.specs.Keys.{IsKey, key_bytes, key_at}
use Rattle.keyed_state.specs.Entries.{entry_of, rises, Rises}
use Rattle.keyed_state.specs.declared.token.Token.{Token}
use Rattle.keyed_state.specs.Tokens.{is_up_to, IsToken}
use Rattle.keyed_state.specs.Spelling.{token_bytes, token_at, counted_bytes, counted_at}

-- what a key may have: its bytes and how many, what bytes begin with, its token, which there are, and which of them can be spelled
pub record Form (V : Type 0) : Type 1 where
  pub bytes_of : V → List ℕ
  pub size_of : V → ℕ
  pub read_at : List ℕ → Read V
  pub token_of : V → Token
  pub IsValue : V → Type 0
  pub IsShort : V → Type 0

-- the last token that was given, and what the keys have
pub record KeyedState (V : Type 0) : Type 0 where
  pub last : Token
  pub entries : List (KeyedEntry V)

abbrev pub state_of : {V : Type 0} → Token → List (KeyedEntry V) → KeyedState V
state_of last entries = record { last = last; entries = entries }

-- ---- an entry: its key, and what it has

abbrev pub entry_bytes : {V : Type 0} → Form V → KeyedEntry V → List ℕ
entry_bytes form e = key_bytes e.key ++ form.bytes_of e.value

unfoldable pub entry_at : {V : Type 0} → Form V → List ℕ → Read (KeyedEntry V)
entry_at form bytes = do
  key ← key_at bytes
  value ← form.read_at key.1
  Some (entry_of key.0 value.0, value.1)

-- in how many bytes: the length of the key in one
abbrev pub entry_size : {V : Type 0} → Form V → KeyedEntry V → ℕ
entry_size form e = 1 + length e.key + form.size_of e.value

-- ---- the state: the last token, the number of entries in four bytes, and the entries, their keys rising

abbrev pub state_encode : {V : Type 0} → Form V → KeyedState V → List ℕ
state_encode form s = token_bytes s.last ++ counted_bytes 4 (entry_bytes form) s.entries

unfoldable pub state_at : {V : Type 0} → Form V → List ℕ → Read (KeyedState V)
state_at form bytes = do
  last ← token_at bytes
  entries ← counted_at 4 0 4294967295 (entry_at form) last.1
  Some (state_of last.0 entries.0, entries.1)

-- in how many bytes: the last token in 22, the number of entries in four
abbrev pub state_size : {V : Type 0} → Form V → List (KeyedEntry V) → ℕ
state_size form entries = 26 + sum_by (entry_size form) entries

-- whether no token is above the last
abbrev pub are_up_to : {V : Type 0} → Form V → Token → List (KeyedEntry V) → Bool
are_up_to form last entries = list_all (λ e. is_up_to (form.token_of e.value) last) entries

-- the state that bytes stand for: nothing follows its last entry, the bytes are few enough, the keys rise, and no token is above the last
unfoldable pub state_decode : {V : Type 0} → Form V → List ℕ → Option (KeyedState V)
state_decode form bytes = do
  state ← state_at form bytes
  if (length state.1 == 0) && (nat_le (length bytes) STATE && (rises state.0.entries && are_up_to form state.0.last state.0.entries)) then Some state.0 else None

-- ---- the states that there are

pub record IsEntry {V : Type 0} (form : Form V) (e : KeyedEntry V) : Type 0 where
  pub key : IsKey e.key
  pub value : form.IsValue e.value

-- no token is above the last
abbrev pub AreUpTo : {V : Type 0} → Form V → Token → List (KeyedEntry V) → Type 0
AreUpTo form last entries = AllByRecursion (λ e. is_up_to (form.token_of e.value) last ≡ true) entries

-- the keys rise, no token is above the last, and the encoding fits into a state
pub record IsState {V : Type 0} (form : Form V) (s : KeyedState V) : Type 0 where
  pub last : IsToken s.last
  pub entries : AllByRecursion (IsEntry form) s.entries
  pub tokens : AreUpTo form s.last s.entries
  pub rises : Rises s.entries
  pub fits : state_size form s.entries ≤ STATE
