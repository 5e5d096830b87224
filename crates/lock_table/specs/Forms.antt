-- A lock that is held; as bytes, and from bytes.
use Rattle.std.specs.Prelude.{ℕ, ◌+◌, ◌*◌, ◌≤◌, List, [], ◌∷◌, ◌++◌, length, Some}
use Rattle.std.specs.List.{AllByRecursion}
use Rattle.address.specs.Ids.{Address, IsAddress}
use Rattle.big_endian.specs.Spelled.{address_bytes}
use Rattle.big_endian.specs.Reading.{Read, ◌>>=◌, address_at}
use Rattle.keyed_state.specs.declared.token.Token.{Token}
use Rattle.keyed_state.specs.Tokens.{IsToken}
use Rattle.keyed_state.specs.Spelling.{token_bytes, token_at, both_at, counted_at, counted_bytes}
use Rattle.keyed_state.specs.States.{Form}

-- a lock that is held: by whom, with which token, and who waits for it, in the order of their requests
pub record Lock : Type 0 where
  pub holder : Address
  pub token : Token
  pub waiters : List Address

-- who stand at a lock: its holder, and behind it those who wait
abbrev pub queue : Lock → List Address
queue l = l.holder ∷ l.waiters

-- a lock that nobody waits for
abbrev pub granted : Address → Token → Lock
granted p token = record { holder = p; token = token; waiters = [] }

pub record IsLock (l : Lock) : Type 0 where
  pub holder : IsAddress l.holder
  pub token : IsToken l.token
  pub waiters : AllByRecursion IsAddress l.waiters

-- the locks that can be spelled
pub record IsShort (l : Lock) : Type 0 where
  pub is : IsLock l
  pub few : length l.waiters ≤ 4294967295

-- ---- those who wait: their number in four bytes, and they

abbrev pub waiters_bytes : List Address → List ℕ
waiters_bytes ps = counted_bytes 4 address_bytes ps

abbrev pub waiters_at : List ℕ → Read (List Address)
waiters_at bytes = counted_at 4 0 4294967295 address_at bytes

-- ---- a lock: its holder, its token, and who waits

abbrev pub lock_bytes : Lock → List ℕ
lock_bytes l = address_bytes l.holder ++ (token_bytes l.token ++ waiters_bytes l.waiters)

unfoldable pub lock_at : List ℕ → Read Lock
lock_at bytes = do
  holder ← address_at bytes
  grant ← both_at token_at waiters_at holder.1
  Some (record { holder = holder.0; token = grant.0.0; waiters = grant.0.1 }, grant.1)

-- in how many bytes: its holder in 6, its token in 22, the number of those who wait in 4, each of them in 6
abbrev pub lock_form : Form Lock
lock_form = record { bytes_of = lock_bytes; size_of = λ l. 32 + 6 * length l.waiters; read_at = lock_at; token_of = λ l. l.token; IsValue = IsLock; IsShort = IsShort }
