-- The map's state: the last version, and the values that keys have, each with its version; how many bytes they are encoded in, and which are a map.
use Rattle.std.specs.Prelude.{ℕ, Bool, ◌&&◌, List, [], Option, if◌then◌else◌, nat_le}
use Rattle.std.specs.Option.{option_map}
use Rattle.std.specs.Borrow.{Bor}
use Rattle.address.specs.Ids.{ViewId}
use Rattle.keyed_state.specs.declared.entries.KeyedEntry.{KeyedEntry}
use Rattle.keyed_state.specs.Entries.{entry_of, value_of, put, without}
use Rattle.keyed_state.specs.declared.token.Token.{Token}
use Rattle.keyed_state.specs.Tokens.{next_token}
pub use Rattle.keyed_state.specs.States.{state_of}
use Rattle.keyed_state.specs.States.{KeyedState, IsState, state_size}
use Rattle.address.specs.declared.limits.TheConstants.{STATE, GREATEST_NUMBER}
use Rattle.replicated_map.specs.declared.entries.Held.{Held}
pub use Rattle.replicated_map.specs.Values.{IsValue, held}
use Rattle.replicated_map.specs.Values.{held_form}

-- the last version that was given, and what the keys have
abbrev pub MapState : Type 0
MapState = KeyedState Held

-- what a key has: a value and its version
abbrev pub held_of : List ℕ → MapState → Option Held
held_of k s = value_of k s.entries

abbrev pub value_in : Option Held → Option (List ℕ)
value_in found = option_map (λ h. h.value) found

abbrev pub version_in : Option Held → Option Token
version_in found = option_map (λ h. h.version) found

-- how many bytes a state is encoded in: the last version in 22, the number of its entries in four; of an entry the lengths of its key and value in three, its version in 22
abbrev pub map_size : List (KeyedEntry Held) → ℕ
map_size entries = state_size held_form entries

-- the states of a map: the keys rise, no version is above the last, and the encoding fits into a state
abbrev pub IsMap : MapState → Type 0
IsMap s = IsState held_form s

-- ---- what a command makes of a state

-- with a value for a key, of the next version
abbrev pub given : ViewId → List ℕ → List ℕ → MapState → MapState
given view k v s = record { last = next_token view s.last; entries = put k (held (next_token view s.last) v) s.entries }

-- whether a state is within its limits: its bytes, and the count of its last version
abbrev pub is_within : MapState → Bool
is_within s = nat_le (map_size s.entries) STATE && nat_le s.last.count GREATEST_NUMBER

-- with a value for a key, if the state stays within its limits
abbrev pub put_within : ViewId → List ℕ → List ℕ → MapState → MapState
put_within view k v s = if is_within (given view k v s) then given view k v s else s

-- without what a key has
abbrev pub removed : List ℕ → MapState → MapState
removed k s = record { last = s.last; entries = without k s.entries }

-- without what any key has
abbrev pub cleared : MapState → MapState
cleared s = record { last = s.last; entries = [] }

-- ---- what is lent of it

abbrev pub held_lent : Option (Bor Held) → Option Held
held_lent found = option_map (λ h. h.now) found

-- an entry that is lent as its key and what it has
abbrev pub entry_lent : Option (Bor (List ℕ) × Bor Held) → Option (KeyedEntry Held)
entry_lent found = option_map (λ e. entry_of e.0.now e.1.now) found
