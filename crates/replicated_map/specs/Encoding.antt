-- The map's state as bytes, and the state that bytes stand for: the last version, the number of entries in four bytes, and the entries, their keys rising.
use Rattle.std.specs.Prelude.{ℕ, List, Option}
use Rattle.keyed_state.specs.States.{state_encode, state_decode}
use Rattle.replicated_map.specs.Values.{held_form}
use Rattle.replicated_map.specs.Entries.{MapState}

abbrev pub map_encode : MapState → List ℕ
map_encode s = state_encode held_form s

-- nothing follows the last entry, the bytes are few enough, the keys rise, and no version is above the last
abbrev pub map_decode : List ℕ → Option MapState
map_decode bytes = state_decode held_form bytes
