-- What the map means as a receiver.
use Rattle.std.specs.Prelude.{[]}
use Rattle.state_transfer.specs.Meanings.{Meaning}
use Rattle.keyed_state.specs.Tokens.{least_token}
use Rattle.replicated_map.specs.Entries.{MapState, IsMap}
use Rattle.replicated_map.specs.Encoding.{map_encode, map_decode}
use Rattle.replicated_map.specs.Commands.{map_apply}

-- at the beginning no key has a value, and no version was given
abbrev pub no_entries : MapState
no_entries = record { last = least_token; entries = [] }

abbrev pub map_meaning : Meaning MapState
map_meaning = record { opening = no_entries; apply = map_apply; encode = map_encode; decode = map_decode; is_state = IsMap }
