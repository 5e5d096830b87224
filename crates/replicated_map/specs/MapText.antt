-- The line of a map. It leaves the versions out.
use Rattle.std.specs.Prelude.{ℕ, ◌∷◌, [], ◌++◌, List, codes, flat_map}
use Rattle.address.specs.Ids.{Address, text_of_address}
use Rattle.keyed_state.specs.declared.entries.KeyedEntry.{KeyedEntry}
use Rattle.vsync_text.specs.TraceText.{hex_of, dash, field, line_with}
use Rattle.replicated_map.specs.declared.entries.Held.{Held}
use Rattle.replicated_map.specs.Entries.{MapState}

-- an entry: `KEY:VALUE`, both in hexadecimal
abbrev pub text_of_entry : KeyedEntry Held → List ℕ
text_of_entry e = hex_of e.key ++ 58 ∷ hex_of e.value.value

-- entries, each behind a comma
abbrev pub text_of_more : List (KeyedEntry Held) → List ℕ
text_of_more entries = flat_map (λ e. 44 ∷ text_of_entry e) entries

-- entries joined by commas, the keys rising, `-` for none
abbrev pub text_of_entries : List (KeyedEntry Held) → List ℕ
text_of_entries [] = dash
text_of_entries (e ∷ entries) = text_of_entry e ++ text_of_more entries

-- the line of a member whose map this is: `map P ENTRIES`, with its line feed
abbrev pub map_line : Address → MapState → List ℕ
map_line member s = line_with (codes "map") (field (text_of_address member) ++ field (text_of_entries s.entries))
