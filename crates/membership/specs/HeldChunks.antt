-- The chunks of a state that are held, and the state that they make.
use Rattle.std.specs.Prelude.{ℕ, ◌+◌, ◌-◌, ◌/◌, Bool, true, not, ◌&&◌, List, [], find, Option, Some, None, nat_eq}
use Rattle.std.specs.List.{list_all, list_any, flat_map, range_with_len}
use Rattle.std.specs.Option.{option_map_or}
use Rattle.address.specs.declared.limits.TheConstants.{CHUNK}
use Rattle.wire_values.specs.Values.{Chunk}
use Rattle.wire_values.specs.declared.values.state.GivenState.{GivenState}
use Rattle.wire_values.specs.declared.values.state.GivenState.TheVariants as forms

-- how many chunks a state of so many bytes has, and their indexes
abbrev pub chunk_count : ℕ → ℕ
chunk_count total = (total + (CHUNK - 1)) / CHUNK

abbrev pub indexes : ℕ → List ℕ
indexes total = range_with_len 1 (chunk_count total)

-- whether a chunk is held beside these: it is of a state of the same length, and none with its index is there
abbrev pub is_new : Chunk → List Chunk → Bool
is_new chunk held = list_all (λ c. nat_eq c.total chunk.total && not (nat_eq c.index chunk.index)) held

-- whether a chunk is the one with this index, of a state of so many bytes
abbrev pub is_at : ℕ → ℕ → Chunk → Bool
is_at total index c = nat_eq c.total total && nat_eq c.index index

-- all chunks of a state of so many bytes are held
abbrev pub has_all : ℕ → List Chunk → Bool
has_all total held = list_all (λ k. list_any (is_at total k) held) (indexes total)

abbrev pub bytes_at : ℕ → List Chunk → ℕ → List ℕ
bytes_at total held index = option_map_or (λ c. c.bytes) (find (is_at total index) held) []

-- the bytes of a state's chunks, in order
abbrev pub joined_of : ℕ → List Chunk → List ℕ
joined_of total held = flat_map (bytes_at total held) (indexes total)

-- whether what an INSTALL says of a state is there: its chunks, where it goes in chunks
abbrev pub is_there : GivenState → List Chunk → Bool
is_there forms.Nothing held = true
is_there (forms.Whole bytes) held = true
is_there (forms.Chunked total) held = has_all total held

-- the state that it gives then
abbrev pub given_in : GivenState → List Chunk → Option (List ℕ)
given_in forms.Nothing held = None
given_in (forms.Whole bytes) held = Some bytes
given_in (forms.Chunked total) held = Some (joined_of total held)
