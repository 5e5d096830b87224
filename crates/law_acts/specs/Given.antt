-- How a state is given: itself, or by how many bytes it has, with its chunks apart.
use Rattle.std.specs.Prelude.{◌≡◌, ◌≤◌, ◌+◌, ◌-◌, ◌/◌, ℕ, Option, None, Some, List, [], ◌∷◌, min, map, length}
use Rattle.std.specs.List.{Contains, flat_map, range_with_len}
use Rattle.std.specs.Option.{IsSomeAnd}
use Rattle.address.specs.Ids.{ViewId}
use Rattle.address.specs.declared.limits.TheConstants.{CHUNK}
use Rattle.wire_values.specs.Chunks.{IsPlace, chunk_of}
use Rattle.wire_values.specs.Values as wire
use Rattle.wire_values.specs.declared.values.state.GivenState.{GivenState}
use Rattle.wire_values.specs.declared.values.state.GivenState.TheVariants as forms

-- the chunk of a state with an index, and all of its chunks
abbrev pub chunk_at : List ℕ → ℕ → wire.Chunk
chunk_at state index = record { total = length state; index = index; bytes = chunk_of state index }

abbrev pub chunks_of : List ℕ → List wire.Chunk
chunks_of state = map (chunk_at state) (range_with_len 1 ((length state + (CHUNK - 1)) / CHUNK))

-- what an instruction says of the state that it gives, if it gives one
abbrev pub Tells : GivenState → Option (List ℕ) → Type 0
Tells forms.Nothing state = state ≡ None
Tells (forms.Whole bytes) state = state ≡ Some bytes
Tells (forms.Chunked total) state = IsSomeAnd state (λ bytes. length bytes ≡ total)

-- all chunks of a state are held for a proposal
abbrev pub HoldsChunks : List (ViewId × wire.Chunk) → ViewId → List ℕ → Type 0
HoldsChunks chunks w state = (k : ℕ) → IsPlace (length state) k → Contains chunks (w, chunk_at state k)

-- the state that an instruction gives to one who holds these chunks
abbrev pub IsGiven : List (ViewId × wire.Chunk) → ViewId → GivenState → Option (List ℕ) → Type 0
IsGiven chunks w forms.Nothing state = state ≡ None
IsGiven chunks w (forms.Whole bytes) state = state ≡ Some bytes
IsGiven chunks w (forms.Chunked total) state = IsSomeAnd state (λ bytes. (length bytes ≡ total) × HoldsChunks chunks w bytes)

-- chunks one behind the other
abbrev pub joined : List (List ℕ) → List ℕ
joined parts = flat_map (λ x. x) parts

-- all chunks of a state with so many bytes, in order, each as long as it is to be
abbrev pub AreChunks : ℕ → List (List ℕ) → Type 0
AreChunks total [] = total ≡ 0
AreChunks total (x ∷ parts) = (length x ≡ min total CHUNK) × (1 ≤ total) × AreChunks (total - CHUNK) parts

-- what a coordinator keeps of the state that it gives: all of it where it goes in chunks
abbrev pub kept_bytes : GivenState → List ℕ → Option (List ℕ)
kept_bytes forms.Nothing state = None
kept_bytes (forms.Whole bytes) state = None
kept_bytes (forms.Chunked total) state = Some state
