-- A state in chunks: the second joins, the packets to it are lost, it asks again, and puts the state together of the chunk that comes then. For a receiver
-- whose state is one byte; the law asks for no length.
use Rattle.std.specs.Prelude.{ℕ, None, Some, List, [], ◌∷◌, take}
use Rattle.wire_values.specs.Values.{nothing_reported}
use Rattle.wire_values.specs.Values as wire
use Rattle.wire_values.specs.declared.packet.Body.TheVariants as bodies
use Rattle.wire_values.specs.declared.values.state.GivenState.TheVariants as forms
use Rattle.state_transfer.specs.Meanings.{Meaning}
use Rattle.trace_props.specs.declared.event.Event.{Event}
use Rattle.trace_props.specs.declared.event.Event.TheVariants.{Started, Blocked}
use Rattle.law_acts.specs.Acts.{Creates, Joins, Puts, Promises, Begins, Records, Gathers, Finishes, Enters, lone_view}
use Rattle.law_acts.specs.Steps.{Step, Start, Does}
use Rattle.law_acts.specs.Stories.{Plays, one, two, view_of_two, two_reports, empty_cuts, flush_with, installs}

-- a receiver whose state is a list of bytes that no message changes
abbrev pub constant_bytes : Meaning (List ℕ)
constant_bytes = record { opening = 97 ∷ []; apply = λ s from payload. s; encode = λ s. s; decode = λ s. Some s; is_state = λ s. Unit {0} }

abbrev pub only_chunk : wire.Chunk
only_chunk = record { total = 1; index = 1; bytes = 97 ∷ [] }

abbrev pub in_chunks : wire.Install
in_chunks = record { view = view_of_two; together = two ∷ []; base = 0; items = []; state = forms.Chunked 1 }

abbrev pub chunk_chapter : List Step
chunk_chapter =
    Start one
    ∷ Does one None Creates
    ∷ Start two
    ∷ Does two None Joins
    ∷ Does two None (Puts one bodies.Join)
    ∷ Does one (Some 0) (Begins view_of_two)
    ∷ Does two (Some 1) (Promises view_of_two)
    ∷ Does one (Some 2) (Records (flush_with view_of_two (take 1 two_reports)) two nothing_reported)
    ∷ Does one (Some 2) (Finishes (lone_view one) (flush_with view_of_two two_reports) empty_cuts (forms.Chunked 1))
    ∷ Does one (Some 2) (Puts two (bodies.State view_of_two.id only_chunk))
    ∷ Does one (Some 2) (Puts two (bodies.Install in_chunks))
    ∷ Does two (Some 5) (Gathers view_of_two.id only_chunk ((view_of_two.id, only_chunk) ∷ []))
    ∷ Does two (Some 6) (Enters in_chunks (Some (97 ∷ [])))
    ∷ []

-- the trace: the second is given the byte
abbrev pub chunk_happened : List Event
chunk_happened =
    Started one
    ∷ installs one None (lone_view one) (one ∷ []) None
    ∷ Started two
    ∷ Blocked one
    ∷ installs one (Some (lone_view one).id) view_of_two (one ∷ []) None
    ∷ installs two None view_of_two (two ∷ []) (Some (97 ∷ []))
    ∷ []

abbrev pub ChunkPlays : Type 0
ChunkPlays = Plays constant_bytes chunk_chapter chunk_happened
