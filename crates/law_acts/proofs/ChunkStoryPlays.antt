-- The story of a state in chunks is allowed, and its trace comes of it.
use Rattle.std.proofs.Common.{◌≡◌, ℕ, ◌∷◌, ◌++◌, [], Some, List, refl, subst, arith, inl}
use Rattle.std.specs.Prelude.{IsSome, slice_get}
use Rattle.std.specs.List.{Contains}
use Rattle.std.proofs.lemmas.Option.{slice_get_within, get_or_from_slice_get}
use Rattle.address.specs.Ids.{ViewId}
use Rattle.wire_values.specs.Chunks.{IsPlace}
use Rattle.wire_values.specs.Values as wire
use Rattle.trace_props.specs.Rules.{IsBelow}
use Rattle.law_acts.specs.Given.{HoldsChunks, chunk_at}
use Rattle.law_acts.specs.Acts.{lone_view}
use Rattle.law_acts.specs.Steps.{nothing_yet, MayRun}
use Rattle.law_acts.specs.Stories.{one, view_of_two, two_reports, empty_cuts}
use Rattle.law_acts.specs.ChunkStory.{constant_bytes, only_chunk, chunk_chapter, ChunkPlays}
use Rattle.law_acts.proofs.StoriesPlay.{◌▸◌, for-none, for-some, one-is, two-is, two-cuts, all-reported, cuts-of}

-- a state of one byte has one chunk
first-place : (k : ℕ) → IsPlace 1 k → 1 ≡ k
first-place k place = omega (arith, place.0, place.1)

-- which the second holds
holds-it : HoldsChunks ((view_of_two.id, only_chunk) ∷ []) view_of_two.id (97 ∷ [])
holds-it k place =
    subst (λ (n : ℕ). Contains {X = ViewId × wire.Chunk} ((view_of_two.id, only_chunk) ∷ []) (view_of_two.id, chunk_at (97 ∷ []) n)) (first-place k place) (0, omega arith, refl)

-- what it holds is what came
all-held : (k : ℕ) (x : ViewId × wire.Chunk) → slice_get ((view_of_two.id, only_chunk) ∷ []) k ≡ Some x → Contains ([] ++ (view_of_two.id, only_chunk) ∷ []) x
all-held k x at = (k, slice_get_within ((view_of_two.id, only_chunk) ∷ []) k x at, get_or_from_slice_get ((view_of_two.id, only_chunk) ∷ []) k x x at)

chunk-runs : MayRun constant_bytes nothing_yet chunk_chapter
chunk-runs =
    (one-is, refl)
    ▸ record { unconnected = refl; unpromised = refl; outside = refl }
    ▸ (two-is, refl)
    ▸ refl
    ▸ tt
    ▸ record { inside = refl; own = refl; above = for-some (λ p. IsBelow p.id view_of_two.id) (lone_view one) refl; view = refl }
    ▸ record { asked = refl; listed = refl; connected = refl; above = inl (for-none (λ p. IsBelow p.id view_of_two.id)) }
    ▸ record { flush = refl; received = refl; listed = refl; new = refl }
    ▸ record { view = refl; flush = refl; all = all-reported two_reports; cut = cuts-of two_reports empty_cuts two-cuts; gives = refl }
    ▸ (97 ∷ [], refl, refl, refl)
    ▸ (refl, refl)
    ▸ record { sent = refl; promised = (refl, refl); fewer = all-held }
    ▸ record { asked = refl; promised = refl; waiting = refl; fits = record { base = refl; items = refl; state = refl }; gives = (refl, holds-it); readable = for-some (λ (bytes : List ℕ). IsSome (Some bytes)) (97 ∷ []) refl }
    ▸ tt

pub chunk-plays : ChunkPlays
chunk-plays = (chunk-runs, refl)
