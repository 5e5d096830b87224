-- Where all chunks of a state are held, what they make is the state that an INSTALL gives.
use Rattle.std.proofs.Common.{◌≡◌, ◌≤◌, ◌<◌, ◌+◌, ◌-◌, ◌*◌, ℕ, zero, suc, true, false, Some, List, [], ◌∷◌, ◌++◌, length, map, refl, sym, ap, subst, ◌∙◌, arith, inl, inr}
use Rattle.std.specs.Prelude.{slice_get}
use Rattle.std.specs.List.{AllByRecursion, Contains, list_all, list_any, flat_map, range_with_len}
use Rattle.std.proofs.lemmas.Bool.{and_parts, eqb-true, cases_Bool}
use Rattle.std.proofs.lemmas.List.{map-append}
use Rattle.std.proofs.lemmas.List.Elements.{Contains-append_right}
use Rattle.std.proofs.lemmas.Option.{none-some, same_Some, slice_get-map}
use Rattle.std.specs.Option.{option_map}
use Rattle.trace_props.proofs.KeepFourRules.{Contains-at}
use Rattle.address.specs.Ids.{ViewId}
use Rattle.address.specs.declared.limits.TheConstants.{CHUNK}
use Rattle.wire_values.specs.Values.{Chunk}
use Rattle.wire_values.specs.Chunks.{chunk_len}
use Rattle.wire_values.specs.Lists.{IsChunk}
use Rattle.wire_values.specs.declared.values.state.GivenState.{GivenState}
use Rattle.wire_values.specs.declared.values.state.GivenState.TheVariants as forms
use Rattle.law_acts.specs.Given.{IsGiven, joined, AreChunks}
use Rattle.law_acts.proofs.Lists.{place-of}
use Rattle.law_acts.proofs.JoinedChunks.{joined-given}
use Rattle.membership.specs.HeldChunks.{chunk_count, indexes, is_at, bytes_at, is_there, given_in}

-- the chunk with an index, as it is held
abbrev held_chunk : ℕ → ℕ → List Chunk → Chunk
held_chunk total index held = record { total = total; index = index; bytes = bytes_at total held index }

-- chunks that agree in each part are the same
same-chunk : (c d : Chunk) → c.total ≡ d.total → c.index ≡ d.index → c.bytes ≡ d.bytes → c ≡ d
same-chunk c d total index bytes =
    ap {B = Chunk} (λ (n : ℕ). record { total = n; index = c.index; bytes = c.bytes }) total
    ∙ ap {B = Chunk} (λ (n : ℕ). record { total = d.total; index = n; bytes = c.bytes }) index
    ∙ ap {B = Chunk} (λ (l : List ℕ). record { total = d.total; index = d.index; bytes = l }) bytes

-- it is one of those that are held, and as long as it is to be
record IsHeld (total index : ℕ) (held : List Chunk) : Type 0 where
  there : Contains held (held_chunk total index held)
  long : length (bytes_at total held index) ≡ chunk_len total index

-- a chunk that has this index is the first that does
held-first : (total index : ℕ) (c : Chunk) (held : List Chunk) → IsChunk c → is_at total index c ≡ true → IsHeld total index (c ∷ held)
held-first total index c held is here =
    let both = and_parts _ _ here in
    let bytes : bytes_at total (c ∷ held) index ≡ c.bytes = rw here in
    let same = same-chunk c (held_chunk total index (c ∷ held)) (eqb-true c.total total both.0) (eqb-true c.index index both.1) (sym bytes) in
    record { there = (0, omega arith, same); long = omega (arith, is.cut, ap length bytes, eqb-true c.total total both.0, eqb-true c.index index both.1) }

-- behind a chunk that has another it is what it is among the others
held-behind : (total index : ℕ) (c : Chunk) (held : List Chunk) → is_at total index c ≡ false → IsHeld total index held → IsHeld total index (c ∷ held)
held-behind total index c held other h =
    let bytes : bytes_at total held index ≡ bytes_at total (c ∷ held) index = rw other in
    record {
      there = subst (λ l. Contains (c ∷ held) (record { total = total; index = index; bytes = l })) bytes
          (Contains-append_right (c ∷ []) held (held_chunk total index held) h.there);
      long = ap length (sym bytes) ∙ h.long;
    }

-- where one is there at an index, it is held
is-held : (total index : ℕ) (held : List Chunk) → AllByRecursion IsChunk held → list_any (is_at total index) held ≡ true → IsHeld total index held
is-held total index [] all any = cc
is-held total index (c ∷ held) all any =
    elim (cases_Bool (is_at total index c)) [
      | inl here ↦ held-first total index c held all.0 here
      | inr other ↦ held-behind total index c held other (is-held total index held all.1 (rw other at any))
    ]

module _ (total : ℕ) (held : List Chunk) (all : AllByRecursion IsChunk held) where
  -- the chunks from an index on, of so many bytes that are left
  are-chunks : (done left count : ℕ) → list_all (λ k. list_any (is_at total k) held) (range_with_len (done + 1) count) ≡ true
      → left ≡ total - CHUNK * done → left ≤ CHUNK * count → CHUNK * count < left + CHUNK
      → AreChunks left (map (bytes_at total held) (range_with_len (done + 1) count))
  are-chunks done left zero has is enough few = omega arith
  are-chunks done left (suc count) has is enough few =
      let first = is-held total (done + 1) held all (and_parts _ _ has).0 in
      (omega (arith, first.long), omega arith, are-chunks (done + 1) (left - CHUNK) count (and_parts _ _ has).1 (omega arith) (omega arith) (omega arith))

  -- each of them is one of those that are held
  parts-held : (first count j n : ℕ) (x : List ℕ) → list_all (λ k. list_any (is_at total k) held) (range_with_len first count) ≡ true
      → slice_get (map (bytes_at total held) (range_with_len first count)) j ≡ Some x → n ≡ first + j
      → Contains held (record { total = total; index = n; bytes = x })
  parts-held first zero j n x has at is = absurd (none-some x at)
  parts-held first (suc count) zero n x has at is =
      subst (Contains held) (same-chunk (held_chunk total first held) (record { total = total; index = n; bytes = x }) refl (omega arith) (same_Some (bytes_at total held first) x at))
      (is-held total first held all (and_parts _ _ has).0).there
  parts-held first (suc count) (suc j) n x has at is = parts-held (first + 1) count j n x (and_parts _ _ has).1 at (omega arith)

-- parts that are mapped and joined
joined-map : (f : ℕ → List ℕ) (xs : List ℕ) → joined (map f xs) ≡ flat_map f xs
joined-map f [] = refl
joined-map f (x ∷ xs) = ap (λ l. f x ++ l) (joined-map f xs)

-- what is held is held for the proposal
held-for : (chunks : List Chunk) (w : ViewId) (c : Chunk) → Contains chunks c → Contains {X = ViewId × Chunk} (map (λ c. (w, c)) chunks) (w, c)
held-for chunks w c held =
    let place = place-of chunks c held in
    Contains-at (map (λ c. (w, c)) chunks) place.0 (w, c) (slice_get-map (λ c. (w, c)) chunks place.0 ∙ ap (option_map (λ c. (w, c))) place.1)

-- where what an INSTALL says of a state is there, what the chunks make is the state that it gives
pub given-there : (chunks : List Chunk) (w : ViewId) (g : GivenState) → AllByRecursion IsChunk chunks → is_there g chunks ≡ true
    → IsGiven (map (λ c. (w, c)) chunks) w g (given_in g chunks)
given-there chunks w forms.Nothing all there = refl
given-there chunks w (forms.Whole bytes) all there = refl
given-there chunks w (forms.Chunked total) all there =
    let held : List (ViewId × Chunk) = map (λ c. (w, c)) chunks in
    let f = bytes_at total chunks in
    subst (λ l. IsGiven held w (forms.Chunked total) (Some l)) (joined-map f (indexes total))
    (joined-given held w total (map f (indexes total))
    (are-chunks total chunks all 0 total (chunk_count total) there (omega arith) (omega arith) (omega arith))
    (λ j x at. held-for chunks w (record { total = total; index = j + 1; bytes = x }) (parts-held total chunks all 1 (chunk_count total) j (j + 1) x there at (omega arith))))

-- one chunk more is all that is held more for a proposal
pub held-more : (chunks : List Chunk) (w : ViewId) (chunk : Chunk) (k : ℕ) (x : ViewId × Chunk) → slice_get (map (λ c. (w, c)) (chunks ++ chunk ∷ [])) k ≡ Some x
    → Contains (map (λ c. (w, c)) chunks ++ (w, chunk) ∷ []) x
held-more chunks w chunk k x at =
    subst (λ l. Contains l x) (map-append (λ c. (w, c)) chunks (chunk ∷ [])) (Contains-at (map (λ c. (w, c)) (chunks ++ chunk ∷ [])) k x at)
