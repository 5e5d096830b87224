-- Chunks in order of their indexes, all of them, each as long as it is to be: joined they are a state of that length, and its chunks are these.
use Rattle.std.proofs.Common.{◌≡◌, ℕ, zero, suc, ◌+◌, ◌-◌, ◌*◌, ◌<◌, Some, List, [], ◌∷◌, ◌++◌, length, take, drop, refl, sym, ap, ◌∙◌, subst, arith, inl, inr}
use Rattle.std.specs.Prelude.{slice_get}
use Rattle.std.specs.List.{Contains}
use Rattle.std.proofs.lemmas.Option.{none-some, same_Some}
use Rattle.std.proofs.lemmas.List.{length-append, append-nil, take_at, drop_at, drop-drop, take_all}
use Rattle.std.proofs.lemmas.Bool.{cases_lt}
use Rattle.address.specs.Ids.{ViewId}
use Rattle.address.specs.declared.limits.TheConstants.{CHUNK}
use Rattle.wire_values.specs.Chunks.{chunk_of}
use Rattle.wire_values.specs.Values as wire
use Rattle.wire_values.specs.declared.values.state.GivenState.TheVariants as forms
use Rattle.law_acts.specs.Given.{IsGiven, joined, AreChunks}

-- they have as many bytes as the state
pub joined-length : (total : ℕ) (parts : List (List ℕ)) → AreChunks total parts → length (joined parts) ≡ total
joined-length total [] is = sym is
joined-length total (x ∷ parts) is =
    let rest = joined-length (total - CHUNK) parts is.2 in
    omega (arith, length-append x (joined parts), is.0)

-- there is one at each place
pub there-is : (total : ℕ) (parts : List (List ℕ)) (j : ℕ) → AreChunks total parts → CHUNK * j < total → (x : List ℕ) × (slice_get parts j ≡ Some x)
there-is total [] j is lt = absurd (omega (arith, is))
there-is total (x ∷ parts) zero is lt = (x, refl)
there-is total (x ∷ parts) (suc j) is lt = there-is (total - CHUNK) parts j is.2 (omega arith)

-- behind a short one there is none
last-of : (total : ℕ) (parts : List (List ℕ)) → AreChunks total parts → total ≡ 0 → parts ≡ []
last-of total [] is none = refl
last-of total (x ∷ parts) is none = absurd (omega (arith, is.1))

-- each is the chunk of its place
pub chunk-is : (total : ℕ) (parts : List (List ℕ)) (j : ℕ) (x : List ℕ) → AreChunks total parts → slice_get parts j ≡ Some x → take CHUNK (drop (CHUNK * j) (joined parts)) ≡ x
chunk-is total [] j x is at = absurd (none-some x at)
chunk-is total (y ∷ parts) zero x is at =
    let same : y ≡ x = same_Some y x at in
    elim (cases_lt total CHUNK) [
      | inl short ↦
          let rest : parts ≡ [] = last-of (total - CHUNK) parts is.2 (omega arith) in
          let all : joined (y ∷ parts) ≡ y = ap (λ l. y ++ joined l) rest ∙ append-nil y in
          ap (take CHUNK) all ∙ take_all CHUNK y (omega (arith, is.0)) ∙ same
      | inr full ↦ take_at y (joined parts) CHUNK (omega (arith, is.0)) ∙ same
    ]
chunk-is total (y ∷ parts) (suc j) x is at =
    elim (cases_lt total (CHUNK + 1)) [
      | inl short ↦ absurd (none-some x (ap (λ l. slice_get l j) (sym (last-of (total - CHUNK) parts is.2 (omega arith))) ∙ at))
      | inr full ↦
          let at_next : CHUNK * suc j ≡ CHUNK + CHUNK * j = omega arith in
          ap (λ k. take CHUNK (drop k (joined (y ∷ parts)))) at_next
          ∙ ap (take CHUNK) (sym (drop-drop (CHUNK * j) CHUNK (joined (y ∷ parts))))
          ∙ ap (λ l. take CHUNK (drop (CHUNK * j) l)) (drop_at y (joined parts) CHUNK (omega (arith, is.0)))
          ∙ chunk-is (total - CHUNK) parts j x is.2 at
    ]

-- what a member joins of the chunks that it holds is a state that an instruction gives to it
pub joined-given : (chunks : List (ViewId × wire.Chunk)) (w : ViewId) (total : ℕ) (parts : List (List ℕ)) → AreChunks total parts
    → ((j : ℕ) (x : List ℕ) → slice_get parts j ≡ Some x → Contains chunks (w, record { total = total; index = j + 1; bytes = x }))
    → IsGiven chunks w (forms.Chunked total) (Some (joined parts))
joined-given chunks w total parts is held =
    let long = joined-length total parts is in (
      long,
      λ k place.
          let j = k - 1 in
          let part = there-is total parts j is (omega (arith, place.1, long)) in
          let bytes : chunk_of (joined parts) k ≡ part.0 = chunk-is total parts j part.0 is part.1 in
          let index : j + 1 ≡ k = omega (arith, place.0) in
          subst (λ (c : wire.Chunk). Contains chunks (w, c))
          (ap {B = wire.Chunk} (λ (n : ℕ). record { total = n; index = j + 1; bytes = part.0 }) (sym long)
          ∙ ap {B = wire.Chunk} (λ (n : ℕ). record { total = length (joined parts); index = n; bytes = part.0 }) index
          ∙ ap {B = wire.Chunk} (λ (l : List ℕ). record { total = length (joined parts); index = k; bytes = l }) (sym bytes))
          (held j part.0 part.1),
    )
