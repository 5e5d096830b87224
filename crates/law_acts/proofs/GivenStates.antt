-- The state that an instruction gives is that with which the view begins, also where it is put together of chunks.
use Rattle.std.proofs.Common.{◌≡◌, ℕ, zero, suc, ◌+◌, ◌-◌, ◌*◌, ◌≤◌, ◌<◌, Bool, true, false, cond, Option, Some, None, List, ◌++◌, length, take, drop, refl, sym, ap, ◌∙◌, subst, arith, inl, inr}
use Rattle.std.specs.Prelude.{slice_get}
use Rattle.std.specs.Option.{ForSome, IsSomeAnd, option_map}
use Rattle.std.proofs.lemmas.Option.{none-some, same_Some}
use Rattle.std.proofs.lemmas.List.{length-drop, take-append-drop, drop-drop, nil_from_length}
use Rattle.std.proofs.lemmas.Bool.{cases_lt}
use Rattle.address.specs.Ids.{ViewId}
use Rattle.address.specs.declared.limits.TheConstants.{CHUNK}
use Rattle.wire_values.specs.Chunks.{IsPlace, chunk_of}
use Rattle.wire_values.specs.Values as wire
use Rattle.wire_values.specs.declared.values.state.GivenState.{GivenState}
use Rattle.wire_values.specs.declared.values.state.GivenState.TheVariants as forms
use Rattle.state_transfer.specs.Meanings.{Meaning}
use Rattle.trace_props.specs.State.{entry_state}
use Rattle.law_acts.specs.Given.{Tells, IsGiven, chunk_at}
use Rattle.law_acts.specs.Histories.{History}
use Rattle.law_acts.specs.Invariant.{EachPiece, HoldsPutOut}
use Rattle.law_acts.proofs.Lists.{place-of}

-- ---- lists of one length with the same pieces are the same

pub same-pieces : (n : ℕ) (xs ys : List ℕ) → length xs ≡ length ys → length xs ≤ CHUNK * n
    → ((j : ℕ) → CHUNK * j < length xs → take CHUNK (drop (CHUNK * j) xs) ≡ take CHUNK (drop (CHUNK * j) ys)) → xs ≡ ys
same-pieces zero xs ys len few same =
    nil_from_length xs (omega arith) ∙ sym (nil_from_length ys (omega arith))
same-pieces (suc n) xs ys len few same =
    elim (cases_lt 0 (length xs)) [
      | inl some ↦
          let front : take CHUNK xs ≡ take CHUNK ys = same 0 (omega arith) in
          let back : drop CHUNK xs ≡ drop CHUNK ys =
          same-pieces n (drop CHUNK xs) (drop CHUNK ys) (length-drop CHUNK xs ∙ ap (λ k. k - CHUNK) len ∙ sym (length-drop CHUNK ys)) (omega (arith, length-drop CHUNK xs))
          (λ j lt.
          let at : CHUNK * suc j ≡ CHUNK + CHUNK * j = omega arith in
          let inside : CHUNK * suc j < length xs = omega (arith, length-drop CHUNK xs) in
          let left : drop (CHUNK * j) (drop CHUNK xs) ≡ drop (CHUNK * suc j) xs = drop-drop (CHUNK * j) CHUNK xs ∙ ap (λ k. drop k xs) (sym at) in
          let right : drop (CHUNK * j) (drop CHUNK ys) ≡ drop (CHUNK * suc j) ys = drop-drop (CHUNK * j) CHUNK ys ∙ ap (λ k. drop k ys) (sym at) in
          ap (take CHUNK) left ∙ same (suc j) inside ∙ sym (ap (take CHUNK) right)) in
          sym (take-append-drop CHUNK xs) ∙ ap (λ l. l ++ drop CHUNK xs) front ∙ ap (λ l. take CHUNK ys ++ l) back ∙ take-append-drop CHUNK ys
      | inr none ↦ nil_from_length xs (omega arith) ∙ sym (nil_from_length ys (omega (arith, len)))
    ]

-- so are states with the same chunks
pub same-chunks : (xs ys : List ℕ) → length xs ≡ length ys → ((k : ℕ) → IsPlace (length xs) k → chunk_of xs k ≡ chunk_of ys k) → xs ≡ ys
same-chunks xs ys len same =
    same-pieces (length xs) xs ys len (omega arith) (λ j lt.
    let at : CHUNK * (suc j - 1) ≡ CHUNK * j = omega arith in
    ap (λ n. take CHUNK (drop n xs)) (sym at) ∙ same (suc j) (omega arith, omega arith) ∙ ap (λ n. take CHUNK (drop n ys)) at)

-- ---- what is given

-- what is put together of the chunks of a state is that state
given-by : (g : GivenState) (chunks : List (ViewId × wire.Chunk)) (w : ViewId) (state found : Option (List ℕ)) → Tells g state → IsGiven chunks w g found
    → ((k : ℕ) (chunk : wire.Chunk) → slice_get chunks k ≡ Some (w, chunk) → ForSome state (λ bytes. chunk ≡ chunk_at bytes chunk.index)) → found ≡ state
given-by forms.Nothing chunks w state found told is pieces = is ∙ sym told
given-by (forms.Whole bytes) chunks w state found told is pieces = is ∙ sym told
given-by (forms.Chunked total) chunks w None found told is pieces = absurd told
given-by (forms.Chunked total) chunks w (Some state) None told is pieces = absurd is
given-by (forms.Chunked total) chunks w (Some state) (Some bytes) told is pieces =
    ap Some (same-chunks bytes state (is.0 ∙ sym told) (λ k place.
    let at = place-of chunks (w, chunk_at bytes k) (is.1 k place) in
    ap (λ (c : wire.Chunk). c.bytes) (pieces at.0 (chunk_at bytes k) at.1 state refl)))

-- a chunk is one of the state that is given, if one is
piece-by : {S : Type 0} (b : Bool) (encode : S → List ℕ) (o : Option S) (chunk : wire.Chunk) → IsSomeAnd o (λ s. chunk ≡ chunk_at (encode s) chunk.index)
    → ForSome (cond b None (option_map encode o)) (λ bytes. chunk ≡ chunk_at bytes chunk.index)
piece-by true encode o chunk is bytes e = absurd (none-some bytes e)
piece-by false encode None chunk is bytes e = absurd is
piece-by false encode (Some s) chunk is bytes e = subst (λ (l : List ℕ). chunk ≡ chunk_at l chunk.index) (same_Some (encode s) bytes e) is

-- what an instruction gives to a member is the state that it tells
pub given-is : {S : Type 0} (meaning : Meaning S) (h : History) (b : Bool) (g : GivenState) (chunks : List (ViewId × wire.Chunk)) (w : ViewId) (found : Option (List ℕ))
    → EachPiece meaning h → HoldsPutOut h.pool chunks → Tells g (cond b None (option_map meaning.encode (entry_state meaning w h.trace))) → IsGiven chunks w g found
    → found ≡ cond b None (option_map meaning.encode (entry_state meaning w h.trace))
given-is meaning h b g chunks w found each held told is =
    given-by g chunks w (cond b None (option_map meaning.encode (entry_state meaning w h.trace))) found told is (λ k chunk at.
    let out = held k w chunk at in
    piece-by b meaning.encode (entry_state meaning w h.trace) chunk (each out.0 out.1 w chunk out.2 out.3))
