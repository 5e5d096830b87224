-- The laws of what an install says of a state, and of a chunk.
use Rattle.std.proofs.Common.{◌≡◌, ℕ, ◌+◌, ◌≤◌, cond, ltb, eqb, List, ◌++◌, length, Ok, Err, refl, sym, ap, subst, ◌∙◌, append_assoc, arith, inl, inr}
use Rattle.std.proofs.lemmas.Bool.{eqb-true, ltb-true, lt-ltb}
use Rattle.byteorder.specs.Endian.{big_bytes}
use Rattle.address.specs.declared.limits.TheConstants.{STATE, WHOLE_STATE}
use Rattle.wire_values.specs.declared.error.WireError.TheVariants.{Length, Value}
use Rattle.wire_values.specs.declared.values.state.GivenState.{GivenState}
use Rattle.wire_values.specs.declared.values.state.GivenState.TheVariants as given
use Rattle.wire_values.specs.Values.{Chunk}
use Rattle.wire_values.specs.Chunks.{IsTotal, IsPlace, before_chunk, chunk_len}
use Rattle.wire_values.specs.Reading.{◌>>=◌, bytes_at, number_at}
use Rattle.wire_values.specs.Lists.{IsGiven, IsChunk, state_bytes, total_at, whole_at, chunked_at, state_at, chunk_bytes, index_at, chunk_at}
use Rattle.big_endian.specs.Spelled.{IsBytes}
use Rattle.big_endian.proofs.Bytes.{wide1, wide4}
use Rattle.wire_values.proofs.FieldLaws.{bind_ok, ok_is, test_ok, along, Takes, Takes-then, IsPart, bytes_takes, bytes_again, number_takes, number_again}
use Rattle.wire.proofs.FlagLaws.{chosen, flag_two}

-- ---- totals

total_takes : (bytes : List ℕ) (n : ℕ) (rest : List ℕ) → IsBytes bytes → total_at bytes ≡ Ok (n, rest) → Takes bytes (big_bytes 4 n) rest × IsTotal n
unfolding total_at
total_takes bytes n rest fits e =
    let t = number_takes 4 wide4 (WHOLE_STATE + 1) STATE Length bytes n rest fits e in
    (t.0, (omega (arith, t.1), t.2))

total_again : (n : ℕ) (rest : List ℕ) → IsTotal n → total_at (big_bytes 4 n ++ rest) ≡ Ok (n, rest)
unfolding total_at
total_again n rest is = number_again 4 (WHOLE_STATE + 1) STATE Length n rest (omega (arith, is.1)) (omega (arith, is.0)) is.1

-- ---- what an install says of a state

-- what reading answered
abbrev IsRead : List ℕ → GivenState × List ℕ → Type 0
IsRead bytes p = Takes bytes (state_bytes p.0) p.1 × IsGiven p.0

whole_takes : (bytes after : List ℕ) (found : GivenState × List ℕ) → Takes bytes (big_bytes 1 1) after → whole_at after ≡ Ok found → IsRead bytes found
unfolding whole_at
whole_takes bytes after found t e =
    let b = bind_ok (number_at 4 0 WHOLE_STATE Length after) (λ len. bytes_at len.0 len.1 >>= λ state. Ok (given.Whole state.0, state.1)) found e in
    let c = bind_ok (bytes_at b.0.0 b.0.1) (λ state. Ok (given.Whole state.0, state.1)) found b.2 in
    let u = number_takes 4 wide4 0 WHOLE_STATE Length after b.0.0 b.0.1 t.rest_fits b.1 in
    let v = bytes_takes b.0.0 b.0.1 c.0.0 c.0.1 u.0.rest_fits c.1 in
    let sized : Takes after (big_bytes 4 (length c.0.0) ++ c.0.0) c.0.1 = subst (λ (n : ℕ). Takes after (big_bytes 4 n ++ c.0.0) c.0.1) (sym v.2) (Takes-then after (big_bytes 4 b.0.0) b.0.1 c.0.0 c.0.1 u.0 v.0) in
    along (IsRead bytes) (given.Whole c.0.0, c.0.1) found (ok_is (given.Whole c.0.0, c.0.1) found c.2)
    (Takes-then bytes (big_bytes 1 1) after (big_bytes 4 (length c.0.0) ++ c.0.0) c.0.1 t sized, omega (arith, v.2, u.2))

chunked_takes : (bytes after : List ℕ) (found : GivenState × List ℕ) → Takes bytes (big_bytes 1 2) after → chunked_at after ≡ Ok found → IsRead bytes found
unfolding chunked_at
chunked_takes bytes after found t e =
    let b = bind_ok (total_at after) (λ total. Ok (given.Chunked total.0, total.1)) found e in
    let u = total_takes after b.0.0 b.0.1 t.rest_fits b.1 in
    along (IsRead bytes) (given.Chunked b.0.0, b.0.1) found (ok_is (given.Chunked b.0.0, b.0.1) found b.2)
    (Takes-then bytes (big_bytes 1 2) after (big_bytes 4 b.0.0) b.0.1 t u.0, u.1)

state_takes : (bytes : List ℕ) (g : GivenState) (rest : List ℕ) → IsBytes bytes → state_at bytes ≡ Ok (g, rest) → Takes bytes (state_bytes g) rest × IsGiven g
unfolding state_at
state_takes bytes g rest fits e =
    let a = bind_ok (number_at 1 0 2 Value bytes) (λ flag. cond (eqb flag.0 0) (Ok (given.Nothing, flag.1)) (cond (eqb flag.0 1) (whole_at flag.1) (chunked_at flag.1))) (g, rest) e in
    let t = number_takes 1 wide1 0 2 Value bytes a.0.0 a.0.1 fits a.1 in
    let flagged = λ (n : ℕ) (is : a.0.0 ≡ n). along (λ (k : ℕ). Takes bytes (big_bytes 1 k) a.0.1) a.0.0 n is t.0 in
    elim (chosen (eqb a.0.0 0) (Ok (given.Nothing, a.0.1)) (cond (eqb a.0.0 1) (whole_at a.0.1) (chunked_at a.0.1)) (g, rest) a.2) [
      | inl none ↦ along (IsRead bytes) (given.Nothing, a.0.1) (g, rest) (ok_is (given.Nothing, a.0.1) (g, rest) none.1) (flagged 0 (eqb-true _ _ none.0), tt)
      | inr some ↦
          elim (chosen (eqb a.0.0 1) (whole_at a.0.1) (chunked_at a.0.1) (g, rest) some.1) [
            | inl one ↦ whole_takes bytes a.0.1 (g, rest) (flagged 1 (eqb-true _ _ one.0)) one.1
            | inr two ↦ chunked_takes bytes a.0.1 (g, rest) (flagged 2 (flag_two a.0.0 t.2 some.0 two.0)) two.1
          ]
    ]

state_again : (g : GivenState) (rest : List ℕ) → IsGiven g → state_at (state_bytes g ++ rest) ≡ Ok (g, rest)
unfolding state_at whole_at chunked_at
state_again given.Nothing rest fits = rw (number_again 1 0 2 Value 0 rest (omega arith) (omega arith) (omega arith)) refl
state_again (given.Whole s) rest fits =
    let regrouped : state_bytes (given.Whole s) ++ rest ≡ big_bytes 1 1 ++ (big_bytes 4 (length s) ++ (s ++ rest)) =
    append_assoc (big_bytes 1 1) (big_bytes 4 (length s) ++ s) rest ∙ ap (λ (x : List ℕ). big_bytes 1 1 ++ x) (append_assoc (big_bytes 4 (length s)) s rest) in
    ap state_at regrouped
    ∙ rw (number_again 1 0 2 Value 1 (big_bytes 4 (length s) ++ (s ++ rest)) (omega arith) (omega arith) (omega arith), number_again 4 0 WHOLE_STATE Length (length s) (s ++ rest) (omega arith) (omega arith) fits, bytes_again (length s) s rest refl) refl
state_again (given.Chunked total) rest fits =
    ap state_at (append_assoc (big_bytes 1 2) (big_bytes 4 total) rest)
    ∙ rw (number_again 1 0 2 Value 2 (big_bytes 4 total ++ rest) (omega arith) (omega arith) (omega arith), total_again total rest fits) refl

pub state_part : IsPart state_at state_bytes IsGiven
state_part = record { takes = state_takes; again = state_again }

-- ---- chunks

index_takes : (total : ℕ) (bytes : List ℕ) (n : ℕ) (rest : List ℕ) → IsBytes bytes → index_at total bytes ≡ Ok (n, rest) → Takes bytes (big_bytes 1 n) rest × IsPlace total n
unfolding index_at
index_takes total bytes n rest fits e =
    let a = bind_ok (number_at 1 1 255 Value bytes) (λ index. cond (ltb (before_chunk index.0) total) (Ok index) (Err Value)) (n, rest) e in
    let g = test_ok (ltb (before_chunk a.0.0) total) Value (Ok a.0) (n, rest) a.2 in
    let t = number_takes 1 wide1 1 255 Value bytes a.0.0 a.0.1 fits a.1 in
    along (λ (p : ℕ × List ℕ). Takes bytes (big_bytes 1 p.0) p.1 × IsPlace total p.0) a.0 (n, rest) (ok_is a.0 (n, rest) g.1) (t.0, (t.1, ltb-true _ _ g.0))

-- a place is a byte
place_few : (total index : ℕ) → total ≤ STATE → IsPlace total index → index ≤ 255
place_few total index few is = omega (arith, is.0, is.1)

index_again : (total n : ℕ) (rest : List ℕ) → total ≤ STATE → IsPlace total n → index_at total (big_bytes 1 n ++ rest) ≡ Ok (n, rest)
unfolding index_at
index_again total n rest few is =
    let small = place_few total n few is in
    rw (number_again 1 1 255 Value n rest (omega arith) is.0 small, lt-ltb _ _ is.1) refl

abbrev chunk_from : ℕ → ℕ → List ℕ → Chunk
chunk_from total index bytes = record { total = total; index = index; bytes = bytes }

chunk_takes : (bytes : List ℕ) (c : Chunk) (rest : List ℕ) → IsBytes bytes → chunk_at bytes ≡ Ok (c, rest) → Takes bytes (chunk_bytes c) rest × IsChunk c
unfolding chunk_at
chunk_takes bytes c rest fits e =
    let a = bind_ok (total_at bytes) (λ total. index_at total.0 total.1 >>= λ index. bytes_at (chunk_len total.0 index.0) index.1 >>= λ text. Ok (chunk_from total.0 index.0 text.0, text.1)) (c, rest) e in
    let b = bind_ok (index_at a.0.0 a.0.1) (λ index. bytes_at (chunk_len a.0.0 index.0) index.1 >>= λ text. Ok (chunk_from a.0.0 index.0 text.0, text.1)) (c, rest) a.2 in
    let d = bind_ok (bytes_at (chunk_len a.0.0 b.0.0) b.0.1) (λ text. Ok (chunk_from a.0.0 b.0.0 text.0, text.1)) (c, rest) b.2 in
    let t = total_takes bytes a.0.0 a.0.1 fits a.1 in
    let u = index_takes a.0.0 a.0.1 b.0.0 b.0.1 t.0.rest_fits b.1 in
    let v = bytes_takes (chunk_len a.0.0 b.0.0) b.0.1 d.0.0 d.0.1 u.0.rest_fits d.1 in
    let one = Takes-then bytes (big_bytes 4 a.0.0) a.0.1 (big_bytes 1 b.0.0) b.0.1 t.0 u.0 in
    along (λ (p : Chunk × List ℕ). Takes bytes (chunk_bytes p.0) p.1 × IsChunk p.0) (chunk_from a.0.0 b.0.0 d.0.0, d.0.1) (c, rest) (ok_is (chunk_from a.0.0 b.0.0 d.0.0, d.0.1) (c, rest) d.2)
    (Takes-then bytes (big_bytes 4 a.0.0 ++ big_bytes 1 b.0.0) b.0.1 d.0.0 d.0.1 one v.0, record { total = t.1; place = u.1; cut = v.2 })

chunk_again : (c : Chunk) (rest : List ℕ) → IsChunk c → chunk_at (chunk_bytes c ++ rest) ≡ Ok (c, rest)
unfolding chunk_at
chunk_again c rest fits =
    ap chunk_at (append_assoc (big_bytes 4 c.total ++ big_bytes 1 c.index) c.bytes rest ∙ append_assoc (big_bytes 4 c.total) (big_bytes 1 c.index) (c.bytes ++ rest))
    ∙ rw (
      total_again c.total (big_bytes 1 c.index ++ (c.bytes ++ rest)) fits.total,
      index_again c.total c.index (c.bytes ++ rest) fits.total.1 fits.place,
      bytes_again (chunk_len c.total c.index) c.bytes rest fits.cut,
    ) refl

pub chunk_part : IsPart chunk_at chunk_bytes IsChunk
chunk_part = record { takes = chunk_takes; again = chunk_again }
