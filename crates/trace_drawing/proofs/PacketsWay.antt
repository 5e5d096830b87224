-- The ways of packets, one row further, and what they come from.
use Rattle.std.proofs.Common.{◌≡◌, ℕ, ◌+◌, Bool, true, false, ◌||◌, not, cond, List, [], ◌∷◌, ◌++◌, length, Option, Some, None, is_some, nat_eq, slice_get, option_map, option_and_then, IsSomeAnd, sym, refl, ap, ◌∙◌, subst, arith}
use Rattle.std.specs.Option.{option_or}
use Rattle.std.specs.List.{list_any}
use Rattle.std.proofs.lemmas.List.Folds.{list_any-append}
use Rattle.std.proofs.lemmas.Option.{none-some, same_Some}
use Rattle.address.specs.declared.refusal.Refusal.{Refusal}
use Rattle.trace_drawing.specs.declared.aside.AsideKind.{AsideKind}
use Rattle.trace_drawing.specs.declared.aside.AsideKind.TheVariants.{Refused, PutOut, HandedOver}
use Rattle.trace_drawing.specs.declared.aside.AsideRow.{AsideRow}
use Rattle.trace_drawing.specs.declared.marks.Mark.{Mark}
use Rattle.trace_drawing.specs.declared.marks.Mark.TheVariants.{Way, Lost}
use Rattle.trace_drawing.specs.Layout.{last_from}
use Rattle.trace_drawing.specs.Marks.{aside_place}
use Rattle.trace_drawing.specs.Packets.{is_put_out, is_handed_over, put_out_in, arrives, in_the_air, lost_way, way_to, KnowsWays}
use Rattle.trace_drawing.proofs.FirstAndLast.{last_place-push, last-miss}
use Rattle.trace_drawing.proofs.LawOfRows.{last-found}

-- ONE ROW FURTHER

or-none : (b : Bool) → (b || false) ≡ b
or-none true = refl
or-none false = refl

or-all : (b : Bool) → (b || true) ≡ true
or-all true = refl
or-all false = refl

any-push : {X : Type 0} (p : X → Bool) (xs : List X) (x : X) → list_any p (xs ++ x ∷ []) ≡ (list_any p xs || p x)
any-push p xs x = list_any-append p xs (x ∷ []) ∙ ap (λ b. list_any p xs || b) (or-none (p x))

any-miss : {X : Type 0} (p : X → Bool) (xs : List X) (x : X) → p x ≡ false → list_any p (xs ++ x ∷ []) ≡ list_any p xs
any-miss p xs x e = any-push p xs x ∙ ap (λ b. list_any p xs || b) e ∙ or-none (list_any p xs)

-- a refusal is no way
pub ways-left : (s e : ℕ → Option ℕ) (rows : List AsideRow) (row : AsideRow) (line : ℕ) (r : Refusal) → row.kind ≡ Refused line r → KnowsWays s e rows → KnowsWays s e (rows ++ row ∷ [])
ways-left s e rows row line r is was = record {
  sources = λ n. was.sources n ∙ sym (last-miss (λ x. is_put_out n x.kind) rows row (ap (is_put_out n) is));
  ends = λ n. was.ends n ∙ sym (any-miss (λ x. is_handed_over n x.kind) rows row (ap (is_handed_over n) is));
}

-- a packet is put out in the next row
pub ways-begun : (s u e : ℕ → Option ℕ) (rows : List AsideRow) (row : AsideRow) (m k : ℕ) → row.kind ≡ PutOut m → k ≡ length rows → ((n : ℕ) → u n ≡ cond (nat_eq m n) (Some k) (s n))
    → KnowsWays s e rows → KnowsWays u e (rows ++ row ∷ [])
ways-begun s u e rows row m k is at updates was = record {
  sources = λ n. updates n ∙ ap (λ r. cond (nat_eq m n) (Some r) (s n)) at ∙ ap (λ o. cond (nat_eq m n) (Some (length rows)) o) (was.sources n)
      ∙ ap (λ (x : AsideKind). cond (is_put_out n x) (Some (length rows)) (put_out_in rows n)) (sym is) ∙ sym (last_place-push (λ x. is_put_out n x.kind) rows row);
  ends = λ n. was.ends n ∙ sym (any-miss (λ x. is_handed_over n x.kind) rows row (ap (is_handed_over n) is));
}

some-at : (b : Bool) (k : ℕ) (o : Option ℕ) → is_some (cond b (Some k) o) ≡ (is_some o || b)
some-at true k o = sym (or-all (is_some o))
some-at false k o = sym (or-none (is_some o))

-- a packet is handed over in the next row
pub ways-ended : (s e u : ℕ → Option ℕ) (rows : List AsideRow) (row : AsideRow) (m k : ℕ) → row.kind ≡ HandedOver m → ((n : ℕ) → u n ≡ cond (nat_eq m n) (Some k) (e n))
    → KnowsWays s e rows → KnowsWays s u (rows ++ row ∷ [])
ways-ended s e u rows row m k is updates was = record {
  sources = λ n. was.sources n ∙ sym (last-miss (λ x. is_put_out n x.kind) rows row (ap (is_put_out n) is));
  ends = λ n. ap is_some (updates n) ∙ some-at (nat_eq m n) k (e n) ∙ ap (λ b. b || nat_eq m n) (was.ends n)
      ∙ ap (λ (x : AsideKind). arrives rows n || is_handed_over n x) (sym is) ∙ sym (any-push (λ x. is_handed_over n x.kind) rows row);
}

-- LAWS

-- where a way goes, a row is from which it comes
way-of : (rows : List AsideRow) (r : AsideRow) (n k : ℕ) (mark : Mark) → put_out_in rows n ≡ Some k → option_map (λ from. Way (aside_place from) (aside_place r)) (slice_get rows k) ≡ Some mark
    → IsSomeAnd (slice_get rows k) (λ from. (is_put_out n from.kind ≡ true) × (mark ≡ Way (aside_place from) (aside_place r)))
way-of rows r n k mark at is =
    let last = last-found (λ x. is_put_out n x.kind) 0 rows k at in
    let same : last.place ≡ k = omega (arith, last.is) in
    let stands : slice_get rows k ≡ Some last.found = ap (λ i. slice_get rows i) (sym same) ∙ last.there in
    subst (λ o. IsSomeAnd o (λ from. (is_put_out n from.kind ≡ true) × (mark ≡ Way (aside_place from) (aside_place r)))) (sym stands)
    (last.passes, sym (same_Some _ _ (sym (ap (option_map (λ from. Way (aside_place from) (aside_place r))) stands) ∙ is)))

way-at : (rows : List AsideRow) (r : AsideRow) (n : ℕ) (mark : Mark) (o : Option ℕ) → put_out_in rows n ≡ o → option_map (λ from. Way (aside_place from) (aside_place r)) (option_and_then (slice_get rows) o) ≡ Some mark
    → (k : ℕ) × IsSomeAnd (slice_get rows k) (λ from. (is_put_out n from.kind ≡ true) × (mark ≡ Way (aside_place from) (aside_place r)))
way-at rows r n mark None at is = absurd (none-some mark is)
way-at rows r n mark (Some k) at is = (k, way-of rows r n k mark at is)

pub way-from : (rows : List AsideRow) (r : AsideRow) (n : ℕ) (mark : Mark) → way_to rows r n ≡ Some mark
    → (k : ℕ) × IsSomeAnd (slice_get rows k) (λ from. (is_put_out n from.kind ≡ true) × (mark ≡ Way (aside_place from) (aside_place r)))
way-from rows r n mark is = way-at rows r n mark (put_out_in rows n) refl is

or-some : (o : Option ℕ) (b : Bool) (k : ℕ) → is_some (option_or o (cond b (Some k) None)) ≡ (b || is_some o)
or-some None true k = refl
or-some None false k = refl
or-some (Some x) true k = refl
or-some (Some x) false k = refl

some-last : {X : Type 0} (p : X → Bool) (k : ℕ) (xs : List X) → is_some (last_from p k xs) ≡ list_any p xs
some-last p k [] = refl
some-last p k (x ∷ xs) = or-some (last_from p (k + 1) xs) (p x) k ∙ ap (λ b. p x || b) (some-last p (k + 1) xs)

known-of : (rows : List AsideRow) (r : AsideRow) (n k : ℕ) → put_out_in rows n ≡ Some k → is_some (option_map (λ from. Way (aside_place from) (aside_place r)) (slice_get rows k)) ≡ true
known-of rows r n k at =
    let last = last-found (λ x. is_put_out n x.kind) 0 rows k at in
    let same : last.place ≡ k = omega (arith, last.is) in
    ap (λ o. is_some (option_map (λ from. Way (aside_place from) (aside_place r)) o)) (ap (λ i. slice_get rows i) (sym same) ∙ last.there)

known-at : (rows : List AsideRow) (r : AsideRow) (n : ℕ) (o : Option ℕ) → put_out_in rows n ≡ o → is_some o ≡ true
    → is_some (option_map (λ from. Way (aside_place from) (aside_place r)) (option_and_then (slice_get rows) o)) ≡ true
known-at rows r n None at is = absurd (let bad : false ≡ true = is in cc)
known-at rows r n (Some k) at is = known-of rows r n k at

-- a packet that is put out has a way to each row in which it is handed over
pub way-known : (rows : List AsideRow) (r : AsideRow) (n : ℕ) → list_any (λ from. is_put_out n from.kind) rows ≡ true → is_some (way_to rows r n) ≡ true
way-known rows r n is = known-at rows r n (put_out_in rows n) refl (some-last (λ x. is_put_out n x.kind) 0 rows ∙ is)

lost-cond : (b : Bool) (mark : Mark) → is_some (cond b None (Some mark)) ≡ not b
lost-cond true mark = refl
lost-cond false mark = refl

-- a packet ends in the air exactly if it is not handed over
pub lost-if : (rows : List AsideRow) (r : AsideRow) (n : ℕ) → is_some (lost_way rows r n) ≡ not (arrives rows n)
lost-if rows r n = lost-cond (arrives rows n) (Lost (aside_place r) (in_the_air r))

-- READING WHAT IS KEPT
