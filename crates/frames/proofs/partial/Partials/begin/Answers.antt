use Rattle.std.proofs.Common.{◌<◌, ℕ, zero, suc, List, [], ◌∷◌, length, slice_index_or, subst, sym, rules, arith}
use Rattle.std.proofs.lemmas.Result.{IfOk-weaker}
use Rattle.std.specs.List.{AllByRecursion}
use Rattle.frames.specs.Openers.{AreParts, IsPartOf}
use Rattle.frames.proofs.PiecesCome.{of-others}
use Rattle.frames.proofs.partial.Partials.begin.Goals as goal

-- what holds of all of a list holds of one
of-one : {A : Type 0} (Holds : A → Type 0) (xs : List A) (i : ℕ) (d : A) → i < length xs → AllByRecursion Holds xs → Holds (slice_index_or xs i d)
of-one Holds [] i d within all = search (arith, rules)
of-one Holds (x ∷ xs) zero d within all = all.0
of-one Holds (x ∷ xs) (suc i) d within all = of-one Holds xs i d (omega (arith, within)) all.1

pub returns-then-is_of-clause-parts : goal.returns-then-is_of-clause-parts
returns-then-is_of-clause-parts c = λ l key node parts.
    let all = subst (AreParts l key node) (sym c.loop-place.invariant) parts in
    (subst (AreParts l key node) (sym c.remove.ensures.items) (of-others (IsPartOf l key node) _ c.loop-place.place all), subst (IsPartOf l key node) (sym c.remove.ensures.value) (of-one (IsPartOf l key node) _ c.loop-place.place c.remove.result (search rules) all))

pub returns-clause-parts : goal.returns-clause-parts
returns-clause-parts c = λ l key node parts.
    (subst (AreParts l key node) (sym c.loop-place.invariant) parts, IfOk-weaker c.new.result _ _ (λ p part. part l key node) c.new.ensures.part)
