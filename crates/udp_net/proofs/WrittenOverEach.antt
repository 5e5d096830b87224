-- A loop that writes over each item of a list: the item that it reads, and the step of its invariant.
use Rattle.std.proofs.Common.{◌≡◌, ◌<◌, ℕ, ◌+◌, List, ◌++◌, map, take, drop, length, get_or, sym, ap, ◌∙◌, arith}
use Rattle.std.specs.Prelude.{slice_set}
use Rattle.std.proofs.lemmas.List.{get_or_at, drop_more, length-map, length-take}
use Rattle.std.proofs.lemmas.List.Edits.{map_over_more}

pub unread : {X : Type 0} (f : X → X) (xs ys : List X) (i : ℕ) (x : X) → i < length xs → ys ≡ map f (take i xs) ++ drop i xs → x ≡ get_or ys i x → x ≡ get_or xs i x
unread f xs ys i x lt so_far at =
    let front = map f (take i xs) in
    at ∙ ap (λ l. get_or l i x) (so_far ∙ ap (λ l. front ++ l) (drop_more xs i x lt)) ∙ get_or_at front _ _ x i (length-map (take i xs) f ∙ omega (arith, length-take i xs))

pub written : {X : Type 0} (f : X → X) (xs ys : List X) (i : ℕ) (x : X) {y : X} → i < length xs → ys ≡ map f (take i xs) ++ drop i xs → x ≡ get_or ys i x → y ≡ f (get_or ys i x)
    → slice_set ys i y ≡ map f (take (i + 1) xs) ++ drop (i + 1) xs
written f xs ys i x lt so_far at made = ap (slice_set ys i) (made ∙ ap f (sym at)) ∙ map_over_more f xs ys i x lt so_far at
