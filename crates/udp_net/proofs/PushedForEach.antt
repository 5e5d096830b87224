-- A loop that pushes one thing for each item of a list: the step of its invariant, and its end.
use Rattle.std.proofs.Common.{◌≡◌, ◌<◌, ◌≤◌, ℕ, ◌+◌, List, [], ◌∷◌, ◌++◌, map, take, length, get_or, refl, sym, ap, ◌∙◌}
use Rattle.std.proofs.lemmas.List.{map_more, take_all}

pub pushed : {X Y : Type 0} (f : X → Y) (xs : List X) (i : ℕ) (x : X) {y : Y} {ys zs : List Y} → i < length xs → x ≡ get_or xs i x → ys ≡ map f (take i xs) → y ≡ f x → zs ≡ ys ++ y ∷ [] → zs ≡ map f (take (i + 1) xs)
pushed f xs i x within at so_far made push = rw (push, so_far, made, map_more f xs i x within, sym at) refl

pub all-pushed : {X Y : Type 0} (f : X → Y) (xs : List X) (i : ℕ) {ys : List Y} → length xs ≤ i → ys ≡ map f (take i xs) → ys ≡ map f xs
all-pushed f xs i all so_far = so_far ∙ ap (map f) (take_all i xs all)
