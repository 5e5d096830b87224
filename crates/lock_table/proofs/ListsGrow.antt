-- What one round more appends to a list.
use Rattle.std.proofs.Common.{◌≡◌, ℕ, ◌+◌, ◌<◌, List, [], ◌∷◌, ◌++◌, get_or, length, take, sym, ap, ◌∙◌}
use Rattle.std.specs.List.{flat_map}
use Rattle.std.proofs.lemmas.List.{take_more, flat_map_more}

next-taken : {X : Type 0} (xs : List X) (i : ℕ) (x d : X) → x ≡ get_or xs i d → i < length xs → take i xs ++ x ∷ [] ≡ take (i + 1) xs
next-taken xs i x d at inside = ap (λ y. take i xs ++ y ∷ []) at ∙ sym (take_more xs i d inside)

-- one list more of those that are appended one behind another
pub next-list : {X Y : Type 0} (f : X → List Y) (a b c : List Y) (xs : List X) (i : ℕ) (x d : X) → x ≡ get_or xs i d → i < length xs → b ≡ a ++ flat_map f (take i xs) → c ≡ b ++ f x → c ≡ a ++ flat_map f (take (i + 1) xs)
next-list f a b c xs i x d at inside before more =
    more ∙ ap (λ l. l ++ f x) before ∙ flat_map_more f a (take i xs) x ∙ ap (λ l. a ++ flat_map f l) (next-taken xs i x d at inside)
