-- Lists: what is found first, beginnings, filters with equal tests.
use Rattle.std.proofs.Common.{◌≡◌, ℕ, zero, suc, ◌+◌, Bool, true, false, cond, Option, Some, None, List, [], ◌∷◌, ◌++◌, length, filter, refl, ap, ◌∙◌, subst, arith}
use Rattle.std.specs.Prelude.{slice_get}
use Rattle.std.specs.Option.{option_or}
use Rattle.std.specs.Map.{lookup}
use Rattle.std.specs.List.{Contains}
use Rattle.std.proofs.lemmas.Option.{none-some, slice_get-get_or}
use Rattle.std.proofs.lemmas.Bool.{or_left, or_right}
use Rattle.address.specs.Ids.{Address, same_address}
use Rattle.view.specs.Members.{stands_in}
use Rattle.address.proofs.SameIds.{same_address-refl}
use Rattle.flush.specs.Cuts.{first_of}
use Rattle.address.proofs.Plain.{option_or-none}

-- ---- what is found first

option_or-assoc : {Y : Type 0} (a b c : Option Y) → option_or a (option_or b c) ≡ option_or (option_or a b) c
option_or-assoc None b c = refl
option_or-assoc (Some y) b c = refl

-- in two lists: in the first, else in the second
pub first_of-append : {X Y : Type 0} (f : X → Option Y) (xs ys : List X) → first_of f (xs ++ ys) ≡ option_or (first_of f xs) (first_of f ys)
first_of-append f [] ys = refl
first_of-append f (x ∷ xs) ys = ap (option_or (f x)) (first_of-append f xs ys) ∙ option_or-assoc (f x) (first_of f xs) (first_of f ys)

-- what was found first is so in the longer list
pub first_of-kept : {X Y : Type 0} (f : X → Option Y) (xs ys : List X) (y : Y) → first_of f xs ≡ Some y → first_of f (xs ++ ys) ≡ Some y
first_of-kept f xs ys y h = first_of-append f xs ys ∙ ap (λ o. option_or o (first_of f ys)) h

-- where no element gives anything nothing is found
pub first_of-none : {X Y : Type 0} (f : X → Option Y) (xs : List X) → ((k : ℕ) (x : X) → slice_get xs k ≡ Some x → f x ≡ None) → first_of f xs ≡ None
first_of-none f [] none = refl
first_of-none f (x ∷ xs) none = ap (λ t. option_or t (first_of f xs)) (none 0 x refl) ∙ first_of-none f xs (λ k y at. none (suc k) y at)

-- more that gives nothing changes nothing
pub first_of-still : {X Y : Type 0} (f : X → Option Y) (xs ys : List X) → ((k : ℕ) (x : X) → slice_get ys k ≡ Some x → f x ≡ None) → first_of f (xs ++ ys) ≡ first_of f xs
first_of-still f xs ys none = first_of-append f xs ys ∙ ap (option_or (first_of f xs)) (first_of-none f ys none) ∙ option_or-none (first_of f xs)

-- ---- elements of two lists

-- an element of two lists stands in one of them
pub slice_get-split : {X : Type 0} (P : X → Type 0) (xs ys : List X) → ((k : ℕ) (x : X) → slice_get xs k ≡ Some x → P x) → ((k : ℕ) (x : X) → slice_get ys k ≡ Some x → P x)
    → (k : ℕ) (x : X) → slice_get (xs ++ ys) k ≡ Some x → P x
slice_get-split P [] ys old new k x at = new k x at
slice_get-split P (z ∷ xs) ys old new zero x at = old 0 x at
slice_get-split P (z ∷ xs) ys old new (suc k) x at = slice_get-split P xs ys (λ j y a. old (suc j) y a) new k x at

-- of one element
pub slice_get-one : {X : Type 0} (P : X → Type 0) (y : X) → P y → (k : ℕ) (x : X) → slice_get (y ∷ []) k ≡ Some x → P x
slice_get-one P y p zero x at = let e : Some y ≡ Some x = at in let s : y ≡ x = cc in subst P s p
slice_get-one P y p (suc k) x at = absurd (let n : None ≡ Some x = at in cc)

-- ---- filters by tests that agree on the elements

filter-step : (x y : Bool) (q : Address) (xs ys : List Address) → x ≡ y → xs ≡ ys → cond x (q ∷ xs) xs ≡ cond y (q ∷ ys) ys
filter-step x y q xs ys e f = ap (λ b. cond b (q ∷ xs) xs) e ∙ ap (λ l. cond y (q ∷ l) l) f

pub filter-same : (f g : Address → Bool) (list : List Address) → ((q : Address) → stands_in q list ≡ true → f q ≡ g q) → filter f list ≡ filter g list
filter-same f g [] same = refl
filter-same f g (q ∷ list) same =
    filter-step (f q) (g q) q (filter f list) (filter g list)
    (same q (or_left (same_address q q) (stands_in q list) (same_address-refl q)))
    (filter-same f g list (λ r there. same r (or_right (same_address r q) (stands_in r list) there)))

-- ---- places

-- what is among a list stands at a place
pub place-of : {X : Type 0} (xs : List X) (x : X) → Contains xs x → (k : ℕ) × (slice_get xs k ≡ Some x)
place-of xs x c = (c.0, slice_get-get_or xs c.0 x c.1 ∙ ap Some c.2)

-- the places of the second of two lists
pub slice_get-right : {X : Type 0} (xs ys : List X) (k : ℕ) → slice_get (xs ++ ys) (length xs + k) ≡ slice_get ys k
slice_get-right [] ys k = ap (slice_get ys) (let e : 0 + k ≡ k = omega arith in e)
slice_get-right (x ∷ xs) ys k =
    ap (slice_get (x ∷ xs ++ ys)) (let e : length (x ∷ xs) + k ≡ suc (length xs + k) = omega arith in e) ∙ slice_get-right xs ys k

-- ---- look-ups

pub lookup-kept : {K X : Type 0} (test : K → Bool) (xs ys : List (K × X)) (x : X) → lookup test xs ≡ Some x → lookup test (xs ++ ys) ≡ Some x
lookup-kept test [] ys x e = absurd (none-some x e)
lookup-kept test (z ∷ xs) ys x e = step (test z.0) (lookup test xs) (lookup test (xs ++ ys)) (lookup-kept test xs ys x) e
  where
    step : (b : Bool) (o p : Option _) → (o ≡ Some x → p ≡ Some x) → cond b (Some z.1) o ≡ Some x → cond b (Some z.1) p ≡ Some x
    step true o p later y = y
    step false o p later y = later y
