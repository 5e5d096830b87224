-- What the library's lemmas lack of options, results and tests.
use Rattle.std.proofs.Common.{◌≡◌, Bool, true, false, ◌||◌, Option, Some, None, Result, Ok, Err, is_some, refl}
use Rattle.std.specs.Prelude.{MatchBool, OnErr}
use Rattle.std.specs.Option.{option_or}

-- ---- options

pub option_or-none : {Y : Type 0} (o : Option Y) → option_or o None ≡ o
option_or-none None = refl
option_or-none (Some y) = refl

pub is-none : {X : Type 0} (o : Option X) → is_some o ≡ false → o ≡ None
is-none None h = refl
is-none (Some x) h = let n : true ≡ false = h in cc

pub found : {X : Type 0} (o : Option X) → is_some o ≡ true → (x : X) × (o ≡ Some x)
found None e = absurd (let n : false ≡ true = e in cc)
found (Some x) e = (x, refl)

-- ---- results

pub on-err : {X E : Type 0} (r : Result X E) (P : Type 0) → P → OnErr r P
on-err (Ok x) P p = tt
on-err (Err e) P p = p

-- ---- tests

-- of two tests of which one passes, the second, where the first fails
pub or-rest : (a b : Bool) → (a || b) ≡ true → a ≡ false → b ≡ true
or-rest true b e f = absurd (let n : true ≡ false = f in cc)
or-rest false b e f = e

-- by a test that has an outcome
pub match-bool : {C : Type 0} (b : Bool) (P Q : Type 0) → MatchBool b P Q → (b ≡ true → P → C) → (b ≡ false → Q → C) → C
match-bool true P Q m f g = f refl m
match-bool false P Q m f g = g refl m
