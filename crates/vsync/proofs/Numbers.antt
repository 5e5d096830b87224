-- What is known of a number that clap gives.
use Rattle.std.proofs.Common.{◌≡◌, ℕ, ◌≤◌, ◌<◌, ◌^◌, List, Option, Some, None, Result, Ok, refl, sym, ◌∙◌, subst, arith, IfSome}
use Rattle.std.specs.Option.{SomeIff}
use Rattle.std.specs.Str.Parse.{ParsesUnsigned}
use Rattle.clap.specs.declared.parser.matches.Found.{Found}
use Rattle.clap.specs.Words.{ReadsOne, Text, one_of, one_text, rows_of}
use Rattle.clap.proofs.WalkLemmas.{one_text-rows}
use Rattle.vsync.specs.Words.{IsNumberIn}

-- what holds of a value that is made holds where it is
pub if_made : {X : Type 0} (r : Option X) (P : Type 0) (v : X) (Q : X → Type 0) → SomeIff r P v → (P → Q v) → IfSome r Q
if_made None P v Q is q = tt
if_made (Some x) P v Q is q = subst Q (sym is.1) (q is.0)

-- a number of a type of k bits that `get_one` gave is what the argument's digits write
pub number_is : {E : Type 0} (G : List ℕ → Result ℕ E → Type 0) (low high k : ℕ) (f : Found) (id : Text) (r : Option ℕ) (n : ℕ)
    → r ≡ Some n → (one_text f id ≡ None → r ≡ None) → ((t : Text) → one_text f id ≡ Some t → ReadsOne G t r)
    → ((u : Text) (x : Result ℕ E) → G u x → ParsesUnsigned k 10 u x) → high < 2 ^ 64 → low ≤ n → (n < 2 ^ k → n ≤ high)
    → IsNumberIn low high (one_of id (rows_of f)) n
number_is {E} G low high k f id r n is none some parses fits from to =
    subst (λ (v : Option Text). IsNumberIn low high v n) (one_text-rows f id) (go (one_text f id) refl)
  where
    read : (t : Text) → ReadsOne G t (Some n) → IsNumberIn low high (Some t) n
    read t reads =
        let parsed = parses t (Ok n) reads in
        let within : n ≤ high = to (rw parsed.1 parsed.0.1) in
        ((parsed.0.0, omega arith, omega arith, omega arith), sym parsed.1)

    go : (v : Option Text) → one_text f id ≡ v → IsNumberIn low high v n
    go None e =
        let bad : Some n ≡ None = sym is ∙ none e in
        absurd cc
    go (Some t) e = read t (subst (ReadsOne G t) is (some t e))
