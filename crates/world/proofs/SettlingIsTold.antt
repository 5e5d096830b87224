-- What the test of a change of view tells of the view that it is about, and what follows of the outcome of its completion.
use Rattle.std.proofs.Common.{◌≡◌, ℕ, Bool, false, Option, Some, None, Result, Ok, Err, is_some, inl, inr, ◌⊎◌, refl, ap, ◌∙◌, subst}
use Rattle.std.specs.Prelude.{IfOk, OnOk, OnErr, MatchOption}
use Rattle.std.specs.Option.{ForSome, IsSomeAnd}
use Rattle.state_transfer.specs.Meanings.{Meaning}
use Rattle.world.specs.Worlds.{WorldModel}
use Rattle.world.specs.Settles.{IsSettled}
use Rattle.world.specs.Completing.{completing_at, Completes}
use Rattle.world.specs.Settled.{SettlesAt}

-- of an outcome that went well: what holds of it holds of the view
pub then-of : {E X : Type 0} (r : Result Bool E) (o : Option X) (P Q : X → Type 0) → OnOk r (ForSome o P) → ((v : X) → o ≡ Some v → P v → Q v) → OnOk r (ForSome o Q)
then-of (Ok b) o P Q x f = λ v at. f v at (x v at)
then-of (Err e) o P Q x f = tt

-- and one that did not, or where nothing was tried
pub else-of : {E X : Type 0} (r : Result Bool E) (o : Option X) (U : Type 0) (P Q : X → Type 0) → OnErr r (U ⊎ IsSomeAnd o P) → ((v : X) → o ≡ Some v → P v → Q v) → OnErr r (U ⊎ IsSomeAnd o Q)
else-of (Ok b) o U P Q x f = tt
else-of (Err e) o U P Q (inl u) f = inl u
else-of (Err e) None U P Q (inr x) f = absurd x
else-of (Err e) (Some v) U P Q (inr x) f = inr (f v refl x)

-- one that went well did nothing, or completed the view
pub well-by : {E X : Type 0} (r : Result Bool E) (o : Option X) (P : X → Type 0) (Q : Type 0) → IfOk r (λ b. b ≡ is_some o) → OnOk r (ForSome o P) → (r ≡ Ok false → Q) → ((v : X) → o ≡ Some v → P v → Q)
    → OnOk r Q
well-by (Ok b) None P Q tells x none some = none (ap Ok tells)
well-by (Ok b) (Some v) P Q tells x none some = some v refl (x v refl)
well-by (Err e) o P Q tells x none some = tt

-- in each outcome
pub any-by : {E X : Type 0} (r : Result Bool E) (o : Option X) (P S : X → Type 0) (U Q : Type 0) → IfOk r (λ b. b ≡ is_some o) → OnOk r (ForSome o P) → OnErr r (U ⊎ IsSomeAnd o S) → (r ≡ Ok false → Q)
    → (U → Q) → ((v : X) → o ≡ Some v → P v → Q) → ((v : X) → o ≡ Some v → S v → Q) → Q
any-by (Ok b) None P S U Q tells x y none untried some short = none (ap Ok tells)
any-by (Ok b) (Some v) P S U Q tells x y none untried some short = some v refl (x v refl)
any-by (Err e) o P S U Q tells x (inl u) none untried some short = untried u
any-by (Err e) None P S U Q tells x (inr y) none untried some short = absurd y
any-by (Err e) (Some v) P S U Q tells x (inr y) none untried some short = short v refl y

module _ {S : Type 0} (meaning : Meaning S) where
  -- what it comes to
  pub settled-by : (b : Bool) (old new : WorldModel S) (node n : ℕ) → node ≡ n → b ≡ is_some (completing_at old.node_states node) → (b ≡ false → new ≡ old)
      → ForSome (completing_at old.node_states node) (λ v. Completes meaning node v old new) → ForSome (completing_at old.node_states node) (λ v. IsSettled v new.history.trace) → SettlesAt meaning n old new
  settled-by b old new node n is answer nothing plays settled = subst (λ (k : ℕ). SettlesAt meaning k old new) is (by (completing_at old.node_states node) refl)
    where
      by : (o : Option _) → completing_at old.node_states node ≡ o → MatchOption o (new ≡ old) (λ v. Completes meaning node v old new × IsSettled v new.history.trace)
      by None e = nothing (answer ∙ ap is_some e)
      by (Some v) e = (plays v e, settled v e)
