-- What a receiver means.
use Rattle.std.specs.Prelude.{ℕ, List, Option}
use Rattle.address.specs.Ids.{Address}

-- what a receiver means: its state at the beginning, what a message makes of a state, states as bytes and back, and the states that it
-- can be in
pub record Meaning (S : Type 0) : Type 1 where
  pub opening : S
  pub apply : S → Address → List ℕ → S
  pub encode : S → List ℕ
  pub decode : List ℕ → Option S
  pub is_state : S → Type 0
