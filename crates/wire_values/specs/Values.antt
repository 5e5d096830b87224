-- The parts of a packet as plain values, without where their bytes lie.
use Rattle.std.specs.Prelude.{ℕ, List, [], Option, None, nat_eq}
use Rattle.wire_values.specs.declared.values.state.GivenState.{GivenState}
use Rattle.std.specs.Map.{lookup}
use Rattle.address.specs.Ids.{Address, ViewId}
use Rattle.view.specs.Members.{View}

-- a message as a view's one order has it, and packets list it: its sender, its number among the sender's, its payload
pub record Entry : Type 0 where
  pub sender : Address
  pub number : ℕ
  pub payload : List ℕ

-- the entry that stands at a number among those that are held
abbrev pub held_at : ℕ → List (ℕ × Entry) → Option Entry
held_at g held = lookup (nat_eq g) held

-- numbers that are missing, from the first to the last
pub record Missing : Type 0 where
  pub first : ℕ
  pub last : ℕ

-- how far a view's order has come: the highest number, and the one up to which all have it
pub record Progress : Type 0 where
  pub highest : ℕ
  pub stable : ℕ

-- what a member reports of the view that it comes from: its id, its counts there, and the entries past
-- the stable one, each with its place in the view's order
pub record Report : Type 0 where
  pub previous : Option ViewId
  pub stable : ℕ
  pub delivered : ℕ
  pub held : List (ℕ × Entry)

-- the report of one that comes from no view
abbrev pub nothing_reported : Report
nothing_reported = record { previous = None; stable = 0; delivered = 0; held = [] }

-- a view to be installed, who of it come from the same view, the messages base + 1, base + 2, .. of
-- that one, and the state, if one is given
pub record Install : Type 0 where
  pub view : View
  pub together : List Address
  pub base : ℕ
  pub items : List Entry
  pub state : GivenState

-- a chunk of a state: how many bytes the state has, which chunk this is, from 1, and its bytes
pub record Chunk : Type 0 where
  pub total : ℕ
  pub index : ℕ
  pub bytes : List ℕ
