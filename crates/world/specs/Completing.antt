-- A change of view completes, in one of three ways: by a flush that goes on, by INSTALLs that were lost, or by a flush that is behind.
use Rattle.std.specs.Prelude.{◌≡◌, ◌≤◌, ℕ, ◌+◌, length, is_some, Option, None, Some, MatchBool, if◌then◌else◌}
use Rattle.std.specs.Option.{option_or}
use Rattle.view.specs.Members.{View}
use Rattle.state_transfer.specs.Meanings.{Meaning}
use Rattle.world.specs.declared.node_state.NodeState.{NodeState}
use Rattle.world.specs.Worlds.{WorldModel, IsReached}
use Rattle.world.specs.Settles.{settling_at, Settles, SettlesShort, IsSettled, EndsSettling}
use Rattle.world.specs.LostInstalls.{awaited_at, BringsAll, BringsShort}
use Rattle.world.specs.LowProposals.{overtaking_at, OvertakesAndSettles, OvertakesShort}

-- ---- whom it is about

-- the view that the member at a node can complete with no round: by a flush of its own, or by INSTALLs that were lost
abbrev pub ready_at : {S : Type 0} → (ℕ → NodeState S) → ℕ → Option View
ready_at at n = option_or (settling_at at n) (awaited_at at n)

-- the view that it can complete: with no round, or by rounds that raise its proposal
abbrev pub completing_at : {S : Type 0} → (ℕ → NodeState S) → ℕ → Option View
completing_at at n = option_or (ready_at at n) (overtaking_at at n)

-- ---- what is played

-- at most so many events; six more where rounds are played
abbrev pub most_events : {S : Type 0} → (ℕ → NodeState S) → ℕ → ℕ
most_events at n = if is_some (ready_at at n) then 526 else 532

module _ {S : Type 0} (meaning : Meaning S) where
  -- with no round: a settling, or what brings the members of the view in
  abbrev pub CompletesReady : ℕ → View → WorldModel S → WorldModel S → Type 0
  CompletesReady n v old new = MatchBool (is_some (settling_at old.node_states n)) (Settles meaning n old new) (BringsAll meaning n v old v.members new)

  -- A COMPLETION: that, or rounds and a settling
  abbrev pub Completes : ℕ → View → WorldModel S → WorldModel S → Type 0
  Completes n v old new = MatchBool (is_some (ready_at old.node_states n)) (CompletesReady n v old new) (OvertakesAndSettles meaning n old new)

  -- ---- what an error leaves

  abbrev pub ReadyShort : ℕ → View → WorldModel S → WorldModel S → Type 0
  ReadyShort n v old new = MatchBool (is_some (settling_at old.node_states n)) (SettlesShort meaning n old new) (BringsShort meaning n v old new)

  -- the steps before it are carried out
  abbrev pub CompletesShort : ℕ → View → WorldModel S → WorldModel S → Type 0
  CompletesShort n v old new = MatchBool (is_some (ready_at old.node_states n)) (ReadyShort n v old new) (OvertakesShort meaning n old new)

-- or it came where rounds were looked for, that is where nothing can complete with no round: nothing is done
pub record IsUntried {S : Type 0} (n : ℕ) (old new : WorldModel S) : Type 0 where
  pub behind : ready_at old.node_states n ≡ None
  pub same : new ≡ old

-- ---- the laws

-- in every world, a view that can complete does
abbrev pub ViewsComplete : {S : Type 0} → Meaning S → Type 0
ViewsComplete {S} meaning = (old new : WorldModel S) (node : ℕ) (v : View) → IsReached meaning old → completing_at old.node_states node ≡ Some v → Completes meaning node v old new
    → IsSettled v new.history.trace

-- by so few events
abbrev pub CompletesBriefly : {S : Type 0} → Meaning S → Type 0
CompletesBriefly {S} meaning = (old new : WorldModel S) (node : ℕ) (v : View) → IsReached meaning old → completing_at old.node_states node ≡ Some v → Completes meaning node v old new
    → length new.history.events ≤ length old.history.events + most_events old.node_states node

-- and an error leaves all of the view running, or one of them has crashed
abbrev pub CompletionsEnd : {S : Type 0} → Meaning S → Type 0
CompletionsEnd {S} meaning = (old new : WorldModel S) (node : ℕ) (v : View) → IsReached meaning old → completing_at old.node_states node ≡ Some v → CompletesShort meaning node v old new
    → EndsSettling v new
