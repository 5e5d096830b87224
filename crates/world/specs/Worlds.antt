-- A world as contracts see it: its history and what stands at each node; what one event makes of it, and what events one after another do.
use Rattle.std.specs.Prelude.{◌≡◌, ℕ, List, [], ◌∷◌, ◌++◌}
use Rattle.std.specs.Ordering.{nat_cmp}
use Rattle.std.specs.BTreeMap.{is_at}
use Rattle.std.specs.Map.{lookup}
use Rattle.state_transfer.specs.Meanings.{Meaning}
use Rattle.trace_props.specs.declared.event.Event.{Event}
use Rattle.trace_props.specs.Places.{IsBeginningOf}
use Rattle.world_model.specs.declared.WorldEvent.{WorldEvent}
use Rattle.world_model.specs.declared.Answer.{Answer}
use Rattle.world_model.specs.Histories.{History, no_history, target_of, after}
use Rattle.world.specs.declared.node_state.NodeState.{NodeState}
use Rattle.world.specs.declared.node_state.NodeState.TheVariants.{Vacant}
use Rattle.world.specs.NodeStates.{node_state_at}
use Rattle.world.specs.Turns.{about, Carries}

-- the history, and what stands at each node: nothing yet, one that has ended, or the member that runs, as contracts see it
pub record WorldModel (S : Type 0) : Type 0 where
  pub history : History
  pub node_states : ℕ → NodeState S

-- the same as data: what stands there, by node
pub record WorldValue (S : Type 0) : Type 0 where
  pub history : History
  pub table : List (ℕ × NodeState S)

abbrev pub shown : {S : Type 0} → WorldValue S → WorldModel S
shown w = record { history = w.history; node_states = λ n. node_state_at (lookup (is_at (nat_cmp n)) w.table) }

-- nothing happened, and nobody runs
abbrev pub no_world : {S : Type 0} → WorldModel S
no_world = record { history = no_history; node_states = λ n. Vacant }

-- the old world events, replies, packets and trace are beginnings of the new ones
pub record IsLonger (old new : History) : Type 0 where
  pub events : IsBeginningOf old.events new.events
  pub replies : IsBeginningOf old.replies new.replies
  pub pool : IsBeginningOf old.pool new.pool
  pub trace : IsBeginningOf old.trace new.trace

module _ {S : Type 0} (meaning : Meaning S) where
  -- WORLD STEP: one event makes one world of another. Its answer, what it puts out and what happens join the history, behind all that was there
  pub record WorldStep (old : WorldModel S) (e : WorldEvent) (new : WorldModel S) : Type 0 where
    pub answer : Answer
    pub packets : List (List ℕ)
    pub stretch : List Event
    pub goes_on : new.history ≡ after old.history e answer packets stretch
    pub does : Carries meaning (target_of e) e answer (about old.node_states old.history.trace old.history.pool) (about new.node_states new.history.trace new.history.pool)

  -- one world comes from another by a world step for each of these events, in order
  pub data Runs (from : WorldModel S) : List WorldEvent → WorldModel S → Type 0 where
    Still : Runs from [] from
    Next : (events : List WorldEvent) (mid : WorldModel S) (e : WorldEvent) (new : WorldModel S) → Runs from events mid → WorldStep mid e new → Runs from (events ++ e ∷ []) new

  -- what every world is: one that came from nothing by some events
  pub record IsReached (w : WorldModel S) : Type 0 where
    pub events : List WorldEvent
    pub runs : Runs no_world events w
