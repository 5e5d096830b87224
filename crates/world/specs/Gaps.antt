-- Gaps close: whom a catch-up is about, which events it plays, and what an error leaves.
use Rattle.std.specs.Prelude.{◌≡◌, ℕ, Bool, true, false, not, ◌&&◌, List, [], ◌∷◌, ◌++◌, length, Option, None, Some, MatchOption, ◌⊎◌, if◌then◌else◌}
use Rattle.std.specs.Option.{IsSomeAnd, option_eq, option_map_or, option_and_then}
use Rattle.address.specs.Ids.{Address, ViewId, same_address, same_view_id}
use Rattle.view.specs.Members.{View}
use Rattle.state_transfer.specs.Meanings.{Meaning}
use Rattle.trace_props.specs.declared.event.Event.{Event}
use Rattle.trace_props.specs.declared.event.Event.TheVariants.{Crashed}
use Rattle.trace_props.specs.Observed.{current_view, is_blocked, delivered_in}
use Rattle.law_acts.specs.Cores.{is_frozen}
use Rattle.member.specs.Members.{core_of}
use Rattle.world_model.specs.declared.WorldEvent.TheVariants.{Deliver, Tick}
use Rattle.world_model.specs.Histories.{running}
use Rattle.world.specs.declared.gaps.Pair.{Pair}
use Rattle.world.specs.declared.node_state.NodeState.{NodeState}
use Rattle.world.specs.declared.node_state.NodeState.TheVariants.{Vacant, Ended, Running}
use Rattle.world.specs.Worlds.{WorldModel}
use Rattle.world.specs.Pools.{first_for}
use Rattle.world.specs.Plays.{Plays, Fails, DeliversPast, BreaksPast}

-- ---- whom it is about

-- the view in which the member that runs at a node is, and is not blocked
abbrev pub open_view : {S : Type 0} → NodeState S → Option View
open_view Vacant = None
open_view (Ended p) = None
open_view (Running m) = option_and_then (λ c. if is_frozen c.view c.installed then None else c.view) (core_of m)

-- whether the member of an address runs there, in a view of this id, and is not blocked
abbrev pub is_open_in : {S : Type 0} → Address → ViewId → NodeState S → Bool
is_open_in p v Vacant = false
is_open_in p v (Ended q) = false
is_open_in p v (Running m) = same_address m.address p && option_map_or (λ w. same_view_id w.id v) (open_view (Running m)) false

-- the member of an address with the coordinator of its view, if they are two, and the coordinator is open in that view too
abbrev pub pair_of : {S : Type 0} → (ℕ → NodeState S) → Address → ViewId → Option Pair
pair_of at p v =
    if same_address v.creator p then None
    else if is_open_in v.creator v (at v.creator.node) then Some (record { member = p; view = v })
    else None

abbrev pub pair_in : {S : Type 0} → (ℕ → NodeState S) → NodeState S → Option Pair
pair_in at Vacant = None
pair_in at (Ended p) = None
pair_in at (Running m) = option_and_then (λ w. pair_of at m.address w.id) (open_view (Running m))

-- the same of the member that runs at a node: whom a catch-up brings level, in which view
abbrev pub pair_at : {S : Type 0} → (ℕ → NodeState S) → ℕ → Option Pair
pair_at at n = pair_in at (at n)

-- ---- the same, as the trace says

-- whether the member of an address runs, is not blocked, and is in a view of this id
abbrev pub runs_open_in : Address → ViewId → List Event → Bool
runs_open_in p v t = option_eq same_address (running p.node t) (Some p) && (not (is_blocked p t) && option_eq same_view_id (current_view p t) (Some v))

-- whether the member that runs at a node is in a view and not blocked, and so is the coordinator of that view, who is another
abbrev pub has_open_pair : ℕ → List Event → Bool
has_open_pair n t =
    option_map_or (λ p. option_map_or (λ v. not (is_blocked p t) && (not (same_address v.creator p) && runs_open_in v.creator v t)) (current_view p t) false) (running n t) false

-- ---- what it plays

module _ {S : Type 0} (meaning : Meaning S) where
  -- a delivery of the packet that is there
  abbrev pub Hands : Option ℕ → WorldModel S → WorldModel S → Type 0
  Hands number old new = MatchOption number (new ≡ old) (λ k. Plays meaning old (Deliver k) new)

  -- A CATCH-UP: a tick of the coordinator, a delivery of its STATUS to the member, of what the member puts out by that, and of each answer
  pub record CatchesUp (pair : Pair) (old new : WorldModel S) : Type 0 where
    pub announced : WorldModel S
    pub asked : WorldModel S
    pub answered : WorldModel S
    pub ticks : Plays meaning old (Tick pair.view.creator.node) announced
    pub hears : Hands (first_for pair.member (length old.history.pool) announced.history.pool) announced asked
    pub asks : DeliversPast meaning (length announced.history.pool) asked answered
    pub answers : DeliversPast meaning (length asked.history.pool) answered new

  -- ---- what an error leaves

  -- a catch-up that ends in an error: the steps before it are carried out
  pub data Stops (pair : Pair) (old : WorldModel S) : WorldModel S → Type 0 where
    AtTick : (new : WorldModel S) → Fails meaning old (Tick pair.view.creator.node) new → Stops pair old new
    AtStatus : (announced new : WorldModel S) → Plays meaning old (Tick pair.view.creator.node) announced
        → IsSomeAnd (first_for pair.member (length old.history.pool) announced.history.pool) (λ k. Fails meaning announced (Deliver k) new) → Stops pair old new
    AtRequest : (announced asked new : WorldModel S) → Plays meaning old (Tick pair.view.creator.node) announced → Hands (first_for pair.member (length old.history.pool) announced.history.pool) announced asked
        → BreaksPast meaning (length announced.history.pool) asked new → Stops pair old new
    AtAnswer : (announced asked answered new : WorldModel S) → Plays meaning old (Tick pair.view.creator.node) announced → Hands (first_for pair.member (length old.history.pool) announced.history.pool) announced asked
        → DeliversPast meaning (length announced.history.pool) asked answered → BreaksPast meaning (length asked.history.pool) answered new → Stops pair old new

-- the coordinator or the member has crashed at last
pub record LosesOne {S : Type 0} (pair : Pair) (w : WorldModel S) : Type 0 where
  pub before : List Event
  pub crash : (w.history.trace ≡ before ++ Crashed pair.view.creator ∷ []) ⊎ (w.history.trace ≡ before ++ Crashed pair.member ∷ [])

-- both run, in the view, and are not blocked
pub record BothRun {S : Type 0} (pair : Pair) (w : WorldModel S) : Type 0 where
  pub coordinator : is_open_in pair.view.creator pair.view (w.node_states pair.view.creator.node) ≡ true
  pub member : is_open_in pair.member pair.view (w.node_states pair.member.node) ≡ true

abbrev pub EndsSo : {S : Type 0} → Pair → WorldModel S → Type 0
EndsSo pair w = LosesOne pair w ⊎ BothRun pair w

-- what the member delivered in the view is what its coordinator delivered there
abbrev pub IsLevel : Pair → List Event → Type 0
IsLevel pair t = delivered_in pair.member pair.view t ≡ delivered_in pair.view.creator pair.view t
