-- A change of view completes: whom a settling is about, which events it plays, and what it comes to.
use Rattle.std.specs.Prelude.{◌≡◌, ◌≤◌, ℕ, ◌+◌, ◌-◌, Bool, true, false, not, ◌&&◌, ◌⊎◌, List, [], ◌∷◌, ◌++◌, length, Option, None, Some, if◌then◌else◌}
use Rattle.std.specs.List.{list_all}
use Rattle.std.specs.Option.{option_map_or, option_and_then}
use Rattle.address.specs.Ids.{Address, same_address}
use Rattle.view.specs.Members.{View, stands_in}
use Rattle.state_transfer.specs.Meanings.{Meaning}
use Rattle.trace_props.specs.declared.event.Event.{Event}
use Rattle.trace_props.specs.declared.event.Event.TheVariants.{Crashed}
use Rattle.trace_props.specs.Observed.{current_view}
use Rattle.flush.specs.Flushes.{FlushModel}
use Rattle.view_install.specs.Promises.{offered, is_accept}
use Rattle.law_acts.specs.Acts.{proposed, others_of}
use Rattle.membership.specs.MemberStates.{is_connected, is_complete}
use Rattle.world_model.specs.declared.WorldEvent.TheVariants.{Tick}
use Rattle.world_model.specs.Histories.{running}
use Rattle.world.specs.declared.node_state.NodeState.{NodeState}
use Rattle.world.specs.declared.node_state.NodeState.TheVariants.{Vacant, Ended, Running}
use Rattle.world.specs.Worlds.{WorldModel, IsReached}
use Rattle.world.specs.Plays.{Plays, Fails, Delivers, DeliversPast, Breaks, BreaksPast}

-- ---- whom it is about

-- whether the member of an address runs there, is connected, and would accept a proposal: it has promised none that is greater, and did not install this one
abbrev pub would_follow : {S : Type 0} → View → Address → NodeState S → Bool
would_follow v q Vacant = false
would_follow v q (Ended p) = false
would_follow v q (Running m) = same_address m.address q && option_map_or (λ l. is_connected l && is_accept (offered v l.promise)) m.member_state false

-- what a flush proposes, if all of its list would follow, and one of them is awaited
abbrev pub followed : {S : Type 0} → (ℕ → NodeState S) → FlushModel → Option View
followed at f = if list_all (λ q. would_follow (proposed f) q (at q.node)) f.members && not (is_complete f) then Some (proposed f) else None

abbrev pub settling_in : {S : Type 0} → (ℕ → NodeState S) → NodeState S → Option View
settling_in at Vacant = None
settling_in at (Ended p) = None
settling_in at (Running m) = option_and_then (λ l. option_and_then (followed at) l.flush) m.member_state

-- the same of the own flush of the member that runs at a node: the view that a settling completes
abbrev pub settling_at : {S : Type 0} → (ℕ → NodeState S) → ℕ → Option View
settling_at at n = settling_in at (at n)

-- ---- what it plays

-- how many FLUSHes the member there put out for an own flush that it began
abbrev pub begun_in : {S : Type 0} → NodeState S → ℕ
begun_in Vacant = 0
begun_in (Ended p) = 0
begun_in (Running m) = option_map_or (λ l. option_map_or (λ f. length (others_of m.address f.members)) l.flush 0) m.member_state 0

module _ {S : Type 0} (meaning : Meaning S) where
  -- A SETTLING: a tick of the member, a delivery of each FLUSH that it puts out, of each REPORT that answers one, and of each STATE and INSTALL that it puts
  -- out by the last of these; not of the FLUSHes of the next proposal, where one is due at once
  pub record Settles (node : ℕ) (old new : WorldModel S) : Type 0 where
    pub announced : WorldModel S
    pub reported : WorldModel S
    pub instructed : WorldModel S
    pub ticks : Plays meaning old (Tick node) announced
    pub flushes : DeliversPast meaning (length old.history.pool) announced reported
    pub reports : DeliversPast meaning (length announced.history.pool) reported instructed
    pub installs : Delivers meaning (length reported.history.pool) (length instructed.history.pool - length reported.history.pool - begun_in (instructed.node_states node)) instructed new

  -- a settling that ends in an error: the steps before it are carried out
  pub data SettlesShort (node : ℕ) (old : WorldModel S) : WorldModel S → Type 0 where
    AtTick : (new : WorldModel S) → Fails meaning old (Tick node) new → SettlesShort node old new
    AtFlush : (announced new : WorldModel S) → Plays meaning old (Tick node) announced → BreaksPast meaning (length old.history.pool) announced new → SettlesShort node old new
    AtReport : (announced reported new : WorldModel S) → Plays meaning old (Tick node) announced → DeliversPast meaning (length old.history.pool) announced reported
        → BreaksPast meaning (length announced.history.pool) reported new → SettlesShort node old new
    AtInstall : (announced reported instructed new : WorldModel S) → Plays meaning old (Tick node) announced → DeliversPast meaning (length old.history.pool) announced reported
        → DeliversPast meaning (length announced.history.pool) reported instructed
        → Breaks meaning (length reported.history.pool) (length instructed.history.pool - length reported.history.pool - begun_in (instructed.node_states node)) instructed new → SettlesShort node old new

-- ---- what it comes to

-- one of the view's members has crashed at last
pub record LosesMember {S : Type 0} (v : View) (w : WorldModel S) : Type 0 where
  pub lost : Address
  pub listed : stands_in lost v.members ≡ true
  pub before : List Event
  pub crash : w.history.trace ≡ before ++ Crashed lost ∷ []

-- or all of them run
abbrev pub EndsSettling : {S : Type 0} → View → WorldModel S → Type 0
EndsSettling v w = LosesMember v w ⊎ ((q : Address) → stands_in q v.members ≡ true → running q.node w.history.trace ≡ Some q)

-- all of the view's members run, and it is their current view
abbrev pub IsSettled : View → List Event → Type 0
IsSettled v t = (q : Address) → stands_in q v.members ≡ true → (running q.node t ≡ Some q) × (current_view q t ≡ Some v.id)

-- ---- the laws

-- in every world a settling settles
abbrev pub ViewsSettle : {S : Type 0} → Meaning S → Type 0
ViewsSettle {S} meaning = (old new : WorldModel S) (node : ℕ) (v : View) → IsReached meaning old → settling_at old.node_states node ≡ Some v → Settles meaning node old new → IsSettled v new.history.trace

-- by so few events
abbrev pub SettlesBriefly : {S : Type 0} → Meaning S → Type 0
SettlesBriefly {S} meaning = (old new : WorldModel S) (node : ℕ) (v : View) → IsReached meaning old → settling_at old.node_states node ≡ Some v → Settles meaning node old new
    → length new.history.events ≤ length old.history.events + 526

-- a settling that ends in an error leaves all of the list running, or one of them has crashed
abbrev pub SettlingsEnd : {S : Type 0} → Meaning S → Type 0
SettlingsEnd {S} meaning = (old new : WorldModel S) (node : ℕ) (v : View) → IsReached meaning old → settling_at old.node_states node ≡ Some v → SettlesShort meaning node old new → EndsSettling v new
