-- A proposal that is too low: one of its list has promised a greater one. Whom this is about, which events raise the proposal, and what these come to.
use Rattle.std.specs.Prelude.{◌≡◌, ◌≤◌, ◌<◌, ℕ, ◌+◌, ◌&&◌, Bool, true, false, List, fold, length, max, nat_lt, is_some, Option, None, Some, MatchOption, if◌then◌else◌}
use Rattle.std.specs.List.{list_all}
use Rattle.std.specs.Option.{ForSome, IsSomeAnd, option_map, option_map_or, option_and_then}
use Rattle.address.specs.Ids.{Address, same_address}
use Rattle.view.specs.Members.{View, stands_in}
use Rattle.address.specs.declared.limits.TheConstants.{GREATEST_NUMBER}
use Rattle.state_transfer.specs.Meanings.{Meaning}
use Rattle.next_view.specs.Candidates.{candidates}
use Rattle.flush.specs.Flushes.{FlushModel, has_reported, is_awaited}
use Rattle.law_acts.specs.Acts.{proposed}
use Rattle.membership.specs.declared.member_state.MemberState.{MemberState}
use Rattle.membership.specs.MemberStates.{is_connected, view_in, anew_past}
pub use Rattle.member.specs.Proposals.{told, past_in}
use Rattle.world_model.specs.declared.WorldEvent.TheVariants.{Deliver, Tick}
use Rattle.world.specs.declared.node_state.NodeState.{NodeState}
use Rattle.world.specs.declared.node_state.NodeState.TheVariants.{Vacant, Ended, Running}
use Rattle.world.specs.Pools.{first_for}
use Rattle.world.specs.Turns.{OthersStand}
use Rattle.world.specs.Worlds.{WorldModel, IsReached}
use Rattle.world.specs.Plays.{Plays, Fails}
use Rattle.world.specs.declared.rounds.Round.{Round}
use Rattle.world.specs.Settles.{would_follow, settling_at, Settles, SettlesShort, IsSettled, EndsSettling}

-- ---- whom it is about

-- the counter of the greater proposal that the member of an address has promised, if it runs there: with that it answers this one
abbrev pub promised_past : {S : Type 0} → View → Address → NodeState S → Option ℕ
promised_past v q Vacant = None
promised_past v q (Ended p) = None
promised_past v q (Running m) = if same_address m.address q then option_and_then (past_in v) m.member_state else None

-- what a member proposes when it begins its own flush anew past a counter, if an address is a candidate still; none where the counters are used up
abbrev pub anew_with : {S : Type 0} → Address → MemberState S → Address → ℕ → Option View
anew_with me l q counter = option_and_then (λ w. if stands_in q w.members then Some w else None) (anew_past me l counter)

-- the same past what an address has promised, if that one did not report, and has promised a greater proposal than that of the flush
abbrev pub raised : {S : Type 0} → (ℕ → NodeState S) → Address → MemberState S → Address → FlushModel → Option View
raised at me l q f = if is_awaited q f then option_and_then (anew_with me l q) (promised_past (proposed f) q (at q.node)) else None

abbrev pub raised_in : {S : Type 0} → (ℕ → NodeState S) → Address → NodeState S → Option View
raised_in at q Vacant = None
raised_in at q (Ended p) = None
raised_in at q (Running m) = option_and_then (λ l. option_and_then (raised at m.address l q) l.flush) m.member_state

-- the same of the own flush of the member that runs at a node: its proposal after a round that asks this address
abbrev pub raised_at : {S : Type 0} → (ℕ → NodeState S) → ℕ → Address → Option View
raised_at at n q = raised_in at q (at n)

-- ---- what a round plays

module _ {S : Type 0} (meaning : Meaning S) where
  -- A ROUND: a tick of the member at a node, a delivery of the FLUSH that it puts out for an address, and of the BEHIND that answers it
  pub record Raises (node : ℕ) (q : Address) (old new : WorldModel S) : Type 0 where
    pub announced : WorldModel S
    pub answered : WorldModel S
    pub ticks : Plays meaning old (Tick node) announced
    pub flush : MatchOption (first_for q (length old.history.pool) announced.history.pool) (answered ≡ announced) (λ k. Plays meaning announced (Deliver k) answered)
    pub behind : Plays meaning answered (Deliver (length answered.history.pool)) new

  -- a round that ends in an error: the steps before it are carried out
  pub data RaisesShort (node : ℕ) (q : Address) (old : WorldModel S) : WorldModel S → Type 0 where
    AtTick : (new : WorldModel S) → Fails meaning old (Tick node) new → RaisesShort node q old new
    AtFlush : (announced new : WorldModel S) → Plays meaning old (Tick node) announced
        → IsSomeAnd (first_for q (length old.history.pool) announced.history.pool) (λ k. Fails meaning announced (Deliver k) new) → RaisesShort node q old new
    AtBehind : (announced answered new : WorldModel S) → Plays meaning old (Tick node) announced
        → MatchOption (first_for q (length old.history.pool) announced.history.pool) (answered ≡ announced) (λ k. Plays meaning announced (Deliver k) answered)
        → Fails meaning answered (Deliver (length answered.history.pool)) new → RaisesShort node q old new

  -- one round, and a second if there is one more to ask
  pub record RaisesTwice (node : ℕ) (first : Address) (second : Option Address) (old new : WorldModel S) : Type 0 where
    pub raised : WorldModel S
    pub one : Raises node first old raised
    pub other : MatchOption second (new ≡ raised) (λ q. Raises node q raised new)

  -- these, ended in an error
  pub data RaisesTwiceShort (node : ℕ) (first : Address) (second : Option Address) (old : WorldModel S) : WorldModel S → Type 0 where
    InFirst : (new : WorldModel S) → RaisesShort node first old new → RaisesTwiceShort node first second old new
    InSecond : (raised new : WorldModel S) → Raises node first old raised → IsSomeAnd second (λ q. RaisesShort node q raised new) → RaisesTwiceShort node first second old new

-- ---- what it comes to

-- the own flush of the member that runs at a node
abbrev pub flush_in : {S : Type 0} → NodeState S → Option FlushModel
flush_in Vacant = None
flush_in (Ended p) = None
flush_in (Running m) = option_and_then (λ l. l.flush) m.member_state

-- the member there has a flush of its own for this proposal, for which nobody else has reported; who was asked would follow it; and nobody else has changed
pub record IsRaised {S : Type 0} (node : ℕ) (q : Address) (w : View) (old new : WorldModel S) : Type 0 where
  pub flush : FlushModel
  pub own : flush_in (new.node_states node) ≡ Some flush
  pub proposes : proposed flush ≡ w
  pub alone : (p : Address) → has_reported p flush.reports ≡ same_address p w.id.creator
  pub follows : would_follow w q (new.node_states q.node) ≡ true
  pub others : OthersStand node old.node_states new.node_states

-- ---- the law of one round

-- in every world a round raises the proposal past what the one that was asked has promised
abbrev pub ProposalsRise : {S : Type 0} → Meaning S → Type 0
ProposalsRise {S} meaning = (old new : WorldModel S) (node : ℕ) (q : Address) (w : View) → IsReached meaning old → raised_at old.node_states node q ≡ Some w → Raises meaning node q old new
    → IsRaised node q w old new

-- ---- two rounds

-- of one that has promised past a proposal and one more, the one that has promised further
abbrev pub further : (Address → Option ℕ) → Option (Address × ℕ) → Address → Option (Address × ℕ)
further past best q = option_map_or (λ k. if option_map_or (λ b. nat_lt k b.1) best false then best else Some (q, k)) (past q) best

-- the one of a list that has promised furthest, and the counter of that; none where none has promised past the proposal
abbrev pub furthest : (Address → Option ℕ) → List Address → Option (Address × ℕ)
furthest past list = fold (further past) None list

-- whom a round asks: of the candidates who have not reported the one that has promised furthest past the proposal
abbrev pub asked_of : {S : Type 0} → (ℕ → NodeState S) → Address → MemberState S → FlushModel → View → Option Address
asked_of at me l f v = option_map (λ x. x.0) (furthest (λ q. if is_awaited q f then promised_past (proposed f) q (at q.node) else None) (candidates me v.members l.notes))

abbrev pub asked_in : {S : Type 0} → (ℕ → NodeState S) → NodeState S → Option Address
asked_in at Vacant = None
asked_in at (Ended p) = None
asked_in at (Running m) = option_and_then (λ l. option_and_then (λ f. option_and_then (asked_of at m.address l f) (view_in l.view_state)) l.flush) m.member_state

-- the same of the own flush of the member that runs at a node
abbrev pub asked_at : {S : Type 0} → (ℕ → NodeState S) → ℕ → Option Address
asked_at at n = asked_in at (at n)

-- a round there: whom it asks, and what the member proposes after it
abbrev pub round_in : {S : Type 0} → (ℕ → NodeState S) → NodeState S → Option Round
round_in at s = option_and_then (λ q. option_map (λ w. record { asked = q; raised = w }) (raised_in at q s)) (asked_in at s)

abbrev pub round_at : {S : Type 0} → (ℕ → NodeState S) → ℕ → Option Round
round_at at n = round_in at (at n)

-- whom a second round asks: of all to whom the first proposes the one that has promised furthest past that
abbrev pub asked_past : {S : Type 0} → (ℕ → NodeState S) → View → Option Address
asked_past at w = option_map (λ x. x.0) (furthest (λ q. promised_past w q (at q.node)) w.members)

-- a proposal past a counter; none where the counters are used up
abbrev pub beyond : ℕ → View → Option View
beyond k w = if nat_lt (max w.id.counter k) GREATEST_NUMBER then Some (record { id = record { counter = max w.id.counter k + 1; creator = w.id.creator }; members = w.members }) else None

-- the same past all promises of its list
abbrev pub beyond_all : {S : Type 0} → (ℕ → NodeState S) → View → Option View
beyond_all at w = option_map_or (λ x. beyond x.1 w) (furthest (λ q. promised_past w q (at q.node)) w.members) (Some w)

-- a proposal, if all of its list would follow it
abbrev pub followed_by_all : {S : Type 0} → (ℕ → NodeState S) → View → Option View
followed_by_all at v = if list_all (λ q. would_follow v q (at q.node)) v.members then Some v else None

-- the view that the member at a node can complete if its flush is behind: two rounds raise its proposal past all promises, and all of the list would follow
abbrev pub overtaking_at : {S : Type 0} → (ℕ → NodeState S) → ℕ → Option View
overtaking_at at n = option_and_then (followed_by_all at) (option_and_then (beyond_all at) (option_and_then (raised_at at n) (asked_at at n)))

module _ {S : Type 0} (meaning : Meaning S) where
  -- a round, if there is one to ask
  abbrev pub RaisesIf : ℕ → WorldModel S → WorldModel S → Type 0
  RaisesIf node old new = MatchOption (asked_at old.node_states node) (new ≡ old) (λ q. Raises meaning node q old new)

  -- OVERTAKING: two rounds at most
  pub record Overtakes (node : ℕ) (old new : WorldModel S) : Type 0 where
    pub raised : WorldModel S
    pub first : RaisesIf node old raised
    pub second : RaisesIf node raised new

  -- these, and a settling
  pub record OvertakesAndSettles (node : ℕ) (old new : WorldModel S) : Type 0 where
    pub raised : WorldModel S
    pub overtakes : Overtakes node old raised
    pub settles : Settles meaning node raised new

  -- these, ended in an error
  pub data OvertakesShort (node : ℕ) (old : WorldModel S) : WorldModel S → Type 0 where
    AtFirst : (new : WorldModel S) → IsSomeAnd (asked_at old.node_states node) (λ q. RaisesShort meaning node q old new) → OvertakesShort node old new
    AtSecond : (raised new : WorldModel S) → RaisesIf node old raised → IsSomeAnd (asked_at raised.node_states node) (λ q. RaisesShort meaning node q raised new) → OvertakesShort node old new
    AtSettling : (raised new : WorldModel S) → Overtakes node old raised → SettlesShort meaning node raised new → OvertakesShort node old new

-- ---- the laws of two rounds

-- in every world, two rounds make a flush that is behind one that all of its list would follow
abbrev pub ProposalsOvertake : {S : Type 0} → Meaning S → Type 0
ProposalsOvertake {S} meaning = (old new : WorldModel S) (node : ℕ) (v : View) → IsReached meaning old → overtaking_at old.node_states node ≡ Some v → Overtakes meaning node old new
    → settling_at new.node_states node ≡ Some v

-- so a settling completes it then
abbrev pub OvertakingsSettle : {S : Type 0} → Meaning S → Type 0
OvertakingsSettle {S} meaning = (old mid new : WorldModel S) (node : ℕ) (v : View) → IsReached meaning old → overtaking_at old.node_states node ≡ Some v → Overtakes meaning node old mid → Settles meaning node mid new
    → IsSettled v new.history.trace

-- by so few events: two rounds of three, and a settling
abbrev pub OvertakesBriefly : {S : Type 0} → Meaning S → Type 0
OvertakesBriefly {S} meaning = (old mid new : WorldModel S) (node : ℕ) (v : View) → IsReached meaning old → overtaking_at old.node_states node ≡ Some v → Overtakes meaning node old mid → Settles meaning node mid new
    → length new.history.events ≤ length old.history.events + 532

-- and an error leaves all of the list running, or one of them has crashed
abbrev pub OvertakingsEnd : {S : Type 0} → Meaning S → Type 0
OvertakingsEnd {S} meaning = (old new : WorldModel S) (node : ℕ) (v : View) → IsReached meaning old → overtaking_at old.node_states node ≡ Some v → OvertakesShort meaning node old new → EndsSettling v new

-- ---- when two rounds are enough

-- whether the member of an address runs there, and is joining or in a view
abbrev pub is_present : {S : Type 0} → Address → NodeState S → Bool
is_present q Vacant = false
is_present q (Ended p) = false
is_present q (Running m) = same_address m.address q && option_map_or is_connected m.member_state false

-- there is one for the first round to ask, all to whom that proposes are present, and a counter is left past all that they have promised
pub record CanOvertake {S : Type 0} (at : ℕ → NodeState S) (node : ℕ) : Type 0 where
  pub q : Address
  pub asked : asked_at at node ≡ Some q
  pub w : View
  pub raised : raised_at at node q ≡ Some w
  pub present : list_all (λ p. is_present p (at p.node)) w.members ≡ true
  pub room : ForSome (furthest (λ p. promised_past w p (at p.node)) w.members) (λ x. max w.id.counter x.1 < GREATEST_NUMBER)

-- then they are enough, in every world
abbrev pub RoundsAreEnough : {S : Type 0} → Meaning S → Type 0
RoundsAreEnough {S} meaning = (w : WorldModel S) (node : ℕ) → IsReached meaning w → CanOvertake w.node_states node → is_some (overtaking_at w.node_states node) ≡ true
