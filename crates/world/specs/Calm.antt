-- A calm view delivers: which view it is about, which events it plays, and what it comes to.
use Rattle.std.specs.Prelude.{◌≡◌, ℕ, ◌+◌, ◌-◌, ◌*◌, ◌≤◌, ◌⊎◌, Bool, true, false, ◌&&◌, nat_eq, nat_lt, List, [], ◌∷◌, ◌++◌, length, take, slice_get, Option, None, Some, MatchBool, if◌then◌else◌}
use Rattle.std.specs.List.{list_all}
use Rattle.std.specs.Option.{option_map_or, option_and_then}
use Rattle.address.specs.declared.limits.TheConstants.{WINDOW, MEMBERS, OUTSTANDING, GREATEST_NUMBER}
use Rattle.address.specs.Ids.{Address, ViewId, same_address}
use Rattle.view.specs.Members.{View, stands_in}
use Rattle.view.specs.View.{view_refusal}
use Rattle.state_transfer.specs.Meanings.{Meaning}
use Rattle.trace_props.specs.declared.event.Event.{Event}
use Rattle.trace_props.specs.Observed.{delivered_in, sent_in, own}
use Rattle.member.specs.Members.{core_of}
use Rattle.world_model.specs.declared.WorldEvent.TheVariants.{Tick}
use Rattle.world.specs.declared.gaps.Pair.{Pair}
use Rattle.world.specs.declared.node_state.NodeState.{NodeState}
use Rattle.world.specs.declared.node_state.NodeState.TheVariants.{Vacant, Ended, Running}
use Rattle.world.specs.Worlds.{WorldModel, IsReached}
use Rattle.world.specs.Plays.{Plays, Fails, DeliversPast, BreaksPast}
use Rattle.world.specs.Gaps.{open_view, is_open_in, runs_open_in, CatchesUp, Stops}
use Rattle.world.specs.Known.{stable_at, view_at}
use Rattle.world.specs.Settles.{LosesMember}

-- ---- which view

-- a number of the order is left for each message of a view that may not be stable yet: those in the window, and those that are outstanding
abbrev pub has_numbers : {S : Type 0} → NodeState S → Bool
has_numbers Vacant = false
has_numbers (Ended p) = false
has_numbers (Running m) = nat_lt (option_map_or (λ c. c.view_state.stable) (core_of m) 0) (GREATEST_NUMBER - (WINDOW + MEMBERS * OUTSTANDING))

-- each of its members runs in it, and is not blocked; and numbers are left
abbrev pub is_calm : {S : Type 0} → (ℕ → NodeState S) → View → Bool
is_calm at v = list_all (λ q. is_open_in q v.id (at q.node)) v.members && has_numbers (at v.id.creator.node)

abbrev pub calm_of : {S : Type 0} → (ℕ → NodeState S) → View → Option View
calm_of at v = if is_calm at v then Some v else None

-- the view in which the member that runs at a node is, if it is such a one
abbrev pub calm_at : {S : Type 0} → (ℕ → NodeState S) → ℕ → Option View
calm_at at n = option_and_then (calm_of at) (open_view (at n))

-- whether the member that runs at a node is in a view and not blocked, and the coordinator of that view is of the node
abbrev pub coordinates : {S : Type 0} → ℕ → NodeState S → Bool
coordinates n s = option_map_or (λ v. nat_eq v.id.creator.node n) (open_view s) false

-- ---- the same, as the trace says

-- whether all members of a view run in it, and are not blocked
abbrev pub all_open_in : View → List Event → Bool
all_open_in v t = list_all (λ q. runs_open_in q v.id t) v.members

-- whether that holds of the view of the member that runs at a node, and numbers are left, as the coordinator knows
abbrev pub has_calm_view : {S : Type 0} → ℕ → WorldModel S → Bool
has_calm_view n w = option_map_or (λ v. all_open_in v w.history.trace && has_numbers (w.node_states v.id.creator.node)) (view_at n w.history.trace) false

-- ---- what it plays

module _ {S : Type 0} (meaning : Meaning S) where
  -- a member puts out again what may be lost, and the coordinator hears all of it
  pub record Speaks (q : Address) (old new : WorldModel S) : Type 0 where
    pub told : WorldModel S
    pub ticks : Plays meaning old (Tick q.node) told
    pub heard : DeliversPast meaning (length old.history.pool) told new

  -- so each of these but the coordinator, one after another
  pub data AllSpeak (c : Address) (old : WorldModel S) : List Address → WorldModel S → Type 0 where
    NobodySpeaks : AllSpeak c old [] old
    NextSpeaks : (qs : List Address) (q : Address) (mid new : WorldModel S) → AllSpeak c old qs mid → MatchBool (same_address q c) (new ≡ mid) (Speaks q mid new) → AllSpeak c old (qs ++ q ∷ []) new

  abbrev pub pair_with : ViewId → Address → Pair
  pair_with v q = record { member = q; view = v }

  -- each of these but the coordinator is brought level with it, one after another
  pub data AllLevel (v : ViewId) (old : WorldModel S) : List Address → WorldModel S → Type 0 where
    NobodyLevels : AllLevel v old [] old
    NextLevels : (qs : List Address) (q : Address) (mid new : WorldModel S) → AllLevel v old qs mid → MatchBool (same_address q v.creator) (new ≡ mid) (CatchesUp meaning (pair_with v q) mid new)
        → AllLevel v old (qs ++ q ∷ []) new

  -- A ROUND
  pub record CalmRound (v : View) (old new : WorldModel S) : Type 0 where
    pub mid : WorldModel S
    pub speak : AllSpeak v.id.creator old v.members mid
    pub level : AllLevel v.id mid v.members new

  -- FOUR ROUNDS: the first has all ordered that the window lets, the second and third the rest; by the fourth all know it to be stable
  pub record DeliversAll (v : View) (old new : WorldModel S) : Type 0 where
    pub one : WorldModel S
    pub two : WorldModel S
    pub three : WorldModel S
    pub first : CalmRound v old one
    pub second : CalmRound v one two
    pub third : CalmRound v two three
    pub fourth : CalmRound v three new

  -- ---- what an error leaves: the steps before it are carried out

  pub data SpeaksShort (q : Address) (old : WorldModel S) : WorldModel S → Type 0 where
    AtTick : (new : WorldModel S) → Fails meaning old (Tick q.node) new → SpeaksShort q old new
    AtPacket : (told new : WorldModel S) → Plays meaning old (Tick q.node) told → BreaksPast meaning (length old.history.pool) told new → SpeaksShort q old new

  -- of one of these, who is not the coordinator, those before having spoken
  pub record AllSpeakShort (c : Address) (members : List Address) (old new : WorldModel S) : Type 0 where
    pub place : ℕ
    pub last : Address
    pub stands : slice_get members place ≡ Some last
    pub mid : WorldModel S
    pub before : AllSpeak c old (take place members) mid
    pub other : same_address last c ≡ false
    pub short : SpeaksShort last mid new

  pub record AllLevelShort (v : ViewId) (members : List Address) (old new : WorldModel S) : Type 0 where
    pub place : ℕ
    pub last : Address
    pub stands : slice_get members place ≡ Some last
    pub mid : WorldModel S
    pub before : AllLevel v old (take place members) mid
    pub other : same_address last v.creator ≡ false
    pub short : Stops meaning (pair_with v last) mid new

  pub data RoundShort (v : View) (old : WorldModel S) : WorldModel S → Type 0 where
    AtSpeak : (new : WorldModel S) → AllSpeakShort v.id.creator v.members old new → RoundShort v old new
    AtLevel : (mid new : WorldModel S) → AllSpeak v.id.creator old v.members mid → AllLevelShort v.id v.members mid new → RoundShort v old new

  pub data DeliversShort (v : View) (old : WorldModel S) : WorldModel S → Type 0 where
    AtFirst : (new : WorldModel S) → RoundShort v old new → DeliversShort v old new
    AtSecond : (one new : WorldModel S) → CalmRound v old one → RoundShort v one new → DeliversShort v old new
    AtThird : (one two new : WorldModel S) → CalmRound v old one → CalmRound v one two → RoundShort v two new → DeliversShort v old new
    AtFourth : (one two three new : WorldModel S) → CalmRound v old one → CalmRound v one two → CalmRound v two three → RoundShort v three new → DeliversShort v old new

-- ---- what it comes to

-- all members of a view run in it, and are not blocked
abbrev pub AllOpen : {S : Type 0} → View → WorldModel S → Type 0
AllOpen v w = (q : Address) → stands_in q v.members ≡ true → is_open_in q v.id (w.node_states q.node) ≡ true

-- after an error: one of the view's members has crashed at last, or all are open in it
abbrev pub EndsDelivering : {S : Type 0} → View → WorldModel S → Type 0
EndsDelivering v w = LosesMember v w ⊎ AllOpen v w

-- all members of a view run in it, not blocked; each has delivered what its coordinator has, which is all that each sent there; and each knows all of it to be stable
pub record IsThrough {S : Type 0} (v : View) (w : WorldModel S) : Type 0 where
  pub opened : AllOpen v w
  pub level : (q : Address) → stands_in q v.members ≡ true → delivered_in q v.id w.history.trace ≡ delivered_in v.id.creator v.id w.history.trace
  pub all : (q : Address) → stands_in q v.members ≡ true → own q (delivered_in v.id.creator v.id w.history.trace) ≡ sent_in q v.id w.history.trace
  pub stable : (q : Address) → stands_in q v.members ≡ true → stable_at (w.node_states q.node) ≡ Some (length (delivered_in v.id.creator v.id w.history.trace))

-- ---- the law

-- so many events at most: in each of four rounds each member has a tick, its messages that are outstanding and an ACK, then a tick, a STATUS, a NAK and a window of ORDERs
abbrev pub most_calm_events : ℕ
most_calm_events = 4 * (MEMBERS * (2 + OUTSTANDING + (3 + WINDOW)))

-- in every world a calm view delivers
abbrev pub CalmViewsDeliver : {S : Type 0} → Meaning S → Type 0
CalmViewsDeliver {S} meaning = (old new : WorldModel S) (n : ℕ) (v : View) → view_refusal v.id v.members ≡ None → IsReached meaning old → calm_at old.node_states n ≡ Some v → DeliversAll meaning v old new → IsThrough v new

-- by so few events
abbrev pub CalmViewsAreBrief : {S : Type 0} → Meaning S → Type 0
CalmViewsAreBrief {S} meaning = (old new : WorldModel S) (n : ℕ) (v : View) → view_refusal v.id v.members ≡ None → IsReached meaning old → calm_at old.node_states n ≡ Some v → DeliversAll meaning v old new
    → length new.history.events ≤ length old.history.events + most_calm_events

-- rounds that end in an error leave all members of the view open in it, or one of them has crashed
abbrev pub CalmRoundsEnd : {S : Type 0} → Meaning S → Type 0
CalmRoundsEnd {S} meaning = (old new : WorldModel S) (n : ℕ) (v : View) → view_refusal v.id v.members ≡ None → IsReached meaning old → calm_at old.node_states n ≡ Some v → DeliversShort meaning v old new → EndsDelivering v new
