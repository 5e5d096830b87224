-- How a node finds its group by words, and when it gives way to a greater view.
use Rattle.std.specs.Prelude.{◌≡◌, MatchBool, ℕ, ◌+◌, ◌-◌, ◌*◌, ◌/◌, ◌%◌, ◌^◌, Bool, true, false, not, ◌&&◌, ◌||◌, List, [], min, max, unwrap_or, Option, None, Some, nat_eq, nat_le, nat_lt, if◌then◌else◌}
use Rattle.std.specs.List.{list_any}
use Rattle.std.specs.Option.{option_map, option_map_or, is_some}
use Rattle.std.specs.declared.time.Duration.{Duration}
use Rattle.std.specs.Duration.{as_nanos}
use Rattle.address.specs.Ids.{Address, same_address, same_view_id}
use Rattle.udp_net.specs.declared.word.Echo.{Echo}
use Rattle.udp_net.specs.declared.word.Word.{Word}
use Rattle.udp_net.specs.declared.word.Neighbour.{Neighbour}
use Rattle.udp_net.specs.declared.word.Place.{Place}
use Rattle.udp_net.specs.declared.word.WordVersion.TheVariants.{Second}
use Rattle.node_finding.specs.declared.lineage.Lineage.{Lineage}
use Rattle.node_finding.specs.declared.ranks.Rank.{Rank}
use Rattle.node_finding.specs.declared.ranks.Offer.{Offer}
use Rattle.node_finding.specs.declared.ranks.Moment.{Moment}
use Rattle.node_finding.specs.declared.finding.Asked.{Asked}
use Rattle.node_finding.specs.declared.finding.Finder.{Finder}
use Rattle.node_finding.specs.declared.finding.Standing.{Standing}
use Rattle.node_finding.specs.declared.finding.Step.{Step}
use Rattle.node_finding.specs.declared.finding.Step.TheVariants.{Stay, Ask, Make, Again}
use Rattle.node_finding.specs.declared.finding.TheConstants.{FAR, FRESH, GIVE, HEAR, LATE, LOOK, LOOKER_SAYS, MEMBER_SAYS}
use Rattle.node_finding.specs.Ranks.{IsGreatest, count_in, counted, history_in, is_awaited, is_of_greater, moment_at, outranks, told, told_of}

-- a time in milliseconds, as far as a word can spell it
abbrev pub milliseconds_of : Duration → ℕ
milliseconds_of time = min (as_nanos time / 1_000_000) (2 ^ 64 - 1)

-- so many ticks, in milliseconds
abbrev pub ticks : ℕ → ℕ → ℕ
ticks tick count = min (tick * count) (2 ^ 64 - 1)

-- a time is so many ticks ago
abbrev pub is_ago : ℕ → ℕ → ℕ → ℕ → Bool
is_ago tick time since count = nat_le (ticks tick count) (time - since)

-- who hears, and when
abbrev pub moment_of : ℕ → ℕ → Address → List Neighbour → Moment
moment_of tick time own nodes = moment_at own time (ticks tick FRESH) nodes

-- ---- what it knows, and what it says

-- it begins to look, and asked a contact, if any
abbrev pub asked_at_first : Address → Asked
asked_at_first contact = record { contact = contact; at = 0 }

abbrev pub begun : ℕ → Option Address → Finder
begun tick contact = record {
  tick = max tick 1;
  asked = option_map asked_at_first contact;
  looked = None;
  wanted = None;
  given = 0;
  history = 0;
  place = None;
  is_new = true;
  has_looked = false;
  holds = false;
  seen = None;
}

-- it went on last more than LATE ticks ago: it was stopped
abbrev pub was_stopped : Finder → ℕ → Bool
was_stopped f time = option_map_or (λ seen. nat_lt (ticks f.tick LATE) (time - seen)) f.seen false

-- it goes on: it sends nothing for now, where it was stopped
abbrev pub gone_on : Finder → ℕ → Finder
gone_on f time = record f { holds = f.holds || was_stopped f time; seen = Some time }

-- it says a word in a round: where it said none yet of where it is, or is asked, or the round is one of those in which it says one
abbrev pub says_every : Finder → ℕ
says_every f = if is_some f.place then MEMBER_SAYS else LOOKER_SAYS

abbrev pub says_in : Finder → ℕ → Bool → Bool
says_in f round is_asked = (f.is_new || is_asked) || nat_eq (round % says_every f) 0

-- its word for a node: it answers the latest one of that node, and says of what view it is
abbrev pub echo_of : Word → Echo
echo_of word = record { address = word.source; said = word.said }

abbrev pub word_for : Finder → ℕ → Address → Neighbour → Word
word_for f time own node = record { version = Second; source = own; said = time; echo = option_map echo_of node.word; place = f.place }

-- ---- in a view

-- the event was counted by which the member installed its view
abbrev pub is_counted : Standing → Bool
is_counted at = option_map_or (λ v. same_view_id v at.view) at.lineage.view false

-- the history of one's own view: the latest that was known of the same lineage, that the member saw, or that others tell who are there
abbrev pub known_before : Finder → Lineage → ℕ
known_before f l = if nat_eq f.given l.given then f.history else 0

abbrev pub known_after : Finder → Moment → Standing → List Neighbour → ℕ
known_after f m at nodes = max (max (known_before f at.lineage) at.lineage.history) (history_in m at.view nodes)

-- the members of one's own view: as its coordinator tells; or how many say that they are there, and oneself
abbrev pub own_members : Moment → Standing → List Neighbour → ℕ
own_members m at nodes = option_map_or (λ o. o.rank.members) (told_of m at.view nodes) (min (min (count_in m at.view nodes + 1) at.members) 255)

-- the rank of one's own view
abbrev pub own_rank : Moment → ℕ → Standing → List Neighbour → Rank
own_rank m history at nodes = record { history = counted m history; members = own_members m at nodes; view = at.view }

-- what one says of it: a coordinator stays, unless it wants to go
abbrev pub place_of : Address → Rank → ℕ → Bool → Place
place_of own rank history wants = record { view = rank.view; members = rank.members; stays = not wants && same_address rank.view.creator own; history = history }

-- a view, if it is greater than one's own
abbrev pub greater_than : Rank → Option Offer → Option Offer
greater_than own None = None
greater_than own (Some best) = if outranks best.rank own then Some best else None

-- since when a member wants to go to a greater view: no more, as soon as it is told of none
abbrev pub wanted_after : Option ℕ → ℕ → Bool → Option ℕ
wanted_after old time false = None
wanted_after old time true = Some (unwrap_or old time)

-- it gives way to a greater view whose coordinator stays, where it has wanted to for GIVE ticks
abbrev pub gives_way : ℕ → ℕ → Option ℕ → Option Offer → Bool
gives_way tick time None greater = false
gives_way tick time (Some since) None = false
gives_way tick time (Some since) (Some best) = best.stays && is_ago tick time since GIVE

abbrev pub way_of : ℕ → ℕ → Option ℕ → Option Offer → Step
way_of tick time wanted greater = if gives_way tick time wanted greater then Again else Stay

-- the rank of one's own view, by what is known of its history then
abbrev pub rank_there : Finder → Moment → Standing → List Neighbour → Rank
rank_there old m at nodes = own_rank m (known_after old m at nodes) at nodes

-- the step of a member of a view, by the greatest other view of which it is told: it asks nobody, and makes no group
pub record StepsInView (old new : Finder) (m : Moment) (at : Standing) (nodes : List Neighbour) (step : Step) : Type 0 where
  pub best : Option Offer
  pub greatest : IsGreatest (told m (Some at.view) nodes) best
  pub history : new.history ≡ known_after old m at nodes
  pub given : new.given ≡ at.lineage.given
  pub wants : new.wanted ≡ wanted_after old.wanted m.time (is_some (greater_than (rank_there old m at nodes) best))
  pub gives : step ≡ way_of old.tick m.time new.wanted (greater_than (rank_there old m at nodes) best)
  pub place : new.place ≡ Some (place_of m.own (rank_there old m at nodes) new.history (is_some (greater_than (rank_there old m at nodes) best)))
  pub asked : new.asked ≡ None
  pub looked : new.looked ≡ None
  pub tick : new.tick ≡ old.tick

-- and nothing changes before the event was counted by which it installed the view
abbrev pub StepsThere : Finder → Finder → Moment → Standing → List Neighbour → Step → Type 0
StepsThere old new m at nodes step = MatchBool (is_counted at) (StepsInView old new m at nodes step) ((new ≡ old) × (step ≡ Stay))

-- ---- in no view

-- it asks an address, unless it asked that one less than LOOK ticks ago
abbrev pub is_asked_lately : ℕ → ℕ → Address → Asked → Bool
is_asked_lately tick time contact asked = same_address asked.contact contact && not (is_ago tick time asked.at LOOK)

abbrev pub asking : Finder → ℕ → Address → Step
asking f time contact = if option_map_or (is_asked_lately f.tick time contact) f.asked false then Stay else Ask contact

-- it has looked for long and is told of no view: for LOOK ticks where it waits for nobody, or for FAR ticks
abbrev pub has_looked_long : ℕ → ℕ → ℕ → Bool → Bool
has_looked_long tick time since waits = (is_ago tick time since LOOK && not waits) || is_ago tick time since FAR

-- then it makes a group; but it begins again where it asked somebody, for its member can make none then
abbrev pub making : Finder → Step
making f = if is_some f.asked then Again else Make

abbrev pub looking : Finder → Moment → List Neighbour → Step
looking f m nodes = if has_looked_long f.tick m.time (unwrap_or f.looked m.time) (list_any (is_awaited m) nodes) then making f else Stay

-- it asks nobody yet: until it has looked for HEAR ticks; and until it has for FAR, while it hears of a greater view than the greatest of which it is told
abbrev pub holds_off : Finder → Moment → List Neighbour → Rank → Bool
holds_off f m nodes rank =
    not (is_ago f.tick m.time (unwrap_or f.looked m.time) HEAR) || (list_any (is_of_greater m rank nodes) nodes && not (is_ago f.tick m.time (unwrap_or f.looked m.time) FAR))

-- what it does, by the greatest view of which it is told
abbrev pub step_by : Finder → Moment → List Neighbour → Option Offer → Step
step_by f m nodes (Some best) = if holds_off f m nodes best.rank then Stay else asking f m.time best.rank.view.creator
step_by f m nodes None = looking f m nodes

-- whom it asked last, and since when it looks, after a step
abbrev pub asked_after : Option Asked → ℕ → Step → Option Asked
asked_after old time (Ask contact) = Some (record { contact = contact; at = time })
asked_after old time Stay = old
asked_after old time Make = old
asked_after old time Again = old

abbrev pub looked_after : Option ℕ → ℕ → Step → Option ℕ
looked_after old time Make = None
looked_after old time Stay = Some (unwrap_or old time)
looked_after old time Again = Some (unwrap_or old time)
looked_after old time (Ask contact) = Some (unwrap_or old time)

abbrev pub looked_since : Finder → Moment → List Neighbour → Option Offer → Step → Option ℕ
looked_since f m nodes None step = looked_after f.looked m.time step
looked_since f m nodes (Some best) step = if holds_off f m nodes best.rank then Some (unwrap_or f.looked m.time) else None

-- the step of who is in no view
pub record StepsOutside (old new : Finder) (m : Moment) (nodes : List Neighbour) (step : Step) : Type 0 where
  pub best : Option Offer
  pub greatest : IsGreatest (told m None nodes) best
  pub does : step ≡ step_by old m nodes best
  pub asked : new.asked ≡ asked_after old.asked m.time step
  pub looked : new.looked ≡ looked_since old m nodes best step
  pub wanted : new.wanted ≡ None
  pub history : new.history ≡ old.history
  pub given : new.given ≡ old.given
  pub place : new.place ≡ None
  pub tick : new.tick ≡ old.tick

-- ---- what this means

-- it may make a group: it is told of no view, asked nobody, and has looked for LOOK ticks at least
pub record MayMake (old : Finder) (m : Moment) (nodes : List Neighbour) : Type 0 where
  pub untold : told m None nodes ≡ []
  pub unasked : old.asked ≡ None
  pub looked : is_ago old.tick m.time (unwrap_or old.looked m.time) LOOK ≡ true

-- it may ask an address: that of the coordinator of the greatest view of which it is told
pub record MayAsk (m : Moment) (nodes : List Neighbour) (contact : Address) : Type 0 where
  pub best : Offer
  pub greatest : IsGreatest (told m None nodes) (Some best)
  pub coordinator : contact ≡ best.rank.view.creator

-- it may give way: the greatest other view of which it is told is greater than its own, its coordinator stays there, and it has wanted to go to a greater one for GIVE ticks
pub record MayGiveWay (old : Finder) (m : Moment) (at : Standing) (nodes : List Neighbour) : Type 0 where
  pub best : Offer
  pub greatest : IsGreatest (told m (Some at.view) nodes) (Some best)
  pub greater : outranks best.rank (rank_there old m at nodes) ≡ true
  pub stays : best.stays ≡ true
  pub wanted : is_ago old.tick m.time (unwrap_or old.wanted m.time) GIVE ≡ true

-- each step that does something may be done: in a view it gives way at most; in no view it asks, makes a group, or begins again where it asked in vain
abbrev pub MayDoInView : Finder → Moment → List Neighbour → Standing → Step → Type 0
MayDoInView old m nodes at Stay = Unit
MayDoInView old m nodes at Again = MayGiveWay old m at nodes
MayDoInView old m nodes at Make = ⊥
MayDoInView old m nodes at (Ask contact) = ⊥

abbrev pub MayDoOutside : Finder → Moment → List Neighbour → Step → Type 0
MayDoOutside old m nodes Stay = Unit
MayDoOutside old m nodes Again = is_some old.asked ≡ true
MayDoOutside old m nodes Make = MayMake old m nodes
MayDoOutside old m nodes (Ask contact) = MayAsk m nodes contact
