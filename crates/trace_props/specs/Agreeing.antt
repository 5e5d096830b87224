-- What may follow a trace under the rules on members that go from view to view: same next view, together, handed back,
-- state of entry. Each condition speaks of the newest event and of registers and lists of the trace before it.
use Rattle.std.specs.Prelude.{◌≡◌, ◌↔◌, Bool, true, false, ◌&&◌, Option, None, Some, List, [], ◌∷◌, ◌++◌, length, drop, find, IsSome, MatchOption}
use Rattle.std.specs.Option.{ForSome}
use Rattle.address.specs.Ids.{Address, ViewId, same_address, same_view_id}
use Rattle.view.specs.Members.{stands_in}
use Rattle.state_transfer.specs.Meanings.{Meaning}
use Rattle.trace_props.specs.declared.event.Event.{Event}
use Rattle.trace_props.specs.declared.event.Event.TheVariants.{Started, Sent, Delivered, Blocked, Installed, Left, Crashed}
use Rattle.trace_props.specs.declared.event.Install.{Install}
use Rattle.trace_props.specs.Observed.{delivered_in, sent_in, own, installs_in, entry_of, first_install}
use Rattle.trace_props.specs.Rules.{LiesWithin}
use Rattle.trace_props.specs.State.{state_of, entry_state}

-- SAME NEXT VIEW, SAME LIST

abbrev pub is_view : ViewId → Option ViewId → Bool
is_view v None = false
is_view v (Some u) = same_view_id u v

-- whether an install goes from a view to another
abbrev pub goes : ViewId → ViewId → Install → Bool
goes v w i = same_view_id i.view.id w && is_view v i.previous

-- the first install that goes from a view to another, by whomever
abbrev pub first_from : ViewId → ViewId → List Event → Option Install
first_from v w t = find (goes v w) (installs_in t)

-- as many messages as the first who went from the same view to the same next
abbrev pub MayMeet : List Event → Event → Type 0
MayMeet past (Started p) = Unit {0}
MayMeet past (Sent s) = Unit {0}
MayMeet past (Delivered d) = Unit {0}
MayMeet past (Blocked p) = Unit {0}
MayMeet past (Installed i) =
    ForSome i.previous (λ v. ForSome (first_from v i.view.id past) (λ f. length (delivered_in f.member v past) ≡ length (delivered_in i.member v past)))
MayMeet past (Left p) = Unit {0}
MayMeet past (Crashed p) = Unit {0}

-- TOGETHER

-- each of two that installed the same view is in the other's set exactly if they came from the same view
pub record KnowEachOther (i f : Install) : Type 0 where
  pub knows : (stands_in f.member i.together ≡ true) ↔ (f.previous ≡ i.previous)
  pub known : (stands_in i.member f.together ≡ true) ↔ (i.previous ≡ f.previous)

-- the set lies within both views, has the member itself, and agrees with those of all that have installed the view
pub record KnowsAll (past : List Event) (i : Install) : Type 0 where
  pub inside : LiesWithin i.together i.view.members
  pub before : ForSome i.previous (λ v. ForSome (first_install v past) (λ f. LiesWithin i.together f.view.members))
  pub itself : stands_in i.member i.together ≡ true
  pub others : (q : Address) → stands_in q i.view.members ≡ true → ForSome (entry_of q i.view.id past) (KnowEachOther i)

abbrev pub MayKnow : List Event → Event → Type 0
MayKnow past (Started p) = Unit {0}
MayKnow past (Sent s) = Unit {0}
MayKnow past (Delivered d) = Unit {0}
MayKnow past (Blocked p) = Unit {0}
MayKnow past (Installed i) = KnowsAll past i
MayKnow past (Left p) = Unit {0}
MayKnow past (Crashed p) = Unit {0}

-- HANDED BACK

-- what the member sent past the count of its own messages that it delivered
abbrev pub MayHandBack : List Event → Event → Type 0
MayHandBack past (Started p) = Unit {0}
MayHandBack past (Sent s) = Unit {0}
MayHandBack past (Delivered d) = Unit {0}
MayHandBack past (Blocked p) = Unit {0}
MayHandBack past (Installed i) =
    MatchOption i.previous (i.handed_back ≡ []) (λ v. i.handed_back ≡ drop (length (own i.member (delivered_in i.member v past))) (sent_in i.member v past))
MayHandBack past (Left p) = Unit {0}
MayHandBack past (Crashed p) = Unit {0}

-- STATE OF ENTRY

-- a given state can be read; the coordinator enters first, all others with its state
abbrev pub MayEnter : {S : Type 0} → Meaning S → List Event → Event → Type 0
MayEnter meaning past (Started p) = Unit {0}
MayEnter meaning past (Sent m) = Unit {0}
MayEnter meaning past (Delivered d) = Unit {0}
MayEnter meaning past (Blocked p) = Unit {0}
MayEnter meaning past (Installed i) =
    ForSome i.given (λ g. IsSome (meaning.decode g))
    × MatchOption (entry_state meaning i.view.id past)
    (same_address i.member i.view.id.creator ≡ true)
    (λ s. s ≡ state_of meaning i.member (past ++ Installed i ∷ []))
MayEnter meaning past (Left p) = Unit {0}
MayEnter meaning past (Crashed p) = Unit {0}
