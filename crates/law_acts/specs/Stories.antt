-- Stories: lists of steps, as the law speaks of them, written in full. This is what all of them have alike: who takes part, how three come together.
use Rattle.std.specs.Prelude.{◌≡◌, ℕ, Option, None, Some, List, [], ◌∷◌, ◌++◌, take}
use Rattle.address.specs.Ids.{Address, ViewId}
use Rattle.view.specs.Members.{View}
use Rattle.wire_values.specs.Values.{Entry, Report, nothing_reported}
use Rattle.wire_values.specs.Values as wire
use Rattle.wire_values.specs.declared.values.state.GivenState.TheVariants as forms
use Rattle.wire_values.specs.declared.packet.Body.TheVariants as bodies
use Rattle.state_transfer.specs.Meanings.{Meaning}
use Rattle.flush.specs.Flushes.{FlushModel}
use Rattle.trace_props.specs.declared.event.Event.{Event}
use Rattle.trace_props.specs.declared.event.Event.TheVariants.{Started, Sent, Blocked, Installed}
use Rattle.law_acts.specs.Acts.{Cuts, Creates, Joins, Puts, Promises, Begins, Records, Finishes, Enters, lone_view}
use Rattle.law_acts.specs.Steps.{Step, Start, Does, nothing_yet, MayRun, after_steps}

-- a list of steps is allowed from the beginning on, and this trace comes of it
abbrev pub Plays : {S : Type 0} → Meaning S → List Step → List Event → Type 0
Plays meaning story trace =
    MayRun meaning nothing_yet story × ((after_steps meaning nothing_yet story).history.trace ≡ trace)

-- ---- who takes part

abbrev pub one : Address
one = record { node = 1; incarnation = 1 }

abbrev pub two : Address
two = record { node = 2; incarnation = 1 }

abbrev pub three : Address
three = record { node = 3; incarnation = 1 }

-- ---- the views after the first

abbrev pub view_of_two : View
view_of_two = record { id = record { counter = 2; creator = one }; members = one ∷ two ∷ [] }

abbrev pub view_of_three : View
view_of_three = record { id = record { counter = 3; creator = one }; members = one ∷ two ∷ three ∷ [] }

-- without the first
abbrev pub view_of_rest : View
view_of_rest = record { id = record { counter = 4; creator = two }; members = two ∷ three ∷ [] }

-- ---- what is said

abbrev pub message_a : List ℕ
message_a = 97 ∷ []

abbrev pub message_b : List ℕ
message_b = 98 ∷ []

-- held as the first
abbrev pub held_first : Entry → List (ℕ × Entry)
held_first e = (1, e) ∷ []

-- the report of one that delivered nothing in its view
abbrev pub delivered_nothing : View → Report
delivered_nothing v = record { previous = Some v.id; stable = 0; delivered = 0; held = [] }

-- the report of one that delivered one message
abbrev pub delivered_first : View → Entry → Report
delivered_first v e = record { previous = Some v.id; stable = 0; delivered = 1; held = held_first e }

-- ---- flushes and their cuts

abbrev pub flush_with : View → List (Address × Report) → FlushModel
flush_with w reports = record { proposal = w.id; members = w.members; reports = reports }

-- the reports for the second view, and for the third, in order of arrival
abbrev pub two_reports : List (Address × Report)
two_reports = (one, delivered_nothing (lone_view one)) ∷ (two, nothing_reported) ∷ []

abbrev pub three_reports : List (Address × Report)
three_reports = (one, delivered_nothing view_of_two) ∷ (two, delivered_nothing view_of_two) ∷ (three, nothing_reported) ∷ []

-- nothing is held
abbrev pub empty_cuts : Cuts
empty_cuts = record { base = λ v. 0; items = λ v. [] }

-- the instruction to one that comes from no view: it is given this state
abbrev pub for_newcomer : View → Address → List ℕ → wire.Install
for_newcomer w q state = record { view = w; together = q ∷ []; base = 0; items = []; state = forms.Whole state }

-- the instruction to one that comes from the view of the coordinator
abbrev pub for_companion : View → List Address → List Entry → wire.Install
for_companion w together items = record { view = w; together = together; base = 0; items = items; state = forms.Nothing }

-- ---- all stories begin alike. Packets are named by their place in the pool, from 0

-- the first starts and makes its view
abbrev pub first_chapter : List Step
first_chapter = Start one ∷ Does one None Creates ∷ []

-- the second joins
abbrev pub second_chapter : List ℕ → List Step
second_chapter state =
    Start two
    ∷ Does two None Joins
    ∷ Does two None (Puts one bodies.Join)
    ∷ Does one (Some 0) (Begins view_of_two)
    ∷ Does two (Some 1) (Promises view_of_two)
    ∷ Does one (Some 2) (Records (flush_with view_of_two (take 1 two_reports)) two nothing_reported)
    ∷ Does one (Some 2) (Finishes (lone_view one) (flush_with view_of_two two_reports) empty_cuts (forms.Whole state))
    ∷ Does two (Some 3) (Enters (for_newcomer view_of_two two state) (Some state))
    ∷ []

-- the third joins
abbrev pub third_chapter : List ℕ → List Step
third_chapter state =
    Start three
    ∷ Does three None Joins
    ∷ Does three None (Puts one bodies.Join)
    ∷ Does one (Some 4) (Begins view_of_three)
    ∷ Does two (Some 5) (Promises view_of_three)
    ∷ Does three (Some 6) (Promises view_of_three)
    ∷ Does one (Some 7) (Records (flush_with view_of_three (take 1 three_reports)) two (delivered_nothing view_of_two))
    ∷ Does one (Some 8) (Records (flush_with view_of_three (take 2 three_reports)) three nothing_reported)
    ∷ Does one (Some 8) (Finishes view_of_two (flush_with view_of_three three_reports) empty_cuts (forms.Whole state))
    ∷ Does two (Some 9) (Enters (for_companion view_of_three (one ∷ two ∷ []) []) None)
    ∷ Does three (Some 10) (Enters (for_newcomer view_of_three three state) (Some state))
    ∷ []

-- three come together, each newcomer is given this state, and then the story goes on
abbrev pub joining : List ℕ → List Step → List Step
joining state more = first_chapter ++ second_chapter state ++ third_chapter state ++ more

-- ---- what happened

-- a member goes into a view, with none of its messages handed back
abbrev pub installs : Address → Option ViewId → View → List Address → Option (List ℕ) → Event
installs p previous w together given = Installed (record { member = p; previous = previous; view = w; together = together; handed_back = []; given = given })

abbrev pub sends : Address → View → ℕ → List ℕ → Event
sends p v number payload = Sent (record { member = p; view = v.id; message = record { number = number; payload = payload } })

-- three members come together
abbrev pub three_joined : List ℕ → List Event
three_joined state =
    Started one
    ∷ installs one None (lone_view one) (one ∷ []) None
    ∷ Started two
    ∷ Blocked one
    ∷ installs one (Some (lone_view one).id) view_of_two (one ∷ []) None
    ∷ installs two None view_of_two (two ∷ []) (Some state)
    ∷ Started three
    ∷ Blocked one
    ∷ Blocked two
    ∷ installs one (Some view_of_two.id) view_of_three (one ∷ two ∷ []) None
    ∷ installs two (Some view_of_two.id) view_of_three (one ∷ two ∷ []) None
    ∷ installs three None view_of_three (three ∷ []) (Some state)
    ∷ []
