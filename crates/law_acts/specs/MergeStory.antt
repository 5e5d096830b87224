-- Two halves: four members come together and fall into two halves, in each of which a message is ordered; the halves merge. The second half is given the
-- state of the first, and the fourth member delivers the message of its own half that it lacks.
use Rattle.std.specs.Prelude.{ℕ, None, Some, List, [], ◌∷◌, ◌++◌, take, if◌then◌else◌}
use Rattle.address.specs.Ids.{Address, same_view_id}
use Rattle.view.specs.Members.{View}
use Rattle.wire_values.specs.Values.{Entry, Report, nothing_reported}
use Rattle.wire_values.specs.Values as wire
use Rattle.wire_values.specs.declared.values.state.GivenState.TheVariants as forms
use Rattle.wire_values.specs.declared.packet.Body.TheVariants as bodies
use Rattle.state_transfer.specs.Meanings.{Meaning}
use Rattle.trace_props.specs.declared.event.Event.{Event}
use Rattle.trace_props.specs.declared.event.Event.TheVariants.{Started, Blocked}
use Rattle.law_acts.specs.Acts.{Cuts, Joins, Puts, Sends, Queues, Orders, TakesAck, Collects, Holds, Delivers, Promises, Begins, Records, Finishes, Enters, delivery}
use Rattle.law_acts.specs.Steps.{Step, Start, Does}
use Rattle.law_acts.specs.Stories.{Plays, one, two, three, view_of_three, message_a, message_b, held_first, delivered_nothing, delivered_first, flush_with, empty_cuts, for_newcomer, for_companion, joining, three_joined, installs, sends}

abbrev pub four : Address
four = record { node = 4; incarnation = 1 }

abbrev pub view_of_four : View
view_of_four = record { id = record { counter = 4; creator = one }; members = one ∷ two ∷ three ∷ four ∷ [] }

-- a proposal that is given up for a higher one
abbrev pub view_given_up : View
view_given_up = record { id = record { counter = 5; creator = one }; members = one ∷ two ∷ four ∷ [] }

-- the two halves, and all together again
abbrev pub first_half : View
first_half = record { id = record { counter = 6; creator = one }; members = one ∷ two ∷ [] }

abbrev pub second_half : View
second_half = record { id = record { counter = 5; creator = three }; members = three ∷ four ∷ [] }

abbrev pub view_of_all : View
view_of_all = record { id = record { counter = 7; creator = one }; members = one ∷ two ∷ three ∷ four ∷ [] }

-- of the coordinator, in its half
abbrev pub entry_of_one : Entry
entry_of_one = record { sender = one; number = 1; payload = message_a }

-- of the third member, in its half
abbrev pub entry_of_three : Entry
entry_of_three = record { sender = three; number = 1; payload = message_b }

-- the reports of the four flushes, in order of arrival
abbrev pub four_reports : List (Address × Report)
four_reports = (one, delivered_nothing view_of_three) ∷ (two, delivered_nothing view_of_three) ∷ (three, delivered_nothing view_of_three) ∷ (four, nothing_reported) ∷ []

abbrev pub first_reports : List (Address × Report)
first_reports = (one, delivered_nothing view_of_four) ∷ (two, delivered_nothing view_of_four) ∷ []

abbrev pub second_reports : List (Address × Report)
second_reports = (three, delivered_nothing view_of_four) ∷ (four, delivered_nothing view_of_four) ∷ []

abbrev pub all_reports : List (Address × Report)
all_reports =
    (one, delivered_first first_half entry_of_one)
    ∷ (two, delivered_first first_half entry_of_one)
    ∷ (three, delivered_first second_half entry_of_three)
    ∷ (four, delivered_nothing second_half)
    ∷ []

-- in each half the one message that was sent there
abbrev pub half_cuts : Cuts
half_cuts = record { base = λ v. 0; items = λ v. if same_view_id v first_half.id then entry_of_one ∷ [] else entry_of_three ∷ [] }

-- the instruction to one that comes from another view: it has the messages that that one lacks, and this state
abbrev pub for_merged : View → List Address → List Entry → List ℕ → wire.Install
for_merged w together items state = record { view = w; together = together; base = 0; items = items; state = forms.Whole state }

-- the fourth joins
abbrev pub fourth_chapter : List ℕ → List Step
fourth_chapter state =
    Start four
    ∷ Does four None Joins
    ∷ Does four None (Puts one bodies.Join)
    ∷ Does one (Some 11) (Begins view_of_four)
    ∷ Does two (Some 12) (Promises view_of_four)
    ∷ Does three (Some 13) (Promises view_of_four)
    ∷ Does four (Some 14) (Promises view_of_four)
    ∷ Does one (Some 15) (Records (flush_with view_of_four (take 1 four_reports)) two (delivered_nothing view_of_three))
    ∷ Does one (Some 16) (Records (flush_with view_of_four (take 2 four_reports)) three (delivered_nothing view_of_three))
    ∷ Does one (Some 17) (Records (flush_with view_of_four (take 3 four_reports)) four nothing_reported)
    ∷ Does one (Some 17) (Finishes view_of_three (flush_with view_of_four four_reports) empty_cuts (forms.Whole state))
    ∷ Does two (Some 18) (Enters (for_companion view_of_four (one ∷ two ∷ three ∷ []) []) None)
    ∷ Does three (Some 19) (Enters (for_companion view_of_four (one ∷ two ∷ three ∷ []) []) None)
    ∷ Does four (Some 20) (Enters (for_newcomer view_of_four four state) (Some state))
    ∷ []

-- the first and the third each lose sight of the other half; the first proposes twice
abbrev pub parting_chapter : List Step
parting_chapter =
    Does one None (Begins view_given_up)
    ∷ Does one None (Begins first_half)
    ∷ Does three None (Begins second_half)
    ∷ Does two (Some 23) (Promises first_half)
    ∷ Does one (Some 25) (Records (flush_with first_half (take 1 first_reports)) two (delivered_nothing view_of_four))
    ∷ Does one (Some 25) (Finishes view_of_four (flush_with first_half first_reports) empty_cuts forms.Nothing)
    ∷ Does two (Some 26) (Enters (for_companion first_half (one ∷ two ∷ []) []) None)
    ∷ Does four (Some 24) (Promises second_half)
    ∷ Does three (Some 27) (Records (flush_with second_half (take 1 second_reports)) four (delivered_nothing view_of_four))
    ∷ Does three (Some 27) (Finishes view_of_four (flush_with second_half second_reports) empty_cuts forms.Nothing)
    ∷ Does four (Some 28) (Enters (for_companion second_half (three ∷ four ∷ []) []) None)
    ∷ []

-- a message in each half; that of the third is not delivered to the fourth
abbrev pub apart_chapter : List Step
apart_chapter =
    Does one None (Sends first_half message_a)
    ∷ Does one None (Queues first_half entry_of_one (entry_of_one ∷ []))
    ∷ Does one None (Orders first_half entry_of_one [] (held_first entry_of_one))
    ∷ Does one None (Puts two (bodies.Order first_half.id 1 entry_of_one))
    ∷ Does one None (TakesAck first_half one 1)
    ∷ Does one None (Collects first_half 0 (held_first entry_of_one))
    ∷ Does two (Some 29) (Holds first_half 1 entry_of_one (held_first entry_of_one))
    ∷ Does two (Some 29) (Delivers first_half entry_of_one)
    ∷ Does two (Some 29) (Puts one (bodies.Ack first_half.id 1))
    ∷ Does three None (Sends second_half message_b)
    ∷ Does three None (Queues second_half entry_of_three (entry_of_three ∷ []))
    ∷ Does three None (Orders second_half entry_of_three [] (held_first entry_of_three))
    ∷ Does three None (Puts four (bodies.Order second_half.id 1 entry_of_three))
    ∷ Does three None (TakesAck second_half three 1)
    ∷ Does three None (Collects second_half 0 (held_first entry_of_three))
    ∷ []

-- the halves merge: the second is given the state of the first, and the fourth delivers what it lacks
abbrev pub merge_chapter : List ℕ → List Step
merge_chapter state =
    Does three None (Puts one (bodies.Merge second_half))
    ∷ Does one (Some 32) (Begins view_of_all)
    ∷ Does two (Some 33) (Promises view_of_all)
    ∷ Does three (Some 34) (Promises view_of_all)
    ∷ Does four (Some 35) (Promises view_of_all)
    ∷ Does one (Some 36) (Records (flush_with view_of_all (take 1 all_reports)) two (delivered_first first_half entry_of_one))
    ∷ Does one (Some 37) (Records (flush_with view_of_all (take 2 all_reports)) three (delivered_first second_half entry_of_three))
    ∷ Does one (Some 38) (Records (flush_with view_of_all (take 3 all_reports)) four (delivered_nothing second_half))
    ∷ Does one (Some 38) (Finishes first_half (flush_with view_of_all all_reports) half_cuts (forms.Whole state))
    ∷ Does two (Some 39) (Enters (for_companion view_of_all (one ∷ two ∷ []) (entry_of_one ∷ [])) None)
    ∷ Does three (Some 40) (Enters (for_merged view_of_all (three ∷ four ∷ []) (entry_of_three ∷ []) state) (Some state))
    ∷ Does four (Some 41) (Enters (for_merged view_of_all (three ∷ four ∷ []) (entry_of_three ∷ []) state) (Some state))
    ∷ []

-- the whole story, for the state with which all begin, and that of the first half
abbrev pub partition_and_merge : List ℕ → List ℕ → List Step
partition_and_merge state half =
    joining state (fourth_chapter state ++ parting_chapter ++ apart_chapter ++ merge_chapter half)

-- the trace of the halves
abbrev pub merge_happened : List ℕ → List ℕ → List Event
merge_happened state half =
    three_joined state
    ++ Started four
    ∷ Blocked one
    ∷ Blocked two
    ∷ Blocked three
    ∷ installs one (Some view_of_three.id) view_of_four (one ∷ two ∷ three ∷ []) None
    ∷ installs two (Some view_of_three.id) view_of_four (one ∷ two ∷ three ∷ []) None
    ∷ installs three (Some view_of_three.id) view_of_four (one ∷ two ∷ three ∷ []) None
    ∷ installs four None view_of_four (four ∷ []) (Some state)
    ∷ Blocked one
    ∷ Blocked three
    ∷ Blocked two
    ∷ installs one (Some view_of_four.id) first_half (one ∷ two ∷ []) None
    ∷ installs two (Some view_of_four.id) first_half (one ∷ two ∷ []) None
    ∷ Blocked four
    ∷ installs three (Some view_of_four.id) second_half (three ∷ four ∷ []) None
    ∷ installs four (Some view_of_four.id) second_half (three ∷ four ∷ []) None
    ∷ sends one first_half 1 message_a
    ∷ delivery one first_half.id entry_of_one
    ∷ delivery two first_half.id entry_of_one
    ∷ sends three second_half 1 message_b
    ∷ delivery three second_half.id entry_of_three
    ∷ Blocked one
    ∷ Blocked two
    ∷ Blocked three
    ∷ Blocked four
    ∷ installs one (Some first_half.id) view_of_all (one ∷ two ∷ []) None
    ∷ installs two (Some first_half.id) view_of_all (one ∷ two ∷ []) None
    ∷ installs three (Some second_half.id) view_of_all (three ∷ four ∷ []) (Some half)
    ∷ delivery four second_half.id entry_of_three
    ∷ installs four (Some second_half.id) view_of_all (three ∷ four ∷ []) (Some half)
    ∷ []

-- the state of the first half is that with which all begin and the message that was ordered there
abbrev pub MergePlays : {S : Type 0} → Meaning S → Type 0
MergePlays meaning =
    let half = meaning.encode (meaning.apply meaning.opening one message_a) in
    Plays meaning (partition_and_merge (meaning.encode meaning.opening) half) (merge_happened (meaning.encode meaning.opening) half)
