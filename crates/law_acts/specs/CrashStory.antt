-- The crash of the first: three members come together, the first orders two messages, of which the second delivers one, and crashes; the second takes
-- over, and delivers the other by the cut.
use Rattle.std.specs.Prelude.{ℕ, None, Some, List, [], ◌∷◌, ◌++◌, take}
use Rattle.address.specs.Ids.{Address}
use Rattle.wire_values.specs.Values.{Entry, Report}
use Rattle.wire_values.specs.declared.packet.Body.TheVariants as bodies
use Rattle.wire_values.specs.declared.values.state.GivenState.TheVariants as forms
use Rattle.state_transfer.specs.Meanings.{Meaning}
use Rattle.trace_props.specs.declared.event.Event.{Event}
use Rattle.trace_props.specs.declared.event.Event.TheVariants.{Blocked, Crashed}
use Rattle.law_acts.specs.Acts.{Cuts, Puts, Sends, Queues, Orders, TakesAck, Collects, Holds, Delivers, Promises, Begins, Records, Finishes, Enters, delivery}
use Rattle.law_acts.specs.Steps.{Step, Crash, Does}
use Rattle.law_acts.specs.Stories.{Plays, one, two, three, view_of_three, view_of_rest, message_a, message_b, held_first, delivered_first, flush_with, for_companion, joining, three_joined, installs, sends}

abbrev pub entry_a : Entry
entry_a = record { sender = one; number = 1; payload = message_a }

abbrev pub entry_b : Entry
entry_b = record { sender = one; number = 2; payload = message_b }

abbrev pub held_both : List (ℕ × Entry)
held_both = (1, entry_a) ∷ (2, entry_b) ∷ []

abbrev pub delivered_both : Report
delivered_both = record { previous = Some view_of_three.id; stable = 0; delivered = 2; held = held_both }

abbrev pub rest_reports : List (Address × Report)
rest_reports = (two, delivered_first view_of_three entry_a) ∷ (three, delivered_both) ∷ []

-- both messages
abbrev pub both_cuts : Cuts
both_cuts = record { base = λ v. 0; items = λ v. entry_a ∷ entry_b ∷ [] }

-- the first sends two messages; one of them reaches the second, both reach the third
abbrev pub messages_chapter : List Step
messages_chapter =
    Does one None (Sends view_of_three message_a)
    ∷ Does one None (Queues view_of_three entry_a (entry_a ∷ []))
    ∷ Does one None (Orders view_of_three entry_a [] (held_first entry_a))
    ∷ Does one None (Puts two (bodies.Order view_of_three.id 1 entry_a))
    ∷ Does one None (Puts three (bodies.Order view_of_three.id 1 entry_a))
    ∷ Does one None (TakesAck view_of_three one 1)
    ∷ Does one None (Collects view_of_three 0 (held_first entry_a))
    ∷ Does one None (Sends view_of_three message_b)
    ∷ Does one None (Queues view_of_three entry_b (entry_b ∷ []))
    ∷ Does one None (Orders view_of_three entry_b [] held_both)
    ∷ Does one None (Puts two (bodies.Order view_of_three.id 2 entry_b))
    ∷ Does one None (Puts three (bodies.Order view_of_three.id 2 entry_b))
    ∷ Does one None (TakesAck view_of_three one 2)
    ∷ Does one None (Collects view_of_three 0 held_both)
    ∷ Does two (Some 11) (Holds view_of_three 1 entry_a (held_first entry_a))
    ∷ Does two (Some 11) (Delivers view_of_three entry_a)
    ∷ Does two (Some 11) (Puts one (bodies.Ack view_of_three.id 1))
    ∷ Does three (Some 12) (Holds view_of_three 1 entry_a (held_first entry_a))
    ∷ Does three (Some 12) (Delivers view_of_three entry_a)
    ∷ Does three (Some 12) (Puts one (bodies.Ack view_of_three.id 1))
    ∷ Does three (Some 14) (Holds view_of_three 2 entry_b held_both)
    ∷ Does three (Some 14) (Delivers view_of_three entry_b)
    ∷ Does three (Some 14) (Puts one (bodies.Ack view_of_three.id 2))
    ∷ []

-- the first crashes, and the second takes over: it delivers the message that it missed
abbrev pub crash_chapter : List Step
crash_chapter =
    Crash one
    ∷ Does two None (Begins view_of_rest)
    ∷ Does three (Some 18) (Promises view_of_rest)
    ∷ Does two (Some 19) (Records (flush_with view_of_rest (take 1 rest_reports)) three delivered_both)
    ∷ Does two (Some 19) (Finishes view_of_three (flush_with view_of_rest rest_reports) both_cuts forms.Nothing)
    ∷ Does three (Some 20) (Enters (for_companion view_of_rest (two ∷ three ∷ []) (entry_a ∷ entry_b ∷ [])) None)
    ∷ []

-- the whole story
abbrev pub crash_of_the_first : List ℕ → List Step
crash_of_the_first state = joining state (messages_chapter ++ crash_chapter)

-- the trace of the crash
abbrev pub crash_happened : List ℕ → List Event
crash_happened state =
    three_joined state
    ++ sends one view_of_three 1 message_a
    ∷ delivery one view_of_three.id entry_a
    ∷ sends one view_of_three 2 message_b
    ∷ delivery one view_of_three.id entry_b
    ∷ delivery two view_of_three.id entry_a
    ∷ delivery three view_of_three.id entry_a
    ∷ delivery three view_of_three.id entry_b
    ∷ Crashed one
    ∷ Blocked two
    ∷ Blocked three
    ∷ delivery two view_of_three.id entry_b
    ∷ installs two (Some view_of_three.id) view_of_rest (two ∷ three ∷ []) None
    ∷ installs three (Some view_of_three.id) view_of_rest (two ∷ three ∷ []) None
    ∷ []

abbrev pub CrashPlays : {S : Type 0} → Meaning S → Type 0
CrashPlays meaning = Plays meaning (crash_of_the_first (meaning.encode meaning.opening)) (crash_happened (meaning.encode meaning.opening))
