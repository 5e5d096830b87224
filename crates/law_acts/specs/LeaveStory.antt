-- The leave of the first: three members come together, and a message of the second becomes stable; the first leaves before it has ordered the next, which is
-- handed back to the second.
use Rattle.std.specs.Prelude.{ℕ, None, Some, List, [], ◌∷◌, ◌++◌, take}
use Rattle.address.specs.Ids.{Address}
use Rattle.wire_values.specs.Values.{Entry, Report}
use Rattle.wire_values.specs.Values as wire
use Rattle.wire_values.specs.declared.values.state.GivenState.TheVariants as forms
use Rattle.wire_values.specs.declared.packet.Body.TheVariants as bodies
use Rattle.state_transfer.specs.Meanings.{Meaning}
use Rattle.trace_props.specs.declared.event.Event.{Event}
use Rattle.trace_props.specs.declared.event.Event.TheVariants.{Blocked, Installed, Left}
use Rattle.trace_props.specs.declared.event.Install.{Install}
use Rattle.law_acts.specs.Acts.{Cuts, Puts, Sends, Queues, Orders, TakesAck, Collects, Holds, Delivers, Promises, Begins, Records, Finishes, Enters, Leaves, delivery}
use Rattle.law_acts.specs.Steps.{Step, Does}
use Rattle.law_acts.specs.Stories.{Plays, one, two, three, view_of_three, view_of_rest, message_a, message_b, held_first, delivered_first, flush_with, joining, three_joined, installs, sends}

abbrev pub entry_of_two : Entry
entry_of_two = record { sender = two; number = 1; payload = message_a }

-- the report of one that delivered one message, and has let go of it
abbrev pub delivered_stable : Report
delivered_stable = record { previous = Some view_of_three.id; stable = 1; delivered = 1; held = [] }

abbrev pub rest_reports : List (Address × Report)
rest_reports = (two, delivered_stable) ∷ (three, delivered_first view_of_three entry_of_two) ∷ []

-- the one message is stable, and none follows
abbrev pub stable_cuts : Cuts
stable_cuts = record { base = λ v. 1; items = λ v. [] }

-- the instruction to the third
abbrev pub for_third : wire.Install
for_third = record { view = view_of_rest; together = two ∷ three ∷ []; base = 1; items = []; state = forms.Nothing }

-- the second sends a message, the first orders it, all deliver it, and the first and the second learn that it is stable
abbrev pub stable_chapter : List Step
stable_chapter =
    Does two None (Sends view_of_three message_a)
    ∷ Does two None (Puts one (bodies.Forward view_of_three.id 1 message_a))
    ∷ Does one (Some 11) (Queues view_of_three entry_of_two (entry_of_two ∷ []))
    ∷ Does one (Some 11) (Orders view_of_three entry_of_two [] (held_first entry_of_two))
    ∷ Does one (Some 11) (Puts two (bodies.Order view_of_three.id 1 entry_of_two))
    ∷ Does one (Some 11) (Puts three (bodies.Order view_of_three.id 1 entry_of_two))
    ∷ Does one (Some 11) (TakesAck view_of_three one 1)
    ∷ Does one (Some 11) (Collects view_of_three 0 (held_first entry_of_two))
    ∷ Does two (Some 12) (Holds view_of_three 1 entry_of_two (held_first entry_of_two))
    ∷ Does two (Some 12) (Delivers view_of_three entry_of_two)
    ∷ Does two (Some 12) (Puts one (bodies.Ack view_of_three.id 1))
    ∷ Does three (Some 13) (Holds view_of_three 1 entry_of_two (held_first entry_of_two))
    ∷ Does three (Some 13) (Delivers view_of_three entry_of_two)
    ∷ Does three (Some 13) (Puts one (bodies.Ack view_of_three.id 1))
    ∷ Does one (Some 14) (TakesAck view_of_three two 1)
    ∷ Does one (Some 14) (Collects view_of_three 0 (held_first entry_of_two))
    ∷ Does one (Some 15) (TakesAck view_of_three three 1)
    ∷ Does one (Some 15) (Collects view_of_three 1 [])
    ∷ Does one None (Puts two (bodies.Status view_of_three.id (record { highest = 1; stable = 1 })))
    ∷ Does one None (Puts three (bodies.Status view_of_three.id (record { highest = 1; stable = 1 })))
    ∷ Does two (Some 16) (Collects view_of_three 1 [])
    ∷ []

-- the second sends another message, which is lost; the first says that it leaves, and leaves
abbrev pub leave_chapter : List Step
leave_chapter =
    Does two None (Sends view_of_three message_b)
    ∷ Does two None (Puts one (bodies.Forward view_of_three.id 2 message_b))
    ∷ Does one None (Puts two bodies.Leave)
    ∷ Does one None (Puts three bodies.Leave)
    ∷ Does one None Leaves
    ∷ Does two (Some 19) (Begins view_of_rest)
    ∷ Does three (Some 21) (Promises view_of_rest)
    ∷ Does two (Some 22) (Records (flush_with view_of_rest (take 1 rest_reports)) three (delivered_first view_of_three entry_of_two))
    ∷ Does two (Some 22) (Finishes view_of_three (flush_with view_of_rest rest_reports) stable_cuts forms.Nothing)
    ∷ Does three (Some 23) (Enters for_third None)
    ∷ []

-- the whole story
abbrev pub leave_of_the_first : List ℕ → List Step
leave_of_the_first state = joining state (stable_chapter ++ leave_chapter)

-- the second goes on, and is handed back the message that was not ordered
abbrev pub second_goes : Install
second_goes = record {
  member = two;
  previous = Some view_of_three.id;
  view = view_of_rest;
  together = two ∷ three ∷ [];
  handed_back = record { number = 2; payload = message_b } ∷ [];
  given = None;
}

-- the trace of the leave
abbrev pub leave_happened : List ℕ → List Event
leave_happened state =
    three_joined state
    ++ sends two view_of_three 1 message_a
    ∷ delivery one view_of_three.id entry_of_two
    ∷ delivery two view_of_three.id entry_of_two
    ∷ delivery three view_of_three.id entry_of_two
    ∷ sends two view_of_three 2 message_b
    ∷ Left one
    ∷ Blocked two
    ∷ Blocked three
    ∷ Installed second_goes
    ∷ installs three (Some view_of_three.id) view_of_rest (two ∷ three ∷ []) None
    ∷ []

abbrev pub LeavePlays : {S : Type 0} → Meaning S → Type 0
LeavePlays meaning = Plays meaning (leave_of_the_first (meaning.encode meaning.opening)) (leave_happened (meaning.encode meaning.opening))
