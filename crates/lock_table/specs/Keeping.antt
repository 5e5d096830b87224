-- What a node that keeps the table of locks knows by what happened to its member, and what it answers to those who ask for locks.
use Rattle.std.specs.Prelude.{ℕ, ◌==◌, Bool, List, [], ◌∷◌, ◌++◌, map, Option, None, Some}
use Rattle.std.specs.List.{filter, flat_map, list_any}
use Rattle.address.specs.Ids.{Address, ViewId}
use Rattle.trace_props.specs.declared.event.Event.{Event}
use Rattle.trace_props.specs.declared.event.Delivery.{Delivery}
use Rattle.trace_props.specs.declared.event.Install.{Install}
use Rattle.lock_table.specs.declared.command.Command.{Command}
use Rattle.lock_table.specs.declared.command.Command.TheVariants.{Acquire, Release, Roll}
use Rattle.lock_table.specs.Locks.{Table}
use Rattle.lock_table.specs.Commands.{command_of, table_apply}
use Rattle.lock_table.specs.Meanings.{table_meaning}
use Rattle.application.specs.declared.waiting.Waiting.{Waiting}
use Rattle.application.specs.Places.{next_place}
use Rattle.application.specs.Services.{of_own}
use Rattle.application.specs.Followed.{Followed, nothing_followed, noting, due, state_in, after_delivery, after_install}
use Rattle.lock_table.specs.declared.standing.Standing.{Standing}
use Rattle.lock_table.specs.declared.standing.Standing.TheVariants.{Holds, Waits, Apart}
use Rattle.lock_table.specs.declared.answer.Answer.{Answer}
use Rattle.lock_table.specs.declared.answer.Queued.{Queued}
use Rattle.lock_table.specs.declared.own_message.Early.{Early}
use Rattle.lock_table.specs.declared.own_message.Early.TheVariants.{Told, Asks}
use Rattle.lock_table.specs.declared.answer.Fate.{Fate}
use Rattle.lock_table.specs.declared.answer.Fate.TheVariants.{Granted, Full, Gone, Released, NotHeld, NoRequest, HandedBack}
use Rattle.lock_table.specs.Standings.{standing, is_waiting}

-- what it knows of its member, with the table, which ticket waits for which lock, and the answers that nobody has taken
pub record Keeping : Type 0 where
  pub followed : Followed Table
  pub queued : List Queued
  pub answers : List Answer

-- nothing happened yet
abbrev pub nothing_heard : Address → Keeping
nothing_heard own = record { followed = nothing_followed table_meaning own; queued = []; answers = [] }

-- a message of this number was sent for a ticket
abbrev pub noted : ℕ → ℕ → Keeping → Keeping
noted number ticket s = record s { followed = noting number ticket s.followed }

-- only these tickets wait for locks
abbrev pub kept_of : List ℕ → Keeping → Keeping
kept_of tickets s = record s { queued = filter (λ q. list_any (λ t. t == q.ticket) tickets) s.queued }

-- ---- what is told

abbrev pub answer_of : ℕ → ViewId → ℕ → Fate → Answer
answer_of ticket view place f = record { ticket = ticket; view = view; place = place; fate = f }

-- who asks for a lock is told at once, if the member holds it or does not stand there
abbrev pub first_verdict : Standing → Option Fate
first_verdict (Holds token) = Some (Granted token)
first_verdict Waits = None
first_verdict Apart = Some Full

-- who releases a lock is told how the member stood there
abbrev pub release_fate : Standing → Fate
release_fate (Holds token) = Released
release_fate Waits = Released
release_fate Apart = NotHeld

-- who waits is told as soon as the member does not wait any more
abbrev pub late_fate : Standing → Option Fate
late_fate (Holds token) = Some (Granted token)
late_fate Waits = None
late_fate Apart = Some Gone

abbrev pub told_of : ℕ → ViewId → ℕ → Option Fate → List Answer
told_of ticket view place None = []
told_of ticket view place (Some f) = answer_of ticket view place f ∷ []

abbrev pub told : Address → Table → ViewId → ℕ → Queued → List Answer
told own s view place q = told_of q.ticket view place (late_fate (standing own q.name s))

abbrev pub still_waits : Address → Table → Queued → Bool
still_waits own s q = is_waiting (standing own q.name s)

-- who waits for a message is told that it is handed back
abbrev pub back : ViewId → Waiting → Answer
back view w = answer_of w.ticket view 0 HandedBack

-- ---- an own message

-- what it comes to, as far as the table before it says so
abbrev pub early_by : Address → Table → Command → Early
early_by own old (Acquire view name) = Asks name
early_by own old (Release view name) = Told (release_fate (standing own name old))
early_by own old (Roll view) = Told NoRequest

abbrev pub early : Address → Table → Option Command → Early
early own old None = Told NoRequest
early own old (Some c) = early_by own old c

-- what its ticket is told, by the table after it; nothing if it waits for a lock
abbrev pub verdict : Address → Table → Early → Option Fate
verdict own new (Told f) = Some f
verdict own new (Asks name) = first_verdict (standing own name new)

abbrev pub queue_as : ℕ → List ℕ → Standing → List Queued
queue_as ticket name (Holds token) = []
queue_as ticket name Waits = record { ticket = ticket; name = name } ∷ []
queue_as ticket name Apart = []

-- who waits for a lock by it
abbrev pub queue_by : Address → Table → ℕ → Early → List Queued
queue_by own new ticket (Told f) = []
queue_by own new ticket (Asks name) = queue_as ticket name (standing own name new)

-- for the ticket of the message, if it has one
abbrev pub own_answers : Option ℕ → Delivery → Keeping → Table → List Answer
own_answers None d s new = []
own_answers (Some ticket) d s new = told_of ticket d.view (next_place s.followed.place) (verdict s.followed.own new (early s.followed.own s.followed.copy (command_of d.message.payload)))

abbrev pub own_queued : Option ℕ → Delivery → Keeping → Table → List Queued
own_queued None d s new = []
own_queued (Some ticket) d s new = queue_by s.followed.own new ticket (early s.followed.own s.followed.copy (command_of d.message.payload))

-- ---- events

-- the table after a message
abbrev pub applied : Delivery → Keeping → Table
applied d s = table_apply s.followed.copy d.message.sender d.message.payload

-- those that wait for locks are told what became of it
abbrev pub late : Keeping → Delivery → List Answer
late s d = flat_map (told s.followed.own (applied d s) d.view (next_place s.followed.place)) s.queued

-- its member delivers a message: the table goes on, those that wait for locks are told what became of it, and then the ticket of this message, if it is the member's own
abbrev pub delivered : Delivery → Keeping → Keeping
delivered d s = record {
  followed = after_delivery table_meaning d s.followed;
  queued = filter (still_waits s.followed.own (applied d s)) s.queued ++ own_queued (due d s.followed) d s (applied d s);
  answers = (s.answers ++ late s d) ++ own_answers (due d s.followed) d s (applied d s);
}

-- the table that an install gives, or the one that there was
abbrev pub table_in : Install → Keeping → Table
table_in i s = state_in table_meaning i s.followed

-- its member installs a view: all that wait for messages are told that these are handed back, and those that wait for locks what became of it
abbrev pub installed : Install → Keeping → Keeping
installed i s = record {
  followed = after_install table_meaning i s.followed;
  queued = filter (still_waits s.followed.own (table_in i s)) s.queued;
  answers = (s.answers ++ map (back i.view.id) s.followed.waiting) ++ flat_map (told s.followed.own (table_in i s) i.view.id 0) s.queued;
}

-- one event; those of other members leave it as it is
abbrev pub heard : Keeping → Event → Keeping
heard s h = of_own s.followed.own (λ d. delivered d s) (λ i. installed i s) s h
