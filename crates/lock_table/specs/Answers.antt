-- What a service knows after events, and what its answers say of them.
use Rattle.std.specs.Prelude.{◌≡◌, ◌⊎◌, ℕ, ◌+◌, true, List, [], ◌++◌, map, fold, take, slice_get, Some, suc, count_by, ◌==◌}
use Rattle.std.specs.List.{AllByRecursion, Contains, flat_map}
use Rattle.address.specs.Ids.{ViewId, same_address}
use Rattle.trace_props.specs.declared.event.Event.{Event}
use Rattle.trace_props.specs.declared.event.Event.TheVariants.{Started, Sent, Delivered, Blocked, Installed, Left, Crashed}
use Rattle.trace_props.specs.State.{state_after}
use Rattle.lock_table.specs.declared.command.Command.TheVariants.{Acquire}
use Rattle.keyed_state.specs.declared.token.Token.{Token}
use Rattle.lock_table.specs.Commands.{command_of}
use Rattle.lock_table.specs.Meanings.{table_meaning}
use Rattle.application.specs.Waits.{ticket_of, waits_with}
use Rattle.application.specs.Services.{of_own, answers_given}
use Rattle.application.specs.Followed.{due}
use Rattle.lock_table.specs.declared.standing.Standing.TheVariants.{Holds}
use Rattle.lock_table.specs.declared.answer.Answer.{Answer}
use Rattle.lock_table.specs.declared.answer.Fate.TheVariants.{Granted}
use Rattle.lock_table.specs.Standings.{standing}
use Rattle.lock_table.specs.Keeping.{Keeping, heard, applied, late, told, own_answers, back, table_in, still_waits}

abbrev pub heard_all : Keeping → List Event → Keeping
heard_all s t = fold heard s t

-- ---- answers

-- the answers that an event gives
abbrev pub answers_by : Keeping → Event → List Answer
answers_by s h = of_own s.followed.own (λ d. late s d ++ own_answers (due d s.followed) d s (applied d s))
    (λ i. map (back i.view.id) s.followed.waiting ++ flat_map (told s.followed.own (table_in i s) i.view.id 0) s.queued) [] h

-- those that events give, one after another
abbrev pub answers_to : Keeping → List Event → List Answer
answers_to s t = answers_given heard answers_by s t

-- an event is the delivery of an own message by which a ticket asks for a lock
abbrev pub AsksBy : Keeping → ℕ → List ℕ → Event → Type 0
AsksBy s ticket name (Started p) = ⊥
AsksBy s ticket name (Sent m) = ⊥
AsksBy s ticket name (Delivered d) =
    (same_address d.message.sender s.followed.own ≡ true) × (ticket_of d.message.number s.followed.waiting ≡ Some ticket) × (view : ViewId) × (command_of d.message.payload ≡ Some (Acquire view name))
AsksBy s ticket name (Blocked p) = ⊥
AsksBy s ticket name (Installed i) = ⊥
AsksBy s ticket name (Left p) = ⊥
AsksBy s ticket name (Crashed p) = ⊥

-- a ticket asks for a lock as an event happens: it waits for it, or it asks by that event
abbrev pub AsksFor : Keeping → ℕ → List ℕ → Event → Type 0
AsksFor s ticket name h = Contains s.queued (record { ticket = ticket; name = name }) ⊎ AsksBy s ticket name h

-- GRANTED: the ticket asks for a lock as the event at k happens, and right behind that event the member holds the lock, with this token
pub record IsGrantedAt (s : Keeping) (t : List Event) (k : ℕ) (name : List ℕ) (token : Token) (a : Answer) : Type 0 where
  pub event : Event
  pub stands : slice_get t k ≡ Some event
  pub asks : AsksFor (heard_all s (take k t)) a.ticket name event
  pub holds : standing s.followed.own name (fold (state_after table_meaning s.followed.own) s.followed.copy (take (suc k) t)) ≡ Holds token

-- who is told that a lock is granted asked for it, and its member holds it at that place of the trace, with the token that is named
abbrev pub GrantsAreTrue : Keeping → List Event → Type 0
GrantsAreTrue s t = (a : Answer) (token : Token) → Contains (answers_to s t) a → a.fate ≡ Granted token → (k : ℕ) × (name : List ℕ) × IsGrantedAt s t k name token a

-- ---- who waits for a lock

-- the member waits for each lock that somebody waits for: so who still waits has missed no grant
abbrev pub AllWait : Keeping → Type 0
AllWait s = AllByRecursion (λ q. still_waits s.followed.own s.followed.copy q ≡ true) s.queued

-- ---- tickets

-- how often a ticket waits for a message, or for a lock
abbrev pub waits_often : ℕ → Keeping → ℕ
waits_often ticket s = waits_with ticket s.followed.waiting + count_by (λ q. q.ticket == ticket) s.queued

-- and how often it is answered
abbrev pub answered_often : ℕ → Keeping → ℕ
answered_often ticket s = count_by (λ a. a.ticket == ticket) s.answers
