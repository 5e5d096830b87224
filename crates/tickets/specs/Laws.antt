-- What holds of tickets after any changes.
use Rattle.std.specs.Prelude.{◌≡◌, ◌⊎◌, ◌<◌, ℕ, ◌+◌, ◌==◌, Bool, true, false, ◌&&◌, List, count_by}
use Rattle.std.specs.List.{Contains, list_any}
use Rattle.tickets.specs.declared.tickets.Pending.{Pending}
use Rattle.tickets.specs.declared.tickets.End.{End}
use Rattle.tickets.specs.declared.tickets.End.TheVariants as end
use Rattle.tickets.specs.declared.tickets.Change.{Change}
use Rattle.tickets.specs.declared.tickets.Change.TheVariants as change
use Rattle.tickets.specs.Ledger.{Ledger, was_sent}

-- ---- each once

-- how often a ticket is open, and how often it has ended
abbrev pub open_often : ℕ → Ledger → ℕ
open_often ticket l = count_by (λ o. o.ticket == ticket) l.pending

abbrev pub ended_often : ℕ → Ledger → ℕ
ended_often ticket l = count_by (λ e. e.ticket == ticket) l.ended

-- whether a change opens a ticket
abbrev pub opens : ℕ → Change → Bool
opens ticket (change.Opened t until) = t == ticket
opens ticket (change.Sent t) = false
opens ticket (change.HandedBack t) = false
opens ticket (change.Settled t) = false
opens ticket (change.Gone t) = false
opens ticket (change.Passed now) = false
opens ticket change.BegunAgain = false
opens ticket change.Closed = false

-- EACH ONCE: a ticket is open or has ended as often, together, as it was before and was opened since
abbrev pub IsEachOnce : Ledger → List Change → Ledger → Type 0
IsEachOnce old cs new = (ticket : ℕ) → open_often ticket new + ended_often ticket new ≡ open_often ticket old + ended_often ticket old + count_by (opens ticket) cs

-- ---- in time

-- no open ticket should have been answered by now
abbrev pub IsInTime : ℕ → Ledger → Type 0
IsInTime now l = (o : Pending) → Contains l.pending o → now < o.until

-- an open ticket has the time that it was opened with
abbrev pub HasItsTime : Ledger → List Change → Pending → Type 0
HasItsTime old cs o = ((p : Pending) × Contains old.pending p × (p.ticket ≡ o.ticket) × (p.until ≡ o.until)) ⊎ Contains cs (change.Opened o.ticket o.until)

-- ---- truly

-- wherever a ticket is open, its message was sent
abbrev pub WasSent : ℕ → Ledger → Type 0
WasSent ticket l = (o : Pending) → Contains l.pending o → o.ticket ≡ ticket → was_sent o.stage ≡ true

-- whether an end says that nothing was done for a ticket
abbrev pub is_not_done : End → Bool
is_not_done end.NotDone = true
is_not_done end.Known = false
is_not_done end.Unknown = false
is_not_done end.Withdrawn = false

abbrev pub not_done_often : ℕ → Ledger → ℕ
not_done_often ticket l = count_by (λ e. (e.ticket == ticket) && is_not_done e.end) l.ended

-- TRUE: whose message was sent is not told 'not done', unless the same ticket is opened again
abbrev pub StaysTrue : Ledger → List Change → Ledger → Type 0
StaysTrue old cs new = (ticket : ℕ) → WasSent ticket old → list_any (opens ticket) cs ≡ false → not_done_often ticket new ≡ not_done_often ticket old
