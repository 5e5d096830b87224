-- What happens to tickets: each is open until it ends (docs/HTTP.md, "Writes").
use Rattle.std.specs.Prelude.{ℕ, ◌==◌, Bool, true, false, not, ◌&&◌, List, [], ◌∷◌, ◌++◌, map, filter, filter_map, fold, nat_le, Option, None, Some, if◌then◌else◌}
use Rattle.std.specs.List.{list_any, find, remove, position_or_len}
use Rattle.std.specs.Option.{option_map, is_some}
use Rattle.tickets.specs.declared.tickets.Stage.{Stage}
use Rattle.tickets.specs.declared.tickets.Stage.TheVariants as stage
use Rattle.tickets.specs.declared.tickets.Pending.{Pending}
use Rattle.tickets.specs.declared.tickets.End.{End}
use Rattle.tickets.specs.declared.tickets.End.TheVariants as end
use Rattle.tickets.specs.declared.tickets.Ended.{Ended}
use Rattle.tickets.specs.declared.tickets.Change.{Change}
use Rattle.tickets.specs.declared.tickets.Change.TheVariants as change

-- the tickets that are open, and those that have ended
pub record Ledger : Type 0 where
  pub pending : List Pending
  pub ended : List Ended

abbrev pub nothing_open : Ledger
nothing_open = record { pending = []; ended = [] }

-- ---- one ticket

abbrev pub is_sent : Stage → Bool
is_sent stage.Waiting = false
is_sent stage.Sent = true
is_sent stage.Back = false

-- its message was sent once at least
abbrev pub was_sent : Stage → Bool
was_sent stage.Waiting = false
was_sent stage.Sent = true
was_sent stage.Back = true

-- a stage after its message was handed back
abbrev pub handed_back : Stage → Stage
handed_back stage.Waiting = stage.Waiting
handed_back stage.Sent = stage.Back
handed_back stage.Back = stage.Back

-- the stage to which a change brings an open ticket
abbrev pub stage_after : Change → Pending → Stage
stage_after (change.Sent ticket) o = if ticket == o.ticket then stage.Sent else o.stage
stage_after (change.HandedBack ticket) o = if ticket == o.ticket then handed_back o.stage else o.stage
stage_after (change.Opened ticket until) o = o.stage
stage_after (change.Settled ticket) o = o.stage
stage_after (change.Gone ticket) o = o.stage
stage_after (change.Passed now) o = o.stage
stage_after change.BegunAgain o = o.stage
stage_after change.Closed o = o.stage

abbrev pub moved : Change → Pending → Pending
moved c o = record o { stage = stage_after c o }

-- how a ticket ends of whose message nothing is known: 'not done' only if it was never sent
abbrev pub given_up : Stage → End
given_up s = if was_sent s then end.Unknown else end.NotDone

-- how a change ends an open ticket, if it does
abbrev pub end_by : Change → Pending → Option End
end_by (change.Settled ticket) o = if ticket == o.ticket then Some end.Known else None
end_by (change.Gone ticket) o = if (ticket == o.ticket) && not (is_sent o.stage) then Some end.Withdrawn else None
end_by (change.Passed now) o = if nat_le o.until now then Some (given_up o.stage) else None
end_by change.BegunAgain o = if was_sent o.stage then Some end.Unknown else None
end_by change.Closed o = Some (given_up o.stage)
end_by (change.Opened ticket until) o = None
end_by (change.Sent ticket) o = None
end_by (change.HandedBack ticket) o = None

-- ---- all tickets

abbrev pub stays_open : Change → Pending → Bool
stays_open c o = not (is_some (end_by c o))

abbrev pub ended_by : Change → Pending → Option Ended
ended_by c o = option_map (λ e. record { ticket = o.ticket; end = e }) (end_by c o)

-- the ticket that a change opens
abbrev pub opened_by : Change → List Pending
opened_by (change.Opened ticket until) = record { ticket = ticket; until = until; stage = stage.Waiting } ∷ []
opened_by (change.Sent ticket) = []
opened_by (change.HandedBack ticket) = []
opened_by (change.Settled ticket) = []
opened_by (change.Gone ticket) = []
opened_by (change.Passed now) = []
opened_by change.BegunAgain = []
opened_by change.Closed = []

-- AFTER: a change moves each open ticket or ends it, and may open one
abbrev pub after : Ledger → Change → Ledger
after l c = record { pending = map (moved c) (filter (stays_open c) l.pending) ++ opened_by c; ended = l.ended ++ filter_map (ended_by c) l.pending }

abbrev pub after_all : Ledger → List Change → Ledger
after_all l cs = fold after l cs

-- ---- what is asked of it

-- the first ticket whose message is to be sent
abbrev pub first_unsent : Ledger → Option ℕ
first_unsent l = option_map (λ o. o.ticket) (find (λ o. not (is_sent o.stage)) l.pending)

abbrev pub is_open : ℕ → Ledger → Bool
is_open ticket l = list_any (λ o. o.ticket == ticket) l.pending

abbrev pub has_ended : ℕ → Ended → Bool
has_ended ticket e = e.ticket == ticket

-- the end of a ticket, and all but that one
abbrev pub end_taken : ℕ → Ledger → Option End
end_taken ticket l = option_map (λ e. e.end) (find (has_ended ticket) l.ended)

abbrev pub taken_of : ℕ → Ledger → Ledger
taken_of ticket l = record l { ended = remove l.ended (position_or_len (has_ended ticket) l.ended) }
