-- A story of two tickets, written in full.
use Rattle.std.specs.Prelude.{List, [], ◌∷◌}
use Rattle.tickets.specs.declared.tickets.Stage.TheVariants as stage
use Rattle.tickets.specs.declared.tickets.End.TheVariants as end
use Rattle.tickets.specs.declared.tickets.Change.{Change}
use Rattle.tickets.specs.declared.tickets.Change.TheVariants as change
use Rattle.tickets.specs.Ledger.{Ledger}

-- the first ticket is opened, and its message is sent
abbrev pub first_sent : List Change
first_sent = change.Opened 1 10 ∷ change.Sent 1 ∷ []

-- its message is handed back, sent again, and known; the second is opened, and its time passes
abbrev pub goes_on : List Change
goes_on = change.HandedBack 1 ∷ change.Sent 1 ∷ change.Settled 1 ∷ change.Opened 2 5 ∷ change.Passed 5 ∷ []

-- the first ticket is open, its message under way
abbrev pub one_sent : Ledger
one_sent = record { pending = record { ticket = 1; until = 10; stage = stage.Sent } ∷ []; ended = [] }

-- the first ticket is open, its message handed back
abbrev pub one_back : Ledger
one_back = record { pending = record { ticket = 1; until = 10; stage = stage.Back } ∷ []; ended = [] }

-- both have ended: the first is known, the second was never sent
abbrev pub both_ended : Ledger
both_ended = record { pending = []; ended = record { ticket = 1; end = end.Known } ∷ record { ticket = 2; end = end.NotDone } ∷ [] }
