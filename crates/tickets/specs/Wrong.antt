-- Ledgers and places that a law or a definition must tell from the right ones.
use Rattle.std.specs.Prelude.{ℕ, [], ◌∷◌}
use Rattle.address.specs.Ids.{ViewId}
use Rattle.tickets.specs.declared.tickets.Stage.TheVariants as stage
use Rattle.tickets.specs.declared.tickets.End.TheVariants as end
use Rattle.tickets.specs.declared.reach.Place.{Place}
use Rattle.tickets.specs.Ledger.{Ledger}

-- the first ticket is open until then, and its message was never sent
abbrev pub one_waits : ℕ → Ledger
one_waits until = record { pending = record { ticket = 1; until = until; stage = stage.Waiting } ∷ []; ended = [] }

-- the first ticket has ended twice
abbrev pub one_twice : Ledger
one_twice = record { pending = []; ended = record { ticket = 1; end = end.Known } ∷ record { ticket = 1; end = end.Unknown } ∷ [] }

-- the first ticket was told 'not done'
abbrev pub one_not_done : Ledger
one_not_done = record { pending = []; ended = record { ticket = 1; end = end.NotDone } ∷ [] }

abbrev pub first_view : ViewId
first_view = record { counter = 1; creator = record { node = 1; incarnation = 1 } }

abbrev pub later_view : ViewId
later_view = record { counter = 2; creator = record { node = 1; incarnation = 1 } }

-- a place in the first view
abbrev pub in_first : ℕ → Place
in_first count = record { view = first_view; count = count }
