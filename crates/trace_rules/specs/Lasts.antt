-- The numbers that are kept for the senders of messages.
use Rattle.std.specs.Prelude.{ℕ, List, [], ◌∷◌, if◌then◌else◌}
use Rattle.address.specs.Ids.{Address, same_address}
use Rattle.trace_rules.specs.declared.known.lasts.Last.{Last}

-- the number that is kept for a sender, 0 where none is
abbrev pub number_of : List Last → Address → ℕ
number_of [] q = 0
number_of (l ∷ ls) q = if same_address l.sender q then l.number else number_of ls q
