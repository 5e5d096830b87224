-- Who waits for which message.
use Rattle.std.specs.Prelude.{ℕ, ◌==◌, Bool, List, Option, count_by}
use Rattle.std.specs.List.{find, remove, position_or_len}
use Rattle.std.specs.Option.{option_map}
use Rattle.application.specs.declared.waiting.Waiting.{Waiting}

abbrev pub waits_for : ℕ → Waiting → Bool
waits_for number w = w.number == number

-- the ticket of the first who waits for a message of this number
abbrev pub ticket_of : ℕ → List Waiting → Option ℕ
ticket_of number ws = option_map (λ w. w.ticket) (find (waits_for number) ws)

-- all who wait but that one
abbrev pub others_of : ℕ → List Waiting → List Waiting
others_of number ws = remove ws (position_or_len (waits_for number) ws)

-- how often a ticket waits
abbrev pub waits_with : ℕ → List Waiting → ℕ
waits_with ticket ws = count_by (λ w. w.ticket == ticket) ws
