-- The chat's state: its last lines, and what a message does to them. Its size is the most lines that it keeps.
use Rattle.std.specs.Prelude.{ℕ, ◌-◌, ◌≤◌, List, [], ◌∷◌, ◌++◌, length, drop, Option}
use Rattle.std.specs.Option.{option_map}
use Rattle.std.specs.Borrow.{Bor}
use Rattle.std.specs.List.{AllByRecursion}
use Rattle.address.specs.Ids.{Address, IsAddress}
use Rattle.address.specs.declared.limits.TheConstants.{PAYLOAD}
use Rattle.chat_log.specs.declared.lines.Line.{Line}

-- the line that a sender said
abbrev pub said : Address → List ℕ → Line
said sender payload = record { sender = sender; payload = payload }

-- the lines that a chat may hold
pub record IsLine (l : Line) : Type 0 where
  pub sender : IsAddress l.sender
  pub payload : length l.payload ≤ PAYLOAD

-- the states of a chat: a few lines
pub record IsChat (lines : ℕ) (s : List Line) : Type 0 where
  pub few : length s ≤ lines
  pub each : AllByRecursion IsLine s

-- the last n of a list, all of it where it has no more
abbrev pub last_of : {A : Type 0} → ℕ → List A → List A
last_of n xs = drop (length xs - n) xs

-- a message is the newest line; the oldest is dropped where there were enough
abbrev pub chat_apply : ℕ → List Line → Address → List ℕ → List Line
chat_apply lines s from payload = last_of lines (s ++ said from payload ∷ [])

-- the line that is lent as who said it and what
abbrev pub line_said : Option (Address × Bor (List ℕ)) → Option Line
line_said found = option_map (λ l. said l.0 l.1.now) found
