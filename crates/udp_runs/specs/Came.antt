-- What lines gave, and what a node keeps of it until it is delivered.
use Rattle.std.specs.Prelude.{◌≡◌, ◌⊎◌, ℕ, Bool, true, false, List, [], ◌∷◌, ◌++◌, Option, None, Some, Result, Ok, Err, MatchBool, nat_eq}
use Rattle.std.specs.List.{list_any, AllByRecursion}
use Rattle.udp_runs.specs.declared.unsaid.Sent.{Sent}
use Rattle.udp_runs.specs.declared.unsaid.Sent.TheVariants as sent
use Rattle.udp_runs.specs.Outboxes.{OutboxModel, with_more}
use Rattle.udp_runs.specs.Unsaid.{UnsaidModel}

-- ---- what comes

-- GIVES: one more piece came, and stands behind the text, where a list of what came is kept
abbrev pub Gives : {E : Type 0} → Option (List ℕ) → Option (List ℕ) → List ℕ → List ℕ → Result Unit E → Type 0
Gives None came' text text' result = came' ≡ None
Gives (Some came) came' text text' (Ok done) = (piece : List ℕ) × (text' ≡ text ++ piece) × (came' ≡ Some (came ++ piece))
Gives (Some came) came' text text' (Err why) = (piece : List ℕ) × (came' ≡ Some (came ++ piece))

-- what came later begins with what came earlier
abbrev pub IsEarlier : Option (List ℕ) → Option (List ℕ) → Type 0
IsEarlier None came' = came' ≡ None
IsEarlier (Some came) came' = (rest : List ℕ) × (came' ≡ Some (came ++ rest))

-- one more piece came, and it waits behind what waited
abbrev pub Fills : {E : Type 0} → Option (List ℕ) → Option (List ℕ) → OutboxModel → OutboxModel → Result Unit E → Type 0
Fills None came' old new result = came' ≡ None
Fills (Some came) came' old new (Ok done) = (piece : List ℕ) × (came' ≡ Some (came ++ piece)) × (new ≡ with_more piece old)
Fills (Some came) came' old new (Err why) = (piece : List ℕ) × (came' ≡ Some (came ++ piece))

-- ---- its lines

-- a line begins behind this text
abbrev pub BeginsLine : List ℕ → Type 0
BeginsLine before = (before ≡ []) ⊎ ((front : List ℕ) × (before ≡ front ++ 10 ∷ []))

-- a text is one line
abbrev pub IsOneLine : List ℕ → Type 0
IsOneLine text = list_any (λ b. nat_eq b 10) text ≡ false

-- LINE: of what came since a start, a text is a whole line: it stood behind the start or a line feed, and before one
pub record IsLine (start came text : List ℕ) : Type 0 where
  pub before : List ℕ
  pub after : List ℕ
  pub begins : BeginsLine before
  pub one : IsOneLine text
  pub stood : came ≡ start ++ (before ++ (text ++ 10 ∷ after))

-- such lines, each with its line feed
pub data AreLines (start came : List ℕ) : List ℕ → Type 0 where
  NoLine : AreLines start came []
  OneLine : (text rest : List ℕ) → IsLine start came text → AreLines start came rest → AreLines start came (text ++ 10 ∷ rest)

-- ---- what a node keeps of them

-- what waits are lines that came back, and then what came last, from where a line begins; or it will, where the last line was dropped
pub record Waits (start came : List ℕ) (o : OutboxModel) : Type 0 where
  pub back : List ℕ
  pub rest : List ℕ
  pub waiting : o.waiting ≡ back ++ rest
  pub lines : AreLines start came back
  pub stands : MatchBool o.is_cut ((rest ≡ []) × ((before : List ℕ) × (came ≡ start ++ before)))
      ((before : List ℕ) × BeginsLine before × (came ≡ start ++ (before ++ rest)))

-- a line that was sent
abbrev pub IsSentLine : List ℕ → List ℕ → Sent → Type 0
IsSentLine start came (sent.Line line) = IsLine start came line.items
IsSentLine start came sent.Once = Unit {0}
IsSentLine start came sent.First = Unit {0}
IsSentLine start came sent.Write = Unit {0}

-- OWES: all that waits, was sent, or came back, are lines of what came since a start, where a list of that is kept
abbrev pub Owes : Option (List ℕ) → Option (List ℕ) → OutboxModel → UnsaidModel → Type 0
Owes (Some start) (Some came) outbox unsaid = Waits start came outbox × (AllByRecursion (IsSentLine start came) unsaid.sent × AreLines start came unsaid.back)
Owes (Some start) None outbox unsaid = Unit {0}
Owes None came outbox unsaid = Unit {0}

-- a text is a line of what came since a start; any text, where no list of that is kept
abbrev pub IsLineOf : Option (List ℕ) → Option (List ℕ) → List ℕ → Type 0
IsLineOf (Some start) (Some came) text = IsLine start came text
IsLineOf (Some start) None text = Unit {0}
IsLineOf None came text = Unit {0}

-- TEXT: a text is what a node sends once, or such a line
abbrev pub IsText : Option (List ℕ) → Option (List ℕ) → Option (List ℕ) → List ℕ → Type 0
IsText once start came text = (once ≡ Some text) ⊎ IsLineOf start came text

-- a message that was sent is such a line, if it is a line
abbrev pub IsSentOf : Option (List ℕ) → Option (List ℕ) → Sent → Type 0
IsSentOf start came (sent.Line line) = IsLineOf start came line.items
IsSentOf start came sent.Once = Unit {0}
IsSentOf start came sent.First = Unit {0}
IsSentOf start came sent.Write = Unit {0}

-- KEEPS: what is owed is owed still
abbrev pub Keeps : OutboxModel → UnsaidModel → OutboxModel → UnsaidModel → Type 0
Keeps outbox unsaid outbox' unsaid' = (start came : Option (List ℕ)) → Owes start came outbox unsaid → Owes start came outbox' unsaid'

-- the same, of what was sent and came back
abbrev pub KeepsUnsaid : UnsaidModel → UnsaidModel → Type 0
KeepsUnsaid unsaid unsaid' = (outbox : OutboxModel) → Keeps outbox unsaid outbox unsaid'
