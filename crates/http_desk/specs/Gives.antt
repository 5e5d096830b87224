-- What is sent to a connection.
use Rattle.std.specs.Prelude.{◌≡◌, ◌⊎◌, ◌++◌, [], ℕ, false, List, Option}
use Rattle.std.specs.Option.{IsSomeAnd, option_map_or}
use Rattle.http_desk.specs.declared.reply.Reply.{Reply}
use Rattle.http_desk.specs.declared.services.Answered.{Answered}

-- the body of an answer: what is its own, and what it shares with others
abbrev pub body_of : Reply → List ℕ
body_of r = r.body.items ++ option_map_or (λ s. s) r.shared []

-- a response is the answer that was found for what was asked, to no part of which memory was refused, or 503
abbrev pub IsGiven : Option Answered → ℕ → List ℕ → Type 0
IsGiven found status body = (status ≡ 503) ⊎ IsSomeAnd found (λ f. (f.reply.body.is_short ≡ false) × (status ≡ f.reply.status) × (body ≡ body_of f.reply))
