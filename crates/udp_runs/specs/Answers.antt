-- What a call of a runner says, and what comes behind it.
use Rattle.std.specs.Prelude.{◌≡◌, ℕ, List, [], ◌∷◌, ◌++◌, map, Option, None, Some, Result, if◌then◌else◌}
use Rattle.address.specs.Ids.{Address}
use Rattle.state_transfer.specs.Meanings.{Meaning}
use Rattle.trace_props.specs.declared.event.Event.TheVariants.{Crashed}
use Rattle.member.specs.declared.error.Error.{Error}
use Rattle.member.specs.Errors.{number_of}
use Rattle.channel.specs.Errors.{is_end}
use Rattle.udp_net.specs.Logs.{Log}
use Rattle.udp_member.specs.Turns.{Driven}
use Rattle.udp_member.specs.Offers.{Offers}
use Rattle.udp_runs.specs.declared.process.Process.{Process}
use Rattle.udp_runs.specs.Processes.{Turns, all_told}
use Rattle.udp_runs.specs.Texts.{Line, Happens, Refuses, Appended}

-- the line of an answer: none where the call was taken, that it is refused, or that the member has crashed, where its channel has ended by it
abbrev pub answer_lines : Address → ℕ → Option Error → List Line
answer_lines p line None = []
answer_lines p line (Some e) = (if is_end e then Happens (Crashed p) else Refuses line (number_of e)) ∷ []

-- of which nothing is told but what waits
abbrev pub quiet : {N S : Type 0} → Driven N S → Driven N S
quiet r = record r { channel = all_told r.channel }

-- the lines of a turn, by where its call leaves the runner: of all that is told, and of the answer
abbrev pub turn_lines : {N S : Type 0} → Address → ℕ → Option Error → Driven N S → List Line
turn_lines p line failure r = map Happens r.channel.happened ++ answer_lines p line failure

-- what its channel put out is offered to its net, and nothing else is done
pub record IsOffered {N S : Type 0} (log : N → Option Log) (failed : N → ℕ) (old new : Driven N S) : Type 0 where
  pub offers : Offers log failed old.net old.channel new.net new.channel
  pub others : new ≡ record old { net = new.net; channel = new.channel }

-- ANSWERED: a call of a runner, the lines of all that its channel tells then and of the answer, and behind these what the channel put out is offered
pub record Answered {N S : Type 0} (log : N → Option Log) (failed : N → ℕ) (IsCall : Driven N S → Option Error → Driven N S → Type 0) (p : Address) (line : ℕ) (old new : Driven N S)
    (lines : List Line) : Type 0 where
  pub failure : Option Error
  pub mid : Driven N S
  pub call : IsCall old failure mid
  pub says : lines ≡ turn_lines p line failure mid
  pub offered : IsOffered log failed (quiet mid) new

-- the turn of a process by a call, and the lines of it behind a text; or the first of these, where memory was refused
abbrev pub TakesTurn : {N S A E : Type 0} → (N → Option Log) → (N → ℕ) → Meaning S → List ℕ → (Driven N S → Option Error → Driven N S → Type 0) → ℕ → Process N S → Process N S
    → List ℕ → List ℕ → Result A E → Type 0
TakesTurn {N} {S} log failed meaning group IsCall line old new text text' result =
    Appended (λ lines. Turns log failed meaning group old.address old.runner new.runner lines × Answered log failed IsCall old.address line old.runner new.runner lines)
    (λ lines. (r : Driven N S) × Turns log failed meaning group old.address old.runner r lines) text text' result
