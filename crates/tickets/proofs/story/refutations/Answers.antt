use Rattle.std.proofs.Common.{◌≡◌, ◌<◌, ℕ, true, false, refl, arith}
use Rattle.std.specs.List.{Contains}
use Rattle.tickets.specs.declared.tickets.Stage.TheVariants as stage
use Rattle.tickets.specs.declared.tickets.Pending.{Pending}
use Rattle.tickets.specs.Wrong.{one_waits}
use Rattle.tickets.proofs.AnsweredTruly.{is-sent}
use Rattle.tickets.proofs.story.refutations.Goals as goal

abbrev waits : ℕ → Pending
waits until = record { ticket = 1; until = until; stage = stage.Waiting }

is-open : (until : ℕ) → Contains (one_waits until).pending (waits until)
is-open until = (0, omega arith, refl)

pub returns-clause-forgotten : goal.returns-clause-forgotten
returns-clause-forgotten c = λ once. let e : ◌≡◌ {A = ℕ} 0 1 = once 1 in absurd (omega arith)

pub returns-clause-twice : goal.returns-clause-twice
returns-clause-twice c = λ once. let e : ◌≡◌ {A = ℕ} 2 1 = once 1 in absurd (omega arith)

pub returns-clause-late : goal.returns-clause-late
returns-clause-late c = λ none. let e : 3 < 3 = none (waits 3) (is-open 3) in absurd (omega arith)

pub returns-clause-waiting : goal.returns-clause-waiting
returns-clause-waiting c = λ sent. let e : false ≡ true = sent (waits 10) (is-open 10) refl in absurd cc

pub returns-clause-untrue : goal.returns-clause-untrue
returns-clause-untrue c = λ stays. let e : ◌≡◌ {A = ℕ} 1 0 = stays 1 (is-sent (one_waits 10) 1) refl in absurd (omega arith)
