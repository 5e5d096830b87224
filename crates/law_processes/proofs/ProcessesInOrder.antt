-- Steps of many processes in one order do what the contracts say where each process does.
use Rattle.std.proofs.Common.{◌≡◌, ℕ, Bool, true, false, cond, Option, List, [], ◌∷◌, refl}
use Rattle.address.specs.Ids.{Address, same_address}
use Rattle.state_transfer.specs.Meanings.{Meaning}
use Rattle.address.proofs.SameIds.{same_address-refl}
use Rattle.law_acts.proofs.KeepBySteps as steps
use Rattle.member.specs.Members.{MemberModel}
use Rattle.law_processes.specs.Deployments.{Step, Start, Call, Crash, Deployment, nothing_yet, with_member, whose, left_with, after, EachStep, DoesSo}
use Rattle.law_processes.specs.Processes.{own_steps, StepsSo, RunsFrom}
use Rattle.law_processes.specs.Law.{MergedAreSynchronous}
use Rattle.law_processes.proofs.KeepBySteps.{are-synchronous}

module _ {S : Type 0} (meaning : Meaning S) (group : List ℕ) where
  -- each process from the member that runs at its address
  abbrev pub EachRuns : (Address → Option (MemberModel S)) → List (Step S) → Type 0
  EachRuns members steps = (p : Address) → RunsFrom meaning group (members p) (own_steps p steps)

  when-own : (b : Bool) (o : Option (MemberModel S)) (x : Step S) (own : List (Step S)) → b ≡ true → RunsFrom meaning group o (cond b (x ∷ own) own)
      → StepsSo meaning group o x × RunsFrom meaning group (left_with x) own
  when-own true o x own e r = r
  when-own false o x own e r = absurd (let bad : false ≡ true = e in cc)

  first : (members : Address → Option (MemberModel S)) (x : Step S) (steps : List (Step S)) → EachRuns members (x ∷ steps)
      → StepsSo meaning group (members (whose x)) x × RunsFrom meaning group (left_with x) (own_steps (whose x) steps)
  first members x steps r =
      when-own (same_address (whose x) (whose x)) (members (whose x)) x (own_steps (whose x) steps) (same_address-refl (whose x)) (r (whose x))

  rest-by : (b : Bool) (p q : Address) (o : Option (MemberModel S)) (x : Step S) (steps : List (Step S)) → same_address q p ≡ b
      → RunsFrom meaning group (left_with x) (own_steps p steps) → RunsFrom meaning group o (cond b (x ∷ own_steps q steps) (own_steps q steps))
      → RunsFrom meaning group (cond b (left_with x) o) (own_steps q steps)
  rest-by true p q o x steps same own r = r.1
  rest-by false p q o x steps same own r = r

  rest : (members : Address → Option (MemberModel S)) (x : Step S) (steps : List (Step S)) → EachRuns members (x ∷ steps) → EachRuns (with_member (whose x) (left_with x) members) steps
  rest members x steps r q = rest-by (same_address q (whose x)) (whose x) q (members q) x steps refl (first members x steps r).1 (r q)

  pub does-so : (d : Deployment S) (x : Step S) → StepsSo meaning group (d.members (whose x)) x → DoesSo meaning group d x
  does-so d (Start p m) s = s
  does-so d (Call p input result left) s = s
  does-so d (Crash p) s = s

  pub merged-does : (d : Deployment S) (steps : List (Step S)) → EachRuns d.members steps → EachStep (DoesSo meaning group) d steps
  merged-does d [] r = tt
  merged-does d (x ∷ steps) r = (
    does-so d x (first d.members x steps r).0,
    merged-does (after d x) steps (rest d.members x steps r),
  )

module _ {S : Type 0} (meaning : Meaning S) where
  pub merged-are : steps.Laws meaning → MergedAreSynchronous meaning
  merged-are laws group all h = are-synchronous meaning laws group all (record { does = merged-does meaning group nothing_yet all h.processes; once = h.once; network = h.network })
