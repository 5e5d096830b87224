-- What one process does, alone; and steps of many in one order.
use Rattle.std.specs.Prelude.{◌≡◌, ⊤, ℕ, List, [], ◌∷◌, flat_map, Option, true, is_some, if◌then◌else◌}
use Rattle.address.specs.Ids.{Address, same_address}
use Rattle.state_transfer.specs.Meanings.{Meaning}
use Rattle.member.specs.Members.{MemberModel}
use Rattle.trace_props.specs.declared.event.Event.{Event}
use Rattle.law_processes.specs.Deployments.{Step, Start, Call, Crash, IsNew, IsCall, whose, left_with, puts_of, told_by}

-- the steps of one address, in their order
abbrev pub own_steps : {S : Type 0} → Address → List (Step S) → List (Step S)
own_steps q [] = []
own_steps q (x ∷ steps) = if same_address q (whose x) then x ∷ own_steps q steps else own_steps q steps

-- what a step of a process is, by the member that runs before it
abbrev pub StepsSo : {S : Type 0} → Meaning S → List ℕ → Option (MemberModel S) → Step S → Type 0
StepsSo meaning group running (Start p m) = IsNew meaning group p m
StepsSo meaning group running (Call p input result left) = IsCall meaning running input result left
StepsSo meaning group running (Crash p) = is_some running ≡ true

-- PROCESS: its steps, each from the member that the step before it left
abbrev pub RunsFrom : {S : Type 0} → Meaning S → List ℕ → Option (MemberModel S) → List (Step S) → Type 0
RunsFrom meaning group running [] = ⊤
RunsFrom meaning group running (x ∷ own) = StepsSo meaning group running x × RunsFrom meaning group (left_with x) own

-- the member that runs after them
abbrev pub member_after : {S : Type 0} → Option (MemberModel S) → List (Step S) → Option (MemberModel S)
member_after running [] = running
member_after running (x ∷ own) = member_after (left_with x) own

-- the datagrams that they put out, and what their member tells
abbrev pub all_put_out : {S : Type 0} → List (Step S) → List (List ℕ)
all_put_out own = flat_map puts_of own

abbrev pub all_told : {S : Type 0} → List (Step S) → List Event
all_told own = flat_map told_by own
