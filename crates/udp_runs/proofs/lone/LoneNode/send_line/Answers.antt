use Rattle.std.proofs.Common.{◌≡◌, ℕ, List, Option, ◌⊎◌, inl, inr, subst, sym, ◌∙◌}
use Rattle.udp_runs.specs.Came.{IsLineOf, Owes}
use Rattle.udp_runs.proofs.NodesTell.{quiet-none}
use Rattle.udp_runs.specs.Outboxes.{OutboxModel, without_next}
use Rattle.udp_runs.specs.Unsaid.{UnsaidModel}
use Rattle.udp_runs.proofs.LinesKept.{owes-without}
use Rattle.udp_runs.proofs.lone.LoneNode.send_line.Goals as goal

pub returns-in_err-line-clause-drives : goal.returns-in_err-line-clause-drives
returns-in_err-line-clause-drives g c group start came later owed earlier = quiet-none _ _ _ _ group _

pub returns-in_default-clause-drives : goal.returns-in_default-clause-drives
returns-in_default-clause-drives g c group start came later owed earlier = quiet-none _ _ _ _ group _

pub returns-in_err-copy-clause-drives : goal.returns-in_err-copy-clause-drives
returns-in_err-copy-clause-drives g c group start came later owed earlier = quiet-none _ _ _ _ group _

pub returns-in_err-said-clause-drives : goal.returns-in_err-said-clause-drives
returns-in_err-said-clause-drives g c group start came later owed earlier = c.says.ensures.drives group start came later (inr (subst (IsLineOf start came) (sym c.as_slice-2.ensures.value) (rw c.in-Some.is at c.in_ok-line.ensures.line start came _ owed))) earlier

pub returns-clause-drives : goal.returns-clause-drives
returns-clause-drives g c group start came later owed earlier = c.says.ensures.drives group start came later (inr (subst (IsLineOf start came) (sym c.as_slice-2.ensures.value) (rw c.in-Some.is at c.in_ok-line.ensures.line start came _ owed))) earlier

-- the line waits on, or was taken
waits-or-taken : (start came : Option (List ℕ)) (o o' : OutboxModel) (u : UnsaidModel) → (o' ≡ o) ⊎ (o' ≡ without_next o) → Owes start came o u → Owes start came o' u
waits-or-taken start came o o' u (inl same) x = subst (λ (q : OutboxModel). Owes start came q u) (sym same) x
waits-or-taken start came o o' u (inr taken) x = subst (λ (q : OutboxModel). Owes start came q u) (sym taken) (owes-without start came o u x)

pub returns-clause-owes : goal.returns-clause-owes
returns-clause-owes g c start came owed =
    let line = subst (IsLineOf start came) (sym (c.in_ok-copy.ensures.items ∙ c.as_slice.ensures.value)) (rw c.in-Some.is at c.in_ok-line.ensures.line start came _ owed) in
    waits-or-taken start came c.says.new.self.outbox _ c.says.new.self.teller.unsaid c.take_said.ensures (c.in_ok-said.ensures.owes start came line (c.in_ok-line.ensures.owes start came _ owed))
