use Rattle.std.proofs.Common.{ℕ, ◌+◌, sym, ap, ◌∙◌, arith, length, List}
use Rattle.udp_runs.specs.Outboxes.{without_next}
use Rattle.udp_runs.proofs.FirstLines.{taken-past, next-is}
use Rattle.udp_runs.proofs.outbox.Outbox.take.Goals as goal

pub returns-in-Some : goal.returns-in-Some
returns-in-Some c =
    let at = sym (rw (c.waiting.ensures, ← c.self.view_is) at c.in-Some.ensures.rest) in
    let line = rw (c.waiting.ensures, ← c.self.view_is) at c.in-Some.ensures.line in
    let x = taken-past c.self.inside.bytes.items c.in-Some.field-0-1.now c.self.inside.taken _ c.saturating_add-self-inside.result _ (omega (arith, c.self.inside.bytes.small)) at (ap (λ (l : List ℕ). length l + 1) line) c.saturating_add-self-inside.ensures in
    next-is c.self.inside.bytes.items c.in-Some.field-0-1.now c.self.inside.taken c.saturating_add-self-inside.result c.self.inside.is_cut at x ∙ ap without_next c.self.view_is
