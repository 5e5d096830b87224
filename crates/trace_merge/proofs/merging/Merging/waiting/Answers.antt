use Rattle.std.proofs.Common.{◌≡◌, ℕ, ◌∙◌, sym, ap, refl, false, arith, length, below_more, Option, Some, None, Bor, is_some}
use Rattle.std.specs.Option.{option_copied}
use Rattle.trace_props.specs.declared.event.Event.{Event}
use Rattle.trace_merge.specs.Merges.{events_at, has_next}
use Rattle.trace_merge.specs.Outcomes.{slices}
use Rattle.trace_merge.proofs.KeepCome.{slice-at, fails}
use Rattle.trace_merge.proofs.merging.Merging.waiting.Goals as goal

copied-some : (o : Option (Bor Event)) → is_some (option_copied o) ≡ is_some o
copied-some None = refl
copied-some (Some b) = refl

-- this one has
pub returns-then-is_some : goal.returns-then-is_some
returns-then-is_some c =
    ap has_next
    (slice-at c.args.self.now.left.items c.deref-events-items.result.now c.loop-process.process c.events-item.result c.deref-events-items.ensures.value (omega arith) c.events-item.is)
    ∙ ap is_some (sym c.first.ensures.value) ∙ copied-some c.first.result ∙ sym c.is_some.ensures ∙ c.if-is_some.true

-- nor has this one
pub loop-process-preserved : goal.loop-process-preserved
loop-process-preserved c = below_more (λ (k : ℕ). has_next (events_at (slices c.args.self.now.left.items) k) ≡ false) c.loop-process.process c.loop-process.invariant
    (ap has_next
    (slice-at c.args.self.now.left.items c.deref-events-items.result.now c.loop-process.process c.events-item.result c.deref-events-items.ensures.value (omega arith) c.events-item.is)
    ∙ ap is_some (sym c.first.ensures.value) ∙ copied-some c.first.result ∙ sym c.is_some.ensures ∙ c.if-is_some.false)

-- none has
pub returns : goal.returns
returns c = fails has_next refl c.args.self.now.left.items (λ k less. c.loop-process.invariant k (omega (arith, less, ap length c.deref-events-items.ensures.value)))
