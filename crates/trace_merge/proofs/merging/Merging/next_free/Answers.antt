use Rattle.std.proofs.Common.{◌≡◌, ℕ, ◌∙◌, sym, ap, refl, false, arith, length, below_more}
use Rattle.std.specs.HashSet.{contains}
use Rattle.trace_merge.specs.Facts.{same_fact}
use Rattle.trace_merge.specs.Merges.{events_at, starts_free}
use Rattle.trace_merge.specs.Outcomes.{slices}
use Rattle.trace_merge.proofs.KeepCome.{slice-at, fails}
use Rattle.trace_merge.proofs.merging.Merging.next_free.Goals as goal

-- this one does
pub returns-then-starts_free : goal.returns-then-starts_free
returns-then-starts_free c =
    ap (starts_free (contains same_fact c.args.self.now.awaited))
    (slice-at c.args.self.now.left.items c.deref-events-items.result.now c.loop-process.process c.events-item.result c.deref-events-items.ensures.value (omega arith) c.events-item.is)
    ∙ sym c.starts_free.ensures ∙ c.if-starts_free.true

-- nor does this one
pub loop-process-preserved : goal.loop-process-preserved
loop-process-preserved c = below_more (λ (k : ℕ). starts_free (contains same_fact c.args.self.now.awaited) (events_at (slices c.args.self.now.left.items) k) ≡ false) c.loop-process.process c.loop-process.invariant
    (ap (starts_free (contains same_fact c.args.self.now.awaited))
    (slice-at c.args.self.now.left.items c.deref-events-items.result.now c.loop-process.process c.events-item.result c.deref-events-items.ensures.value (omega arith) c.events-item.is)
    ∙ sym c.starts_free.ensures ∙ c.if-starts_free.false)

-- none does
pub returns : goal.returns
returns c = fails (starts_free (contains same_fact c.args.self.now.awaited)) refl c.args.self.now.left.items (λ k less. c.loop-process.invariant k (omega (arith, less, ap length c.deref-events-items.ensures.value)))
