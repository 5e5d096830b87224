use Rattle.std.proofs.Common.{ℕ, List, ◌-◌, length, sym, ap, ◌∙◌}
use Rattle.std.proofs.lemmas.List.{length-map}
use Rattle.std.specs.HashSet.{contains}
use Rattle.trace_props.specs.declared.event.Event.{Event}
use Rattle.trace_merge.specs.Facts.{same_fact}
use Rattle.trace_merge.specs.Merges.{lists_of, events_at}
use Rattle.trace_merge.specs.Outcomes.{slice_of, slices}
use Rattle.trace_merge.proofs.KeepCome.{unordered, slice-at}
use Rattle.trace_merge.proofs.LawOfCircles.{circles}
use Rattle.trace_merge.proofs.merging.Merging.unordered.Goals as goal

pub returns : goal.returns
returns c = λ h none waiting.
    let left = slices c.args.self.now.left.items in
    let awaited = contains same_fact c.args.self.now.awaited in
    let process = c.follow-process.result in
    let found = circles (lists_of c.args.traces.now) left awaited c.args.self.now.merged.events h none c.args.waiting waiting process (length c.args.self.now.left.items)
    (sym (length-map c.args.self.now.left.items slice_of)) c.follow-process.ensures in
    unordered (lists_of c.args.traces.now) left awaited c.args.self.now.merged.events process h none found.0 found.1 c.saturating_sub-came.result
    (c.saturating_sub-came.ensures ∙ ap (λ (n : ℕ). n - length c.in-Some.left.now.now) c.count_of.ensures.is
    ∙ ap (λ (l : List Event). length (events_at (lists_of c.args.traces.now) process) - length l)
    (sym (slice-at c.args.self.now.left.items c.deref.result.now process c.in-Some.left.now c.deref.ensures.value (c.in-Some.ensures.lookup.3.0) c.in-Some.ensures.lookup.1)))
