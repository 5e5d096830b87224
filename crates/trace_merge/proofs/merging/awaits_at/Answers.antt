use Rattle.std.proofs.Common.{List, refl, sym, ap, ◌∙◌, slice_get}
use Rattle.std.specs.HashSet.{contains}
use Rattle.trace_props.specs.declared.event.Event.{Event}
use Rattle.trace_merge.specs.Facts.{same_fact, is_shown}
use Rattle.trace_merge.specs.Outcomes.{slice_of, slices}
use Rattle.trace_merge.proofs.KeepCome.{slice-at}
use Rattle.trace_merge.proofs.LawOfCircles.{position-from-map, awaits-by}
use Rattle.trace_merge.proofs.merging.awaits_at.Goals as goal

pub returns-in-Some-awaited_by : goal.returns-in-Some-awaited_by
returns-in-Some-awaited_by c =
    let left = c.args.left.now in
    let fact = c.in-Some-awaited_by.fact in
    let there = slice-at left left c.args.process c.in-Some.events.now refl (c.in-Some.ensures.lookup.3.0) c.in-Some.ensures.lookup.1 in
    c.first_showing.ensures
    ∙ position-from-map (λ (events : List Event). is_shown events fact) slice_of left 0
    ∙ sym (awaits-by (slices left) (contains same_fact c.args.awaited.now) c.args.process c.in-Some-first.event.now fact
    (ap (λ (l : List Event). slice_get l 0) there ∙ sym c.in-Some-first.ensures.value) (sym c.awaited_by.ensures ∙ c.in-Some-awaited_by.is))
