use Rattle.std.proofs.Common.{refl, arith, length, List, ◌++◌, ◌∷◌, []}
use Rattle.std.specs.HashMap.{get}
use Rattle.std.proofs.lemmas.Option.{slice_get_read}
use Rattle.address.specs.Ids.{same_address, same_view_id}
use Rattle.trace_props.specs.declared.event.Event.{Event}
use Rattle.trace_rules.specs.Copies.{KnowsStates}
use Rattle.trace_props.proofs.KeepEightRules.{step-broken, step-on, so_far-next, holds-next, known-next, holds-all}
use Rattle.trace_checker.proofs.checker.check_all.Goals as goal

-- the rule breaks first
pub returns-in-Some : goal.returns-in-Some
returns-in-Some g c =
    step-broken g.R.Receiver.meaning c.args.events.now c.loop-index.index c.index-events-index.result c.loop-index.past c.in_ok-rule.field-0 c.in-Some.rule _
    (slice_get_read c.args.events.now (length c.args.events.now) c.loop-index.index c.index-events-index.result refl (omega arith) c.index-events-index.is)
    c.loop-index.invariant.so_far c.loop-index.invariant.holds c.in-Some.is c.in_ok-rule.ensures.judged

-- all goes on
pub loop-index-preserved : goal.loop-index-preserved
loop-index-preserved g c =
    let at = slice_get_read c.args.events.now (length c.args.events.now) c.loop-index.index c.index-events-index.result refl (omega arith) c.index-events-index.is in
    let on = step-on g.R.Receiver.meaning c.loop-index.past c.index-events-index.result c.in_ok-rule.field-0
    (KnowsStates g.R.Receiver.meaning (get same_address c.judge.new.states.states) (get same_view_id c.judge.new.states.entering) (c.loop-index.past ++ c.index-events-index.result ∷ []))
    c.in-None.is c.in_ok-rule.ensures.judged in
    record {
      so_far = so_far-next g.R.Receiver.meaning c.args.events.now c.loop-index.index c.index-events-index.result c.loop-index.past c.judge.new.past at c.loop-index.invariant.so_far (c.in_ok-rule.ensures.past c.in-None.is);
      holds = holds-next g.R.Receiver.meaning c.args.events.now c.loop-index.index c.index-events-index.result c.loop-index.past at c.loop-index.invariant.so_far c.loop-index.invariant.holds on.0;
      known = known-next g.R.Receiver.meaning
          (λ (t : List Event). KnowsStates g.R.Receiver.meaning (get same_address c.judge.new.states.states) (get same_view_id c.judge.new.states.entering) t)
          c.args.events.now c.loop-index.index c.index-events-index.result c.loop-index.past at c.loop-index.invariant.so_far on.1;
    }

-- all events are read
pub returns : goal.returns
returns g c = holds-all g.R.Receiver.meaning c.args.events.now c.loop-index.index (omega arith) c.loop-index.invariant.holds
