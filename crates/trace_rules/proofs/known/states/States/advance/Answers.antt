use Rattle.std.proofs.Common.{List, MatchBool, ◌++◌, ◌∷◌, [], IfOk, sym, ap, ◌∙◌, subst}
use Rattle.std.specs.HashMap.{get}
use Rattle.address.specs.Ids.{same_address, same_view_id}
use Rattle.trace_props.specs.declared.event.Event.{Event}
use Rattle.trace_props.specs.declared.event.Event.TheVariants.{Installed}
use Rattle.trace_props.specs.Recorded.{IsShort}
use Rattle.trace_props.specs.Agreeing.{MayEnter}
use Rattle.trace_rules.specs.Copies.{KnowsStates}
use Rattle.trace_rules.proofs.KeepStates.{nothing-known, message-heard}
use Rattle.trace_rules.proofs.known.states.States.advance.Goals as goal

-- nothing is delivered or installed
pub returns-in_default : goal.returns-in_default
returns-in_default g c = λ t.
    nothing-known g.R.Receiver.meaning (get same_address c.args.self.now.states) (get same_view_id c.args.self.now.entering) t c.args.event.now c.in_default.not-Delivered c.in_default.not-Installed

-- a view is installed
pub returns-in-Installed : goal.returns-in-Installed
returns-in-Installed g c =
    subst
    (λ (h : Event). IfOk c.enter.result (λ ok. (t : List Event) → KnowsStates g.R.Receiver.meaning (get same_address c.args.self.now.states) (get same_view_id c.args.self.now.entering) t
    → MatchBool ok
    (MayEnter g.R.Receiver.meaning t h
    × KnowsStates g.R.Receiver.meaning (get same_address c.enter.new.states.states) (get same_view_id c.enter.new.states.entering) (t ++ h ∷ []))
    (MayEnter g.R.Receiver.meaning t h → ⊥)))
    (ap Installed c.get.ensures ∙ sym c.in-Installed.is) c.enter.ensures

-- a message is applied
pub returns-in_ok-receive-in-Delivered : goal.returns-in_ok-receive-in-Delivered
returns-in_ok-receive-in-Delivered g c = λ t r.
    subst
    (λ (h : Event). MayEnter g.R.Receiver.meaning t h × KnowsStates g.R.Receiver.meaning (get same_address c.receive.new.states) (get same_view_id c.args.self.now.entering) (t ++ h ∷ []))
    (sym c.in-Delivered.is) (
      tt,
      message-heard g.R.Receiver.meaning g.met.R.Receiver.applies (get same_address c.args.self.now.states) (get same_address c.receive.new.states) (get same_view_id c.args.self.now.entering)
          t c.in-Delivered.delivery c.as_slice.result.now c.known_address.ensures (subst IsShort c.in-Delivered.is c.requires.short) c.as_slice.ensures c.in_ok-receive-in-Delivered.ensures r,
    )
