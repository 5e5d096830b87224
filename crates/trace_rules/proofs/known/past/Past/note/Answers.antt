use Rattle.std.proofs.Common.{List, sym, subst}
use Rattle.trace_props.specs.declared.event.Event.{Event}
use Rattle.trace_props.specs.Following.{MayCarry}
use Rattle.trace_rules.specs.Known.{KnowsPast}
use Rattle.trace_rules.proofs.known.past.Past.note.Goals as goal

-- what the tables keep is of one more event
pub invariant_of-self : goal.invariant_of-self
invariant_of-self c =
    subst (λ (t : List Event). KnowsPast c.keep.new.tables t) (sym c.in-Ok.ensures.kept)
    (c.in-Ok.ensures.known _ (subst (λ (t : List Event). MayCarry t c.args.event.now) (sym c.self.view_is) c.requires.may) c.self.invariant)
