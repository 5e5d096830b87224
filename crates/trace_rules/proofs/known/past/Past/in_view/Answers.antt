use Rattle.std.proofs.Common.{List, Option, subst, sym}
use Rattle.std.specs.Option.{option_copied}
use Rattle.trace_props.specs.declared.event.Event.{Event}
use Rattle.trace_rules.specs.declared.known.in_views.InView.{InView}
use Rattle.trace_rules.specs.Known.{Says, pointed}
use Rattle.trace_rules.proofs.known.past.Past.in_view.Goals as goal

-- what is kept of the member in the view
pub returns : goal.returns
returns c =
    subst (λ (t : List Event). Says (option_copied c.get.result) c.args.member c.args.view t) c.self.view_is
    (subst (λ (o : Option InView). Says o c.args.member c.args.view (pointed c.self.inside.tables.events.items)) (sym c.get.ensures.value)
    (c.self.invariant.in_views_known (record { member = c.args.member; view = c.args.view })))
