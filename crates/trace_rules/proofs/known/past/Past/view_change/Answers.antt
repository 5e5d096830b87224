use Rattle.trace_rules.specs.declared.known.keys.ViewChange.{ViewChange}
use Rattle.trace_rules.proofs.known.past.Past.view_change.Goals as goal

-- what is kept of the change of view
pub returns : goal.returns
returns c =
    let view_change : ViewChange = record { to = c.args.to; from = c.args.from } in
    let known = c.self.invariant.installs_known.view_changes_known view_change in
    cc
