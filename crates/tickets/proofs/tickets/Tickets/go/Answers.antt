use Rattle.std.proofs.Common.{refl, ◌∙◌}
use Rattle.tickets.specs.declared.tickets.Change.TheVariants as change
use Rattle.tickets.proofs.OneChange.{ends}
use Rattle.tickets.proofs.tickets.Tickets.go.Goals as goal

pub returns : goal.returns
returns c = c.end_all.ensures ∙ ends c.args.self.now (change.Gone c.args.ticket) (λ o. refl) refl
