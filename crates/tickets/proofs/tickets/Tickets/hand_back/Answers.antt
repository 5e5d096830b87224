use Rattle.std.proofs.Common.{refl, ◌∙◌}
use Rattle.tickets.specs.declared.tickets.Change.TheVariants as change
use Rattle.tickets.proofs.OneChange.{moves}
use Rattle.tickets.proofs.tickets.Tickets.hand_back.Goals as goal

pub returns : goal.returns
returns c = c.move_all.ensures ∙ moves c.args.self.now (change.HandedBack c.args.ticket) (λ o. refl) refl
