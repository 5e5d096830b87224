use Rattle.std.proofs.Common.{◌≡◌, ◌++◌, ◌∷◌, [], rules}
use Rattle.tickets.specs.declared.tickets.Stage.TheVariants as stage
use Rattle.tickets.proofs.OneChange.{opens}
use Rattle.tickets.proofs.tickets.Tickets.open.Goals as goal

pub returns-clause-ok : goal.returns-clause-ok
returns-clause-ok c =
    let s = c.self.inside in
    let pushed : c.push.new.self.items ≡ s.pending.items ++ record { ticket = c.args.ticket; until = c.args.until; stage = stage.Waiting } ∷ [] = search rules in
    let kept : c.reserve.new.self.items ≡ s.ended.items = search rules in
    rw (← c.self.view_is, pushed, kept) (opens _ c.args.ticket c.args.until)
