use Rattle.std.proofs.Common.{Ok, ap, ◌∙◌, rules}
use Rattle.world.specs.Worlds.{shown}
use Rattle.world.proofs.SettlingIsTold.{settled-by}
use Rattle.commands.proofs.settles.settle_at.Goals as goal

pub returns-in_ok-settle-in-Some-clause-ok : goal.returns-in_ok-settle-in-Some-clause-ok
returns-in_ok-settle-in-Some-clause-ok g c =
    settled-by g.R.Receiver.meaning c.in_ok-settle-in-Some.field-0 (shown c.args.world.now) (shown c.settle.new.self) c.in-Some.node c.args.number (search rules) c.in_ok-settle-in-Some.ensures.answer
    (λ none. c.settle.ensures.nothing (c.in_ok-settle-in-Some.was ∙ ap Ok none)) c.in_ok-settle-in-Some.ensures.plays c.in_ok-settle-in-Some.ensures.settled
