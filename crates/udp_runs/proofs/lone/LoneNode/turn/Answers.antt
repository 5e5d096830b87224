use Rattle.std.proofs.Common.{refl}
use Rattle.udp_runs.proofs.NodesTell.{tells-cut, tells-turn, tells-went}
use Rattle.udp_runs.specs.Came.{Keeps, Owes}
use Rattle.udp_runs.proofs.LinesOwed.{filled-then, on-map}
use Rattle.udp_runs.proofs.LinesKept.{fills-earlier}
use Rattle.udp_runs.proofs.lone.LoneNode.turn.Goals as goal

pub returns-in-Err-clause-tells : goal.returns-in-Err-clause-tells
returns-in-Err-clause-tells g c start later owed earlier = tells-cut _ _ _ _ c.args.settings.now.group _ _ _ _ _ _ refl

pub returns-in-Ok-clause-tells : goal.returns-in-Ok-clause-tells
returns-in-Ok-clause-tells g c start later owed earlier =
    tells-went _ _ _ _ c.args.settings.now.group _ _ _ _ _ _ _ (tells-turn _ _ _ _ c.args.settings.now.group _ _ _ _ _ _ _ _ (c.round-went.ensures.drives start _ later (filled-then _ _ _ _ _ _ _ _ c.in_default.not-Err c.take_lines.ensures refl owed) (rw c.tell_then_offer.ensures.came at earlier))
    (rw c.round-went.ensures.same.0 at c.in-Ok.ensures.tells) c.in-Ok.ensures.offers)

pub returns-in-Err-tell_then_offer-clause-tells : goal.returns-in-Err-tell_then_offer-clause-tells
returns-in-Err-tell_then_offer-clause-tells g c start later owed earlier =
    tells-turn _ _ _ _ c.args.settings.now.group _ _ _ _ _ _ _ _ (c.round-went.ensures.drives start _ later (filled-then _ _ _ _ _ _ _ _ c.in_default.not-Err c.take_lines.ensures refl owed) (rw c.tell_then_offer.ensures.came at earlier))
    (rw c.round-went.ensures.same.0 at c.in-Err-tell_then_offer.ensures.tells) c.in-Err-tell_then_offer.ensures.offers

pub returns-in-Err-clause-grows : goal.returns-in-Err-clause-grows
returns-in-Err-clause-grows g c = fills-earlier _ _ _ _ _ c.take_lines.ensures

pub returns-in-Ok-clause-grows : goal.returns-in-Ok-clause-grows
returns-in-Ok-clause-grows g c = rw c.tell_then_offer.ensures.came (fills-earlier _ _ _ _ _ c.take_lines.ensures)

pub returns-in-Err-tell_then_offer-clause-grows : goal.returns-in-Err-tell_then_offer-clause-grows
returns-in-Err-tell_then_offer-clause-grows g c = rw c.tell_then_offer.ensures.came (fills-earlier _ _ _ _ _ c.take_lines.ensures)

pub returns-in-Ok-clause-owes : goal.returns-in-Ok-clause-owes
returns-in-Ok-clause-owes g c start owed =
    on-map (Keeps c.take_lines.new.outbox c.args.self.now.teller.unsaid c.round-went.new.self.outbox c.round-went.new.self.teller.unsaid)
    (Owes start (g.L.Lines.came c.tell_then_offer.new.lines) c.round-went.new.self.outbox c.tell_then_offer.new.self.unsaid) c.round-went.result c.round-went.ensures.owes
    (λ k. rw c.tell_then_offer.ensures.came (c.in-Ok.ensures.unsaid _ start _ (k start _ (filled-then _ _ _ _ _ _ _ _ c.in_default.not-Err c.take_lines.ensures refl owed))))
