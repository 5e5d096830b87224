use Rattle.udp_runs.proofs.NodesTell.{tells-turn, tells-waits}
use Rattle.udp_runs.specs.Came.{Owes}
use Rattle.udp_runs.proofs.LinesOwed.{on-map, on-went}
use Rattle.udp_runs.proofs.lone.LoneNode.listen_for.Goals as goal

pub returns-in-Ok-clause-tells : goal.returns-in-Ok-clause-tells
returns-in-Ok-clause-tells g c group start later owed earlier =
    tells-waits _ _ _ _ group _ _ _ _ _ _ _ _
    (tells-turn _ _ _ _ group _ _ _ _ _ _ _ _ (c.listen-went.ensures.drives group start later owed (rw c.tell_then_offer.ensures.came at earlier)) (rw c.listen-went.ensures.same.0 at c.in-Ok.ensures.tells) c.in-Ok.ensures.offers)
    c.wait_unless.ensures.waits

pub returns-in-Err-clause-tells : goal.returns-in-Err-clause-tells
returns-in-Err-clause-tells g c group start later owed earlier =
    tells-turn _ _ _ _ group _ _ _ _ _ _ _ _ (c.listen-went.ensures.drives group start later owed (rw c.tell_then_offer.ensures.came at earlier)) (rw c.listen-went.ensures.same.0 at c.in-Err.ensures.tells) c.in-Err.ensures.offers

pub returns-in-Ok-clause-owes : goal.returns-in-Ok-clause-owes
returns-in-Ok-clause-owes g c start owed =
    let was = Owes start (g.L.Lines.came c.listen-went.new.lines) c.listen-went.new.self.outbox c.listen-went.new.self.teller.unsaid in
    let is = Owes start (g.L.Lines.came c.tell_then_offer.new.lines) c.listen-went.new.self.outbox c.tell_then_offer.new.self.unsaid in
    on-went is c.wait_unless.result c.listen-went.result c.wait_unless.ensures.went
    (on-map was is c.listen-went.result (c.listen-went.ensures.owes start owed)
    (λ x. rw c.tell_then_offer.ensures.came (c.in-Ok.ensures.unsaid _ start _ x)))

pub returns-in-Ok-clause-grows : goal.returns-in-Ok-clause-grows
returns-in-Ok-clause-grows g c = rw c.tell_then_offer.ensures.came c.listen-went.ensures.grows

pub returns-in-Err-clause-grows : goal.returns-in-Err-clause-grows
returns-in-Err-clause-grows g c = rw c.tell_then_offer.ensures.came c.listen-went.ensures.grows
