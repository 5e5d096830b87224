use Rattle.udp_runs.proofs.NodesTell.{begins-turn, from-went}
use Rattle.udp_runs.proofs.LinesOwed.{on-any, same-keeps}
use Rattle.udp_runs.proofs.lone.LoneNode.begin.Goals as goal

pub returns-in-Ok-clause-tells : goal.returns-in-Ok-clause-tells
returns-in-Ok-clause-tells g c start later =
    from-went _ _ _ _ c.args.settings.now.group _ _ _ _ _ _ _ _ (begins-turn _ _ _ _ c.args.settings.now.group _ _ _ _ _ _ _ _ _ c.connect-connected.ensures.begins
    (rw c.connect-connected.ensures.voice at c.in-Ok.ensures.tells) c.in-Ok.ensures.offers)

pub returns-in-Err-clause-tells : goal.returns-in-Err-clause-tells
returns-in-Err-clause-tells g c start later =
    begins-turn _ _ _ _ c.args.settings.now.group _ _ _ _ _ _ _ _ _ c.connect-connected.ensures.begins (rw c.connect-connected.ensures.voice at c.in-Err.ensures.tells) c.in-Err.ensures.offers

pub returns-in-Ok-clause-owes : goal.returns-in-Ok-clause-owes
returns-in-Ok-clause-owes g c =
    on-any _ c.connect-connected.result (λ start came owed. c.in-Ok.ensures.unsaid _ start came (same-keeps _ _ _ _ _ _ c.connect-connected.ensures.texts start came owed))
