use Rattle.std.proofs.Common.{refl}
use Rattle.law_runners.specs.Runs.{Round, Seek, Wait}
use Rattle.udp_runs.proofs.NodesTell.{quiet-by, quiet-then}
use Rattle.udp_runs.proofs.LinesOwed.{keeps-same, on-any}
use Rattle.udp_runs.proofs.lone.LoneNode.round.Goals as goal

pub returns-in_err-send_all-clause-drives : goal.returns-in_err-send_all-clause-drives
returns-in_err-send_all-clause-drives g c start came later owed earlier = c.send_all.ensures.drives c.args.settings.now.group start came later owed earlier

pub returns-in_err-goes_on-clause-drives : goal.returns-in_err-goes_on-clause-drives
returns-in_err-goes_on-clause-drives g c start came later owed earlier =
    quiet-then _ _ _ _ c.args.settings.now.group _ _ _ (quiet-then _ _ _ _ c.args.settings.now.group _ _ _ (c.send_all.ensures.drives c.args.settings.now.group start came later owed earlier) (quiet-by _ _ _ _ c.args.settings.now.group _ _ _ (Round _ _ c.round-answer.ensures) refl tt)) (quiet-by _ _ _ _ c.args.settings.now.group _ _ _ (Wait _ c.meet.ensures.lists c.meet.ensures.channel) refl tt)

pub returns-then-self-clause-drives : goal.returns-then-self-clause-drives
returns-then-self-clause-drives g c start came later owed earlier =
    quiet-then _ _ _ _ c.args.settings.now.group _ _ _ (quiet-then _ _ _ _ c.args.settings.now.group _ _ _ (quiet-then _ _ _ _ c.args.settings.now.group _ _ _ (c.send_all.ensures.drives c.args.settings.now.group start came later owed earlier) (quiet-by _ _ _ _ c.args.settings.now.group _ _ _ (Round _ _ c.round-answer.ensures) refl tt)) (quiet-by _ _ _ _ c.args.settings.now.group _ _ _ (Wait _ c.meet.ensures.lists c.meet.ensures.channel) refl tt))
    (rw c.send_all.ensures.same.1 at c.find.ensures.drives start later)

pub returns-then-self-2-clause-drives : goal.returns-then-self-2-clause-drives
returns-then-self-2-clause-drives g c start came later owed earlier =
    quiet-then _ _ _ _ c.args.settings.now.group _ _ _ (quiet-then _ _ _ _ c.args.settings.now.group _ _ _ (c.send_all.ensures.drives c.args.settings.now.group start came later owed earlier) (quiet-by _ _ _ _ c.args.settings.now.group _ _ _ (Round _ _ c.round-answer.ensures) refl tt)) (quiet-by _ _ _ _ c.args.settings.now.group _ _ _ (Wait _ c.meet.ensures.lists c.meet.ensures.channel) refl tt)

pub returns-clause-drives : goal.returns-clause-drives
returns-clause-drives g c start came later owed earlier =
    quiet-then _ _ _ _ c.args.settings.now.group _ c.meet.new.self _ (quiet-then _ _ _ _ c.args.settings.now.group _ _ _ (quiet-then _ _ _ _ c.args.settings.now.group _ _ _ (c.send_all.ensures.drives c.args.settings.now.group start came later owed earlier) (quiet-by _ _ _ _ c.args.settings.now.group _ _ _ (Round _ _ c.round-answer.ensures) refl tt)) (quiet-by _ _ _ _ c.args.settings.now.group _ _ _ (Wait _ c.meet.ensures.lists c.meet.ensures.channel) refl tt))
    (quiet-by _ _ _ _ c.args.settings.now.group _ _ _ (Seek _ _ c.seek-answer.ensures) refl tt)

pub returns-then-self-clause-owes : goal.returns-then-self-clause-owes
returns-then-self-clause-owes g c = on-any _ c.find.result (keeps-same _ _ _ _ _ _ _ _ c.in_ok-send_all.ensures.owes c.find.ensures.texts)

pub returns-then-self-2-clause-owes : goal.returns-then-self-2-clause-owes
returns-then-self-2-clause-owes g c = c.in_ok-send_all.ensures.owes

pub returns-clause-owes : goal.returns-clause-owes
returns-clause-owes g c = on-any _ c.goes_on-2.result c.in_ok-send_all.ensures.owes
