use Rattle.std.proofs.Common.{false, refl}
use Rattle.udp_runs.specs.Telling.{Waiting}
use Rattle.udp_runs.proofs.NodesTell.{begins-call}
use Rattle.udp_runs.proofs.lone.LoneNode.connect.Goals as goal
use Rattle.udp_runs.proofs.lone.LoneNode.connect.Goals.{in-Some, in-None-2}

pub returns-in-None-clause-begins : goal.returns-in-None-clause-begins
returns-in-None-clause-begins g c = (false, rw (c.in-None.is, c.if-self.true) Waiting)

pub returns-clause-begins : goal.returns-clause-begins
returns-clause-begins g c =
    elim c.match-contact.branch [
      | in-Some w ↦ begins-call _ c.args.settings.now.group _ _ _ _ (rw (w.in-Some.is, w.call-is) refl) c.say_nothing.ensures.makes
      | in-None-2 w ↦ begins-call _ c.args.settings.now.group _ _ _ _ (rw (w.in-None.is, w.if-self.false, w.call-is) refl) c.say_nothing.ensures.makes
    ]
