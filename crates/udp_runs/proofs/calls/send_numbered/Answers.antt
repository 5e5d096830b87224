use Rattle.std.proofs.Common.{refl, ◌∙◌}
use Rattle.udp_runs.proofs.TellsBeforeOffers.{sent-so}
use Rattle.udp_runs.proofs.calls.send_numbered.Goals.{in-Ok, in-Err}
use Rattle.udp_runs.proofs.calls.send_numbered.Goals as goal

pub returns-clause-called : goal.returns-clause-called
returns-clause-called g c group =
    elim c.match-send.branch [
      | in-Ok w ↦ rw w.result-is (sent-so _ _ _ group _ _ _ (c.in_ok-payload.ensures.items ∙ c.as_slice.ensures) _ _ _ (rw w.in-Ok.is refl) (rw c.channel.ensures.value at c.send.ensures.calls) (rw c.channel.ensures.value at c.send.ensures.left))
      | in-Err w ↦ rw w.result-is (sent-so _ _ _ group _ _ _ (c.in_ok-payload.ensures.items ∙ c.as_slice.ensures) _ _ _ (rw w.in-Err.is refl) (rw c.channel.ensures.value at c.send.ensures.calls) (rw c.channel.ensures.value at c.send.ensures.left))
    ]
