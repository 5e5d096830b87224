use Rattle.std.proofs.Common.{◌≡◌, true, false, refl, sym, ◌∙◌}
use Rattle.udp_runs.proofs.NodesTell.{end-none, end-turn, end-went}
use Rattle.udp_runs.proofs.ProcessesTurn.{left-so}
use Rattle.udp_runs.proofs.lone.LoneNode.leave.Goals as goal
use Rattle.udp_runs.proofs.lone.LoneNode.leave.Goals.{then-leaves, else-leaves}

pub returns-then-not-is_going-clause-tells : goal.returns-then-not-is_going-clause-tells
returns-then-not-is_going-clause-tells g c group start later none =
    elim c.if-leaves.branch [
      | then-leaves w ↦ absurd (let bad : true ≡ false = sym w.if-leaves.true ∙ sym w.value-is ∙ c.if-not-is_going.true in cc)
      | else-leaves w ↦ rw (w.if-leaves.false) (end-none _ _ _ _ group _ _ _ _ none)
    ]

pub returns-in-Ok-clause-tells : goal.returns-in-Ok-clause-tells
returns-in-Ok-clause-tells g c group start later none =
    end-went _ _ _ _ group _ _ _ _ _ _ _ _ (end-turn _ _ _ _ group _ _ _ _ _ _ _ _ _ _
    (rw c.channel.ensures.value at c.disconnect.ensures.calls, left-so _ _ _ (rw c.channel.ensures.value at c.disconnect.ensures.left), refl)
    c.in-Ok.ensures.tells c.in-Ok.ensures.offers)

pub returns-in-Err-clause-tells : goal.returns-in-Err-clause-tells
returns-in-Err-clause-tells g c group start later none =
    end-turn _ _ _ _ group _ _ _ _ _ _ _ _ _ _
    (rw c.channel.ensures.value at c.disconnect.ensures.calls, left-so _ _ _ (rw c.channel.ensures.value at c.disconnect.ensures.left), refl)
    c.in-Err.ensures.tells c.in-Err.ensures.offers
