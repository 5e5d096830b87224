use Rattle.std.proofs.Common.{◌≡◌, ◌∷◌, rules}
use Rattle.std.proofs.lemmas.Result.{on_ok_weaker}
use Rattle.step_output.proofs.GrowthAdds.{grows-then}
use Rattle.membership.proofs.finishing.+deliver_all.Goals as goal

pub returns-in_ok-deliver_lent-in-Some-clause-out : goal.returns-in_ok-deliver_lent-in-Some-clause-out
returns-in_ok-deliver_lent-in-Some-clause-out g t c =
    let all : c.args.entries.now ≡ c.in-Some.first.now ∷ c.in-Some.rest.now = search rules in
    on_ok_weaker c.deliver_all.result (λ rest. rw all (grows-then _ _ _ _ _ _ _ _ c.in_ok-deliver_lent-in-Some.ensures.out rest)) c.deliver_all.ensures.out
