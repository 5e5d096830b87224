use Rattle.std.proofs.Common.{◌≡◌, ◌∷◌, rules}
use Rattle.std.proofs.lemmas.Result.{on_ok_weaker}
use Rattle.step_output.proofs.GrowthAdds.{grows-then}
use Rattle.membership.proofs.finishing.+instruct_all.Goals as goal

pub returns-in_ok-instruct-in-Some-clause-out : goal.returns-in_ok-instruct-in-Some-clause-out
returns-in_ok-instruct-in-Some-clause-out t c =
    let all : c.args.members.now ≡ c.in-Some.first.now ∷ c.in-Some.rest.now = search rules in
    on_ok_weaker c.instruct_all.result (λ rest. rw all (grows-then _ _ _ _ _ _ _ _ c.in_ok-instruct-in-Some.ensures.out rest)) c.instruct_all.ensures.out
