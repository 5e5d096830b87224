use Rattle.std.proofs.Common.{map, take, sym, ap, ◌∙◌, ◌++◌, ◌∷◌, [], List, ℕ, false}
use Rattle.std.proofs.lemmas.List.{map_more}
use Rattle.address.specs.Ids.{Address}
use Rattle.udp_member.specs.declared.failure_detector.Count.{Count}
use Rattle.udp_member.specs.Detectors.{count_after}
use Rattle.udp_member.proofs.failure_detector.FailureDetector.pass.Goals as goal

pub loop-address-preserved : goal.loop-address-preserved
loop-address-preserved c =
    let f = count_after c.is_same-stays.result c.args.self.now.counts in
    let i = c.loop-address.address-index in
    let pushed = ap (λ (n : Count). c.loop-address.counts.items ++ n ∷ []) (ap (λ (r : ℕ). record { address = c.address-item.result; rounds = r; is_heard = false }) c.rounds_after.ensures) in
    c.in_ok-push.ensures.items ∙ pushed ∙ ap (λ (l : List Count). l ++ f c.address-item.result ∷ []) c.loop-address.invariant
    ∙ ap (λ (p : Address). map f (take i c.args.watched.now) ++ f p ∷ []) c.address-item.is ∙ sym (map_more f c.args.watched.now i c.address-item.result c.loop-address-test.true)
