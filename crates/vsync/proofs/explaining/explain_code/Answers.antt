use Rattle.std.proofs.Common.{◌≡◌, ◌∙◌, sym, None, Some}
use Rattle.vsync.specs.declared.topic.Topic.TheVariants.{Rule as OfRule}
use Rattle.vsync.proofs.CodesAgree.{rules}
use Rattle.vsync.proofs.explaining.explain_code.Goals as goal

-- each rule has a topic, so that one is found
pub returns-in_default-clause-rules : goal.returns-in_default-clause-rules
returns-in_default-clause-rules c = λ rule is.
    let found : c.topic_of.result ≡ Some (OfRule rule) = c.topic_of.ensures.each (OfRule rule) (is ∙ rules rule) in
    let bad : None ≡ Some (OfRule rule) = sym c.in_default.is ∙ found in
    absurd cc
