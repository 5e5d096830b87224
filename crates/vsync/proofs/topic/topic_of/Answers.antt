use Rattle.std.proofs.Common.{◌∙◌, ap, sym, subst, ℕ, List, Option, IfSome, ◌≡◌}
use Rattle.std.specs.List.{find}
use Rattle.std.specs.Str.{bytes_eq}
use Rattle.vsync.specs.Topics.{code_of}
use Rattle.vsync.specs.declared.topic.Topic.{Topic}
use Rattle.vsync.specs.declared.topic.TheConstants.{TOPICS}
use Rattle.vsync.proofs.EachIsFound.{has_code, is_found}
use Rattle.vsync.proofs.topic.topic_of.Goals as goal

pub returns-clause-each : goal.returns-clause-each
returns-clause-each c = λ t is.
    c.first_with.ensures ∙ (ap (λ (code : List ℕ). find (λ u. bytes_eq (code_of u) code) TOPICS) is ∙ is_found t)

pub returns-clause-other : goal.returns-clause-other
returns-clause-other c =
    subst (λ (o : Option Topic). IfSome o (λ t. c.args.code.now ≡ code_of t)) (sym c.first_with.ensures) (has_code c.args.code.now TOPICS)
