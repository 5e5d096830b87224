use Rattle.std.proofs.Common.{rules, not}
use Rattle.std.proofs.lemmas.Fn.{filter_same}
use Rattle.view.specs.Members.{stands_in}
use Rattle.next_view.proofs.lists.keep_others.Goals as goal

pub returns : goal.returns
returns c = filter_same _ (λ p. not (stands_in p c.args.members.now)) _ (λ x b f' t. search rules) _ _ c.retain.ensures.filtered
