use Rattle.keyed_state.specs.TokenLaws.{next-above, next-above-views, below-trans, not-below-itself, token-is, is-token}
use Rattle.keyed_state.proofs.token_law.tokens_are_ordered.Goals as goal

pub returns-clause-next : goal.returns-clause-next
returns-clause-next c = next-above

pub returns-clause-above_views : goal.returns-clause-above_views
returns-clause-above_views c = next-above-views

pub returns-clause-trans : goal.returns-clause-trans
returns-clause-trans c = below-trans

pub returns-clause-irreflexive : goal.returns-clause-irreflexive
returns-clause-irreflexive c = not-below-itself

pub returns-clause-same : goal.returns-clause-same
returns-clause-same c = λ a b. (token-is a b, is-token a b)
