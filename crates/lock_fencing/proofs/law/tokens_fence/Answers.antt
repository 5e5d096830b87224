use Rattle.lock_fencing.proofs.TokensAcrossViews.{tokens-of-views}
use Rattle.lock_fencing.proofs.TokensRiseInViews.{fenced, fenced-in-views, tokens-rise}
use Rattle.lock_fencing.proofs.law.tokens_fence.Goals as goal

pub returns-clause-within : goal.returns-clause-within
returns-clause-within c = fenced-in-views

pub returns-clause-of_views : goal.returns-clause-of_views
returns-clause-of_views c = tokens-of-views

pub returns-clause-across : goal.returns-clause-across
returns-clause-across c = fenced

pub returns-clause-rise : goal.returns-clause-rise
returns-clause-rise c = tokens-rise
