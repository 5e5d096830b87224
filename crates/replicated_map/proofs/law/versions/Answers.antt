use Rattle.replicated_map.proofs.VersionsOnlyRise.{above-all, above-views, rise, one-value, gone}
use Rattle.replicated_map.proofs.law.versions.Goals as goal

pub returns-clause-above : goal.returns-clause-above
returns-clause-above c = above-all

pub returns-clause-above_views : goal.returns-clause-above_views
returns-clause-above_views c = above-views

pub returns-clause-rise : goal.returns-clause-rise
returns-clause-rise c = rise

pub returns-clause-one : goal.returns-clause-one
returns-clause-one c = one-value

pub returns-clause-gone : goal.returns-clause-gone
returns-clause-gone c = gone
