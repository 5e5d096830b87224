use Rattle.flush.proofs.Covers.{cut-covers, base-is-below, one-cut}
use Rattle.flush.proofs.Groups.{groups-are-reported}
use Rattle.flush.proofs.CutItems.{cut-is}
use Rattle.flush.proofs.law.cut_covers.Goals as goal

pub returns-clause-covers : goal.returns-clause-covers
returns-clause-covers c = cut-covers

pub returns-clause-base : goal.returns-clause-base
returns-clause-base c = base-is-below

pub returns-clause-one : goal.returns-clause-one
returns-clause-one c = one-cut

pub returns-clause-groups : goal.returns-clause-groups
returns-clause-groups c = groups-are-reported

pub returns-clause-cut : goal.returns-clause-cut
returns-clause-cut c = cut-is
