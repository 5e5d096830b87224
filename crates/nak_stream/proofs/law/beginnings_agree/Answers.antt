use Rattle.nak_stream.proofs.Lists.{beginnings, merged}
use Rattle.nak_stream.proofs.law.beginnings_agree.Goals as goal

pub returns-clause-shorter : goal.returns-clause-shorter
returns-clause-shorter g c = beginnings

pub returns-clause-merged : goal.returns-clause-merged
returns-clause-merged g c = merged
