use Rattle.replicated_map.proofs.AnswersSayWhat.{follows}
use Rattle.replicated_map.proofs.service_law.follows.Goals as goal

pub returns : goal.returns
returns c = follows
