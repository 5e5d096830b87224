use Rattle.next_view.proofs.LeadersStandFirst.{candidates-are-a-view}
use Rattle.next_view.proofs.law.candidates_are_a_view.Goals as goal

pub returns : goal.returns
returns c = candidates-are-a-view
