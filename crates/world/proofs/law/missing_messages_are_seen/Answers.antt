use Rattle.world.proofs.NotThroughShown.{missing, unstable, story}
use Rattle.world.proofs.law.missing_messages_are_seen.Goals as goal

pub returns-clause-missing : goal.returns-clause-missing
returns-clause-missing g c = missing _

pub returns-clause-unstable : goal.returns-clause-unstable
returns-clause-unstable g c = unstable _

pub returns-clause-story : goal.returns-clause-story
returns-clause-story g c = story _
