use Rattle.std.proofs.Common.{rules}
use Rattle.view_install.proofs.promise.Promise.answer_to.Goals as goal

pub returns-in-Less : goal.returns-in-Less
returns-in-Less c = search rules
