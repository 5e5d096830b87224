use Rattle.std.proofs.Common.{rules}
use Rattle.view_install.proofs.promise.Promise.new.Goals as goal

pub returns : goal.returns
returns c = search rules
