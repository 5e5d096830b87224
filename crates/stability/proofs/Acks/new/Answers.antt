use Rattle.std.proofs.Common.{rules}
use Rattle.stability.proofs.Acks.new.Goals as goal

pub returns-in_err-collect : goal.returns-in_err-collect
returns-in_err-collect c = search rules
