use Rattle.std.proofs.Common.{◌∙◌, sym, ap}
use Rattle.lock_table.specs.Commands.{command_of}
use Rattle.lock_table.specs.CommandLaws.{command_is_spelled, spelled_is_read}
use Rattle.lock_table.proofs.law.one_spelling.Goals as goal

pub returns : goal.returns
returns c = λ bytes x. (λ e. command_is_spelled bytes x e, λ p. ap command_of (sym p.1) ∙ spelled_is_read x p.0)
