use Rattle.std.proofs.Common.{refl}
use Rattle.vsync.proofs.check_words.processes_command.Goals as goal

pub returns : goal.returns
returns c = λ stand. (refl, stand, record { paths = c.in-Ok.ensures; flags = c.kept_flags-flags.ensures })
