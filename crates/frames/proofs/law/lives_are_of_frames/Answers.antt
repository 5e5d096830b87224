use Rattle.frames.proofs.Lives.{lives-are}
use Rattle.frames.proofs.law.lives_are_of_frames.Goals as goal

pub returns : goal.returns
returns g c = lives-are g.N.Net.log
