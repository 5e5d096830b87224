use Rattle.std.proofs.Common.{length}
use Rattle.frames.proofs.content.+is_same_text.Given as goal

abbrev pub decreases-is_same_text : goal.decreases-is_same_text
decreases-is_same_text l = length l.one.now
