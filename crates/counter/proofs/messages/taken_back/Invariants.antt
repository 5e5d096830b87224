use Rattle.std.proofs.Common.{length}
use Rattle.counter.proofs.messages.taken_back.Given as goal

abbrev pub decreases-loop-event : goal.decreases-loop-event
decreases-loop-event l = length l.channel.happened
