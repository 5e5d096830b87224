use Rattle.std.proofs.Common.{length}
use Rattle.frames.proofs.content.+read_packets.Given as goal

abbrev pub decreases-read_packets : goal.decreases-read_packets
decreases-read_packets l = length l.content.now
