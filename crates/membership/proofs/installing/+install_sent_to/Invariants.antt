use Rattle.std.proofs.Common.{length}
use Rattle.membership.proofs.installing.+install_sent_to.Given as goal

abbrev pub decreases-install_sent_to : goal.decreases-install_sent_to
decreases-install_sent_to l = length l.sent.now
