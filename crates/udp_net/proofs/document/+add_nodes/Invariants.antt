use Rattle.std.proofs.Common.{length}
use Rattle.udp_net.proofs.document.+add_nodes.Given as goal

abbrev pub decreases-add_nodes : goal.decreases-add_nodes
decreases-add_nodes l = length l.values.now
