use Rattle.std.proofs.Common.{length}
use Rattle.udp_net.proofs.node_ports.+port_in.Given as goal

abbrev pub decreases-port_in : goal.decreases-port_in
decreases-port_in l = length l.nodes.now
