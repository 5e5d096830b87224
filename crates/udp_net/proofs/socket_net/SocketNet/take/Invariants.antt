use Rattle.std.proofs.Common.{◌≡◌}
use Rattle.udp_net.proofs.socket_net.SocketNet.take.Given as goal

abbrev pub invariant-loop : goal.invariant-loop
invariant-loop l = (l.self.failures ≡ l.fn.self.failures) × (l.self.socket.unsent ≡ l.fn.self.socket.unsent)
