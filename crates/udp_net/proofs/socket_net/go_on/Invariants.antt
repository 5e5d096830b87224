use Rattle.std.proofs.Common.{◌≤◌}
use Rattle.udp_net.proofs.socket_net.go_on.Given as goal

abbrev pub invariant-loop : goal.invariant-loop
invariant-loop l = l.initial.socket.unsent ≤ l.socket.unsent
