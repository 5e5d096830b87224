use Rattle.std.proofs.Common.{◌≤◌}
use Rattle.udp_net.proofs.socket_net.SocketNet.say_once.Given as goal

abbrev pub invariant-loop-lane : goal.invariant-loop-lane
invariant-loop-lane l = l.initial.socket.unsent ≤ l.socket.unsent
