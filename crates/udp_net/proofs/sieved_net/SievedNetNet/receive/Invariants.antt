use Rattle.std.proofs.Common.{◌≡◌, ◌≤◌}
use Rattle.udp_net.proofs.sieved_net.SievedNetNet.receive.Given as goal

abbrev pub invariant-loop-lane : goal.invariant-loop-lane
invariant-loop-lane g l = record { failed : g.N.Net.failed l.net ≡ g.N.Net.failed l.initial.net; unsent : g.N.Net.unsent l.initial.net ≤ g.N.Net.unsent l.net }
