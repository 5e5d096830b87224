use Rattle.std.proofs.Common.{◌≡◌, ◌≤◌}
use Rattle.udp_net.proofs.sieved_net.SievedNet.take.Given as goal

abbrev pub invariant-loop : goal.invariant-loop
invariant-loop g l = record {
  failed : g.N.Net.failed l.self.inner ≡ g.N.Net.failed l.initial.self.inner;
  unsent : g.N.Net.unsent l.initial.self.inner ≤ g.N.Net.unsent l.self.inner;
  lost : l.self.lost ≡ l.initial.self.lost;
}
