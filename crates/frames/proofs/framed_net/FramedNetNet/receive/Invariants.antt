use Rattle.std.proofs.Common.{◌≡◌, ◌≤◌}
use Rattle.frames.specs.Nets.{IsAnswer}
use Rattle.frames.specs.Sendings.{Adds}
use Rattle.frames.proofs.framed_net.FramedNetNet.receive.Given as goal

abbrev pub invariant-loop : goal.invariant-loop
invariant-loop g l = record {
  failed : g.N.Net.failed l.self.inner ≡ g.N.Net.failed l.initial.self.inner;
  unsent : g.N.Net.unsent l.initial.self.inner ≤ g.N.Net.unsent l.self.inner;
  lost : l.initial.self.lost ≤ l.self.lost;
  node : l.self.opener.node ≡ l.initial.self.opener.node;
  answers : Adds IsAnswer (g.N.Net.log l.initial.self.inner) (g.N.Net.log l.self.inner);
  outlets : l.self.outlets ≡ l.initial.self.outlets;
  seal : l.self.seal ≡ l.initial.self.seal;
}
