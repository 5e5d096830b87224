use Rattle.std.proofs.Common.{◌≡◌}
use Rattle.udp_runs.proofs.unsaid.Unsaid.give_back.Given as goal

-- what came is what had come
abbrev pub invariant-loop-sent : goal.invariant-loop-sent
invariant-loop-sent g l = g.L.Lines.came l.lines ≡ g.L.Lines.came l.fn.lines
