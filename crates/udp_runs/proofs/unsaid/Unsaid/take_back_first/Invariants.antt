use Rattle.std.proofs.Common.{◌≡◌, take, drop, flat_map}
use Rattle.udp_runs.specs.Unsaid.{line_in}
use Rattle.udp_runs.proofs.unsaid.Unsaid.take_back_first.Given as goal

abbrev pub invariant-loop : goal.invariant-loop
invariant-loop l =
    (l.self.sent ≡ drop l.counter l.fn.self.sent)
    × (l.lines.items ≡ flat_map line_in (take l.counter l.fn.self.sent))
    × (l.self.back ≡ l.fn.self.back)
