use Rattle.std.proofs.Common.{◌≡◌, map, take, drop, ◌++◌}
use Rattle.std.specs.List.{list_any}
use Rattle.udp_net.specs.Neighbours.{hearing, is_news}
use Rattle.udp_net.proofs.neighbours.hear_all.Given as goal

-- it was so with those so far, and the rest are as they were
abbrev pub invariant-loop-neighbour : goal.invariant-loop-neighbour
invariant-loop-neighbour l = record { told : l.told ≡ map (hearing l.word) (take l.neighbour-index l.fn.told) ++ drop l.neighbour-index l.fn.told; news : l.is_any_news ≡ list_any (is_news l.word) (take l.neighbour-index l.fn.told) }
