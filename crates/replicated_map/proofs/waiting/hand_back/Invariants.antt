use Rattle.std.proofs.Common.{◌≡◌, ◌+◌, ◌-◌, ◌≤◌, ◌++◌, take, length, map, vec_len, vec_capacity}
use Rattle.replicated_map.specs.Serving.{back}
use Rattle.replicated_map.proofs.waiting.hand_back.Given as goal

abbrev pub invariant-loop-waits : goal.invariant-loop-waits
invariant-loop-waits l = record {
  answers : l.answers.items ≡ l.fn.answers.items ++ map back (take l.waits-index l.waiting);
  room : vec_len l.answers + (length l.waiting - l.waits-index) ≤ vec_capacity l.answers;
}
