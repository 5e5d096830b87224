use Rattle.std.proofs.Common.{◌≡◌, ◌+◌, ◌-◌, ◌≤◌, ◌++◌, take, length, map, vec_len, vec_capacity}
use Rattle.lock_table.specs.Keeping.{back}
use Rattle.lock_table.proofs.answer.hand_back.Given as goal

abbrev pub invariant-loop-waits : goal.invariant-loop-waits
invariant-loop-waits l = record {
  answers : l.answers.items ≡ l.fn.answers.items ++ map (back l.view) (take l.waits-index l.waiting);
  more : vec_capacity l.fn.answers ≤ vec_capacity l.answers;
  few : vec_len l.answers ≤ vec_len l.fn.answers + l.waits-index;
  room : vec_len l.answers + (length l.waiting - l.waits-index) ≤ vec_capacity l.answers;
}
