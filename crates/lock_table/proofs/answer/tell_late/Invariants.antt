use Rattle.std.proofs.Common.{◌≡◌, ◌+◌, ◌-◌, ◌≤◌, ◌++◌, take, length, vec_len, vec_capacity}
use Rattle.std.specs.List.{flat_map}
use Rattle.lock_table.specs.Keeping.{told}
use Rattle.lock_table.proofs.answer.tell_late.Given as goal

abbrev pub invariant-loop-waits : goal.invariant-loop-waits
invariant-loop-waits l = record {
  answers : l.answers.items ≡ l.fn.answers.items ++ flat_map (told l.followed.own l.followed.copy l.view l.followed.place) (take l.waits-index l.fn.queued.items);
  room : vec_len l.answers + (length l.fn.queued.items - l.waits-index) ≤ vec_capacity l.answers;
  more : vec_capacity l.fn.answers ≤ vec_capacity l.answers;
  few : vec_len l.answers ≤ vec_len l.fn.answers + l.waits-index;
}
