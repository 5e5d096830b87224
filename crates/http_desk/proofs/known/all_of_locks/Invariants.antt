use Rattle.std.proofs.Common.{take}
use Rattle.http_desk.specs.Replies.{AreKnownOfLocks}
use Rattle.http_desk.proofs.known.all_of_locks.Given as goal

-- the answers before the index are known
abbrev pub invariant-loop-answer : goal.invariant-loop-answer
invariant-loop-answer l = AreKnownOfLocks (take l.answer-index l.answers) l.all.items
