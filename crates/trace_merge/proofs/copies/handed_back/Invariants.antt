use Rattle.std.proofs.Common.{◌≡◌, take}
use Rattle.trace_merge.proofs.copies.handed_back.Given as goal

-- those so far were copied
abbrev pub invariant-loop-message : goal.invariant-loop-message
invariant-loop-message l = l.items.items ≡ take l.message-index l.messages-2
