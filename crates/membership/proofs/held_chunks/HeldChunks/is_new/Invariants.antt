use Rattle.std.proofs.Common.{◌≡◌, true, take}
use Rattle.membership.specs.HeldChunks.{is_new}
use Rattle.membership.proofs.held_chunks.HeldChunks.is_new.Given as goal

abbrev pub invariant-loop-held : goal.invariant-loop-held
invariant-loop-held l = is_new l.chunk (take l.held-index l.self) ≡ true
