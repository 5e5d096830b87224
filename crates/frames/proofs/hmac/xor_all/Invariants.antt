use Rattle.std.proofs.Common.{◌≡◌, take, drop, ◌++◌}
use Rattle.frames.specs.Hmac.{xor_all}
use Rattle.frames.proofs.hmac.xor_all.Given as goal

-- those so far are combined, and the rest are as they were
abbrev pub invariant-loop-place : goal.invariant-loop-place
invariant-loop-place l = l.place-items ≡ xor_all l.byte (take l.place-index l.block) ++ drop l.place-index l.block
