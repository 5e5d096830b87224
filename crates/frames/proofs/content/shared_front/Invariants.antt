use Rattle.std.proofs.Common.{◌≡◌, ◌+◌, ◌-◌, drop}
use Rattle.frames.specs.Frames.{shared_front, shared_within}
use Rattle.frames.proofs.content.shared_front.Given as goal

-- they have so many bytes in common, and what they have behind these
abbrev pub invariant-loop-place : goal.invariant-loop-place
invariant-loop-place l = shared_front l.last l.packet ≡ l.place + shared_within (255 - l.place) (drop l.place l.last) (drop l.place l.packet)
