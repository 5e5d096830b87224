use Rattle.std.proofs.Common.{◌≡◌, ◌+◌, ◌-◌, ◌*◌, drop}
use Rattle.frames.specs.Frames.{shared_front, shared_within}
use Rattle.frames.proofs.content.shared_groups.Given as goal

-- they have the groups so far in common, and what they have behind these
abbrev pub invariant-loop-group : goal.invariant-loop-group
invariant-loop-group l = shared_front l.last l.packet ≡ 8 * l.group + shared_within (255 - 8 * l.group) (drop (8 * l.group) l.last) (drop (8 * l.group) l.packet)
