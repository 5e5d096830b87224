use Rattle.std.proofs.Common.{◌≡◌, take}
use Rattle.wire_values.proofs.MemberLaws.{Sound}
use Rattle.wire_values.proofs.members.Roster.new.Given as goal

-- the members so far, which are sound
abbrev pub invariant-loop-address : goal.invariant-loop-address
invariant-loop-address l = record { same : l.roster ≡ take l.address-index l.members; sound : Sound l.id (take l.address-index l.members) }
