use Rattle.std.proofs.Common.{length}
use Rattle.view.proofs.addresses.+each_once.Given as goal

-- the part of the list that is left
abbrev pub decreases-each_once : goal.decreases-each_once
decreases-each_once l = length l.members.now
