use Rattle.std.proofs.Common.{◌≡◌, drop}
use Rattle.next_view.specs.Candidates.{first_unsuspected}
use Rattle.next_view.proofs.notes.ViewNotes.first_unsuspected.Given as goal

-- the members so far are suspected
abbrev pub invariant-loop-member : goal.invariant-loop-member
invariant-loop-member l = first_unsuspected l.self.suspects l.members ≡ first_unsuspected l.self.suspects (drop l.member-index l.members)
