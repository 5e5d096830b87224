use Rattle.std.proofs.Common.{◌≡◌, drop}
use Rattle.next_view.specs.Candidates.{is_broken}
use Rattle.next_view.proofs.notes.ViewNotes.is_broken.Given as goal

-- none so far is suspected
abbrev pub invariant-loop-member : goal.invariant-loop-member
invariant-loop-member l = is_broken l.listed l.self ≡ is_broken (drop l.member-index l.listed) l.self
