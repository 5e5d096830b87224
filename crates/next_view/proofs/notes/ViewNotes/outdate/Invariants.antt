use Rattle.std.proofs.Common.{◌≡◌, take}
use Rattle.std.specs.Prelude.{fold}
use Rattle.next_view.specs.ViewNotes.{outdates}
use Rattle.next_view.proofs.notes.ViewNotes.outdate.Given as goal

-- the earlier incarnations among the members so far are suspected
abbrev pub invariant-loop-member : goal.invariant-loop-member
invariant-loop-member l = l.self ≡ fold (outdates l.me l.joiner) l.fn.self (take l.member-index l.view.members)
