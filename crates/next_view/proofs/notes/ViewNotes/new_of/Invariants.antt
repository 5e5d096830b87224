use Rattle.std.proofs.Common.{◌≡◌, take}
use Rattle.next_view.specs.Noting.{new_of}
use Rattle.next_view.proofs.notes.ViewNotes.new_of.Given as goal

-- the new ones of the list so far are there
abbrev pub invariant-loop-address : goal.invariant-loop-address
invariant-loop-address l = l.new.items ≡ new_of l.view.members (take l.address-index l.list) l.self
