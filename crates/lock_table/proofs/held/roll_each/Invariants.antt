use Rattle.lock_table.specs.Locks.{members, rolled}
use Rattle.lock_table.proofs.LocksRoll.{Rolls}
use Rattle.lock_table.proofs.held.roll_each.Given as goal

-- the locks so far that are held, and what becomes of the others, are what becomes of all
abbrev pub invariant-loop-entry : goal.invariant-loop-entry
invariant-loop-entry l = Rolls (members l.view) l.view.id l.last l.entries l.entry-index (rolled (members l.view) l.view.id l.fn.last l.fn.entries)
