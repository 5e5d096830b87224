use Rattle.std.proofs.Common.{◌≡◌, ◌++◌, take}
use Rattle.lock_table.specs.TableText.{text_of_more}
use Rattle.vsync_text.specs.TraceText.{GoesOnFrom}
use Rattle.lock_table.proofs.lines.put_locks.Given as goal

-- the locks before the index are printed
abbrev pub invariant-loop-lock : goal.invariant-loop-lock
invariant-loop-lock l =
    (l.out.items ≡ l.initial.out.items ++ text_of_more (take l.lock-index l.entries))
    × GoesOnFrom l.initial.out.items l.out.items
