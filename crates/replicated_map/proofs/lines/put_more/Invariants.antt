use Rattle.std.proofs.Common.{◌≡◌, ◌++◌, take}
use Rattle.replicated_map.specs.MapText.{text_of_more}
use Rattle.vsync_text.specs.TraceText.{GoesOnFrom}
use Rattle.replicated_map.proofs.lines.put_more.Given as goal

-- the entries before the index are printed
abbrev pub invariant-loop-entry : goal.invariant-loop-entry
invariant-loop-entry l =
    (l.out.items ≡ l.initial.out.items ++ text_of_more (take l.entry-index l.entries))
    × GoesOnFrom l.initial.out.items l.out.items
