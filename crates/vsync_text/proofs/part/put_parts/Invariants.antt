use Rattle.std.proofs.Common.{◌≡◌, ◌++◌, take}
use Rattle.std.specs.Prelude.{flat_map}
use Rattle.vsync_text.specs.Parts.{text_of_part}
use Rattle.vsync_text.specs.TraceText.{GoesOnFrom}
use Rattle.vsync_text.proofs.part.put_parts.Given as goal

abbrev pub invariant-loop-part : goal.invariant-loop-part
invariant-loop-part l =
    (l.out.items ≡ l.initial.out.items ++ flat_map text_of_part (take l.part-index l.parts))
    × GoesOnFrom l.initial.out.items l.out.items
