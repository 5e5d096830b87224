-- What writing lines through a buffer leaves in a writer: what it holds before and after, and the buffer before and after.
use Rattle.std.specs.Prelude.{◌≡◌, ℕ, ◌+◌, ◌-◌, ◌*◌, ◌<◌, List, ◌++◌, Option, length, take}
use Rattle.std.specs.List.{concat}
use Rattle.std.specs.Io.KnownBytes.{Appends}
use Rattle.vsync_text.specs.Runs.{lines_from}
use Rattle.vsync_text.specs.declared.run.Printed.{Printed}
use Rattle.vsync_text.specs.declared.run.Printed.TheVariants as printed
use Rattle.vsync_text.specs.declared.run.Rest.{Rest}

-- the lines that are left of a run
abbrev pub lines_left : Rest → List (List ℕ)
lines_left r = lines_from r.from r.lines.now r.replies.now r.events.now

-- no more steps than these are left: each is an event or a reply
abbrev pub steps_left : Rest → ℕ
steps_left r = length r.lines.now * (length r.events.now + 1) + (length r.events.now - r.from)

-- the first few lines that were left are appended to a text, and are left no more
pub record Advances (old new : Rest) (held longer : List ℕ) : Type 0 where
  pub these : List (List ℕ)
  pub appended : longer ≡ held ++ concat these
  pub split : lines_left old ≡ these ++ lines_left new
  pub less : steps_left new < steps_left old

-- the writer took lines: all of them; where memory was refused, the first few; where it failed, a beginning of their text
abbrev pub Prints : Option (List ℕ) → Option (List ℕ) → Printed → List (List ℕ) → Type 0
Prints old new printed.All lines = Appends old new (concat lines)
Prints old new printed.Memory lines = (count : ℕ) × Appends old new (concat (take count lines))
Prints old new printed.Failed lines = (count : ℕ) × Appends old new (take count (concat lines))
