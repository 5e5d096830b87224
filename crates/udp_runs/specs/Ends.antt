-- How the text of a command over datagrams ends.
use Rattle.std.specs.Prelude.{ℕ, List, [], Option, Result, Ok, Err}
use Rattle.std.specs.Io.KnownBytes.{Appends}
use Rattle.udp_net.specs.declared.error.BindError.{BindError}
use Rattle.udp_net.specs.declared.error.BindError.TheVariants as bind
use Rattle.vsync_text.specs.declared.status.Status.{Status}
use Rattle.vsync_text.specs.declared.status.Status.TheVariants.{Done, Refused, Memory, Outside}
use Rattle.vsync_text.specs.Outcomes.{memory_line, fault_line}
use Rattle.udp_runs.specs.declared.ends.Cut.{Cut}
use Rattle.udp_runs.specs.declared.ends.Cut.TheVariants as cut

-- a writer took some more
pub record TakesMore (old new : Option (List ℕ)) : Type 0 where
  pub text : List ℕ
  pub appends : Appends old new text

-- the ends of a text, and their statuses: nothing, where all was done; or `# memory`, where memory was refused
pub data IsEndText : Status → List ℕ → Type 0 where
  Finished : IsEndText Done []
  Unfinished : IsEndText Memory memory_line

-- the same, by why what happened is written no further; where the writer failed, nothing more is written
pub data IsEndOf : Result Unit Cut → Status → List ℕ → Type 0 where
  Over : IsEndOf (Ok tt) Done []
  Lacking : IsEndOf (Err cut.Memory) Memory memory_line
  Failing : IsEndOf (Err cut.Failed) Outside []

-- the texts for the node of a line that has no net: that there is none for it, or that its socket could not be bound; or `# memory`, where memory was refused
pub data IsNetlessText (line : ℕ) : BindError → Status → List ℕ → Type 0 where
  Unlisted : IsNetlessText line bind.Config Refused (fault_line line 50)
  Unbound : IsNetlessText line bind.Bind Outside (fault_line line 51)
  Unprinted : (error : BindError) → IsNetlessText line error Memory memory_line
