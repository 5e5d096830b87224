use Rattle.std.proofs.Common.{◌≡◌, ◌∙◌, sym, subst, List, ℕ}
use Rattle.vsync_text.specs.declared.status.Status.TheVariants.{Broken, Memory}
use Rattle.vsync_text.specs.Outcomes.{memory_line}
use Rattle.commands.specs.Processes.{IsUnorderedText, unordered_line}
use Rattle.commands.specs.Processes.IsUnorderedText.{Told, Untold}
use Rattle.commands.proofs.processes.end_unordered.Goals as goal

pub returns-in-Ok : goal.returns-in-Ok
returns-in-Ok g c =
    let line : c.as_bytes.result.now ≡ unordered_line c.args.process c.args.event = c.as_bytes.ensures.value ∙ c.in-Ok.ensures.ok in
    record { meant = Broken; text = _; says = subst (λ (x : List ℕ). IsUnorderedText c.args.process c.args.event Broken x) (sym line) Told; ends = c.end_with.ensures }

pub returns-in-Err : goal.returns-in-Err
returns-in-Err g c = record { meant = Memory; text = memory_line; says = Untold; ends = c.end_in_memory.ensures }
