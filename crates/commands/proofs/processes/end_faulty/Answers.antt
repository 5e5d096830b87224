use Rattle.std.proofs.Common.{◌≡◌, ◌∙◌, ap, sym, subst, List, ℕ}
use Rattle.vsync_text.specs.Script.{fault_number}
use Rattle.vsync_text.specs.declared.status.Status.TheVariants.{Refused, Memory}
use Rattle.vsync_text.specs.Outcomes.{memory_line}
use Rattle.commands.specs.Processes.{IsFaultyText, faulty_line}
use Rattle.commands.specs.Processes.IsFaultyText.{Told, Untold}
use Rattle.commands.proofs.processes.end_faulty.Goals as goal

pub returns-in-Ok : goal.returns-in-Ok
returns-in-Ok g c =
    let line : c.as_bytes.result.now ≡ faulty_line c.args.text c.args.line (fault_number c.args.fault) = c.as_bytes.ensures.value ∙ c.in-Ok.ensures.ok ∙ ap (faulty_line c.args.text c.args.line) c.number-number.ensures in
    record { meant = Refused; text = _; says = subst (λ (x : List ℕ). IsFaultyText c.args.text c.args.line (fault_number c.args.fault) Refused x) (sym line) Told; ends = c.end_with.ensures }

pub returns-in-Err : goal.returns-in-Err
returns-in-Err g c = record { meant = Memory; text = memory_line; says = Untold; ends = c.end_in_memory.ensures }
