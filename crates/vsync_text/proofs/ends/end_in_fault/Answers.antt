use Rattle.std.proofs.Common.{◌≡◌, ◌∙◌, ap, sym, subst, List, ℕ}
use Rattle.vsync_text.specs.Script.{fault_number}
use Rattle.vsync_text.specs.declared.status.Status.TheVariants.{Refused, Memory}
use Rattle.vsync_text.specs.Outcomes.{IsFaultText, memory_line, fault_line}
use Rattle.vsync_text.specs.Outcomes.IsFaultText.{Printed, Unprinted}
use Rattle.vsync_text.proofs.ends.end_in_fault.Goals as goal

pub returns-in-Ok : goal.returns-in-Ok
returns-in-Ok g c =
    let line : c.as_bytes.result.now ≡ fault_line c.args.line (fault_number c.args.fault) = c.as_bytes.ensures.value ∙ c.in-Ok.ensures.ok ∙ ap (fault_line c.args.line) c.number-number.ensures in
    record { meant = Refused; text = _; says = subst (λ (x : List ℕ). IsFaultText c.args.line (fault_number c.args.fault) Refused x) (sym line) Printed; ends = c.end_with.ensures }

pub returns-in-Err : goal.returns-in-Err
returns-in-Err g c = record { meant = Memory; text = memory_line; says = Unprinted; ends = c.end_in_memory.ensures }
