use Rattle.std.proofs.Common.{◌∙◌, ap}
use Rattle.vsync_text.specs.Script.{fault_number}
use Rattle.vsync_text.specs.Outcomes.{fault_line}
use Rattle.commands.proofs.DrawingsEnd.{said-fault, unsaid-fault}
use Rattle.commands.proofs.draws.refuse.Goals as goal

pub returns-in-Ok : goal.returns-in-Ok
returns-in-Ok g c = said-fault c.args.line (fault_number c.args.fault) _ _ _ c.as_bytes.result.now
    (c.as_bytes.ensures.value ∙ c.in-Ok.ensures.ok ∙ ap (fault_line c.args.line) c.number-number.ensures) c.end_with.ensures

pub returns-in-Err : goal.returns-in-Err
returns-in-Err g c = unsaid-fault c.args.line (fault_number c.args.fault) _ _ _ c.end_undrawn.ensures
