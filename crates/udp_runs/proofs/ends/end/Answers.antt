use Rattle.std.proofs.Common.{[]}
use Rattle.vsync_text.specs.declared.status.Status.TheVariants.{Done}
use Rattle.udp_runs.specs.Ends.IsEndOf.{Over}
use Rattle.udp_runs.proofs.RunTextsEnd.{end-lacking, end-failing}
use Rattle.udp_runs.proofs.ends.end.Goals as goal

pub returns-in-Ok : goal.returns-in-Ok
returns-in-Ok g c = rw c.in-Ok.is (record { meant = Done; text = []; says = Over; ends = c.end_with.ensures })

pub returns-in-Err-Memory : goal.returns-in-Err-Memory
returns-in-Err-Memory g c = rw c.in-Err-Memory.is (end-lacking _ _ _ _ (rw c.in-Err-Memory.is at c.in-Err-Memory.field-0-is) c.end_in_memory.ensures)

pub returns-in-Err-Failed : goal.returns-in-Err-Failed
returns-in-Err-Failed g c = rw c.in-Err-Failed.is (end-failing _ _ (rw c.in-Err-Failed.is at c.in-Err-Failed.field-0-is))
