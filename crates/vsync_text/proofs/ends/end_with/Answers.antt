use Rattle.vsync_text.specs.Outcomes.Ends.{Whole, Cut}
use Rattle.vsync_text.proofs.TextsFollow.{appends-kept, ends-late}
use Rattle.vsync_text.proofs.ends.end_with.Goals as goal

-- the writer took a beginning and failed
pub returns-in-Err : goal.returns-in-Err
returns-in-Err g c = let part = c.in-Err.ensures.err in Cut part.0 part.1

-- it took all, and failed as it was flushed
pub returns-then-is_err : goal.returns-then-is_err
returns-then-is_err g c = ends-late _ _ _ _ _ c.in-Ok.ensures.ok c.flush.ensures.bytes

-- it took all
pub returns-else-is_err : goal.returns-else-is_err
returns-else-is_err g c = Whole (appends-kept _ _ _ _ c.in-Ok.ensures.ok c.flush.ensures.bytes)
