use Rattle.std.proofs.Common.{refl}
use Rattle.vsync_text.proofs.LinesWritten.{begins, advanced, settled, lines_taken, part_taken, same_held}
use Rattle.vsync_text.proofs.run.write_through.Goals as goal

pub loop-buffer-init : goal.loop-buffer-init
loop-buffer-init g c = begins _ _ _ c.requires.empty

pub loop-buffer-preserved-then-len-lt-PIECE : goal.loop-buffer-preserved-then-len-lt-PIECE
loop-buffer-preserved-then-len-lt-PIECE g c = advanced _ _ _ _ _ _ _ c.loop-buffer.invariant (c.in-Ok-true.ensures.next c.in-Ok-true.field-0-test)

pub returns-then-not-settle : goal.returns-then-not-settle
returns-then-not-settle g c = part_taken _ _ _ _ _ _ (advanced _ _ _ _ _ _ _ c.loop-buffer.invariant (c.in-Ok-true.ensures.next c.in-Ok-true.field-0-test)) (c.if-not-settle.ensures.part refl)

pub loop-buffer-preserved : goal.loop-buffer-preserved
loop-buffer-preserved g c =
    settled _ _ _ _ _ _ _ (advanced _ _ _ _ _ _ _ c.loop-buffer.invariant (c.in-Ok-true.ensures.next c.in-Ok-true.field-0-test)) (c.if-not-settle.ensures.took refl) (c.if-not-settle.ensures.empty refl)

pub returns-in-Ok-false : goal.returns-in-Ok-false
returns-in-Ok-false g c = part_taken _ _ _ _ _ _ (same_held _ _ _ _ _ _ c.loop-buffer.invariant (c.in-Ok-false.ensures.same c.in-Ok-false.field-0-test)) (c.if-settle.ensures.part refl)

pub returns-then-settle-2 : goal.returns-then-settle-2
returns-then-settle-2 g c = lines_taken _ _ _ _ _ _ (same_held _ _ _ _ _ _ c.loop-buffer.invariant c.in-Err.ensures.err) (c.if-settle-2.ensures.took refl)

pub returns-in-Err : goal.returns-in-Err
returns-in-Err g c = part_taken _ _ _ _ _ _ (same_held _ _ _ _ _ _ c.loop-buffer.invariant c.in-Err.ensures.err) (c.if-settle-2.ensures.part refl)
