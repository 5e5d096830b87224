use Rattle.std.proofs.Common.{refl, arith}
use Rattle.vsync_text.proofs.PiecesRead.{nothing_yet, taken, at_end, lines_gone, all_told, end_untold, untold_at}
use Rattle.vsync_text.proofs.pieces.read_trace_from.Goals as goal

pub loop-init : goal.loop-init
loop-init g c = (nothing_yet _ _ _ c.new-trace.ensures c.new-text.ensures.items, omega (arith, c.in_ok-buffer.ensures.len))

pub returns-in-Err : goal.returns-in-Err
returns-in-Err g c = c.in-Err.ensures.err _

pub returns-in-Ok-read_lines : goal.returns-in-Ok-read_lines
returns-in-Ok-read_lines g c =
    all_told _ _ _ _ _ _ _ (taken _ _ _ _ _ _ _ _ c.loop.invariant.0 c.in-Ok.ensures.gave) (at_end _ _ _ _ _ c.in-Ok.ensures.gave (omega (arith, c.if-count-eq0.true)))
    c.as_slice.ensures.value c.in-Ok-read_lines.ensures

pub returns-in-Err-read_lines : goal.returns-in-Err-read_lines
returns-in-Err-read_lines g c =
    rw c.from_unread.ensures
    (end_untold _ _ _ _ _ _ _ (taken _ _ _ _ _ _ _ _ c.loop.invariant.0 c.in-Ok.ensures.gave) (at_end _ _ _ _ _ c.in-Ok.ensures.gave (omega (arith, c.if-count-eq0.true)))
    c.as_slice.ensures.value c.in-Err-read_lines.ensures)

pub returns-in-Err-read_piece : goal.returns-in-Err-read_piece
returns-in-Err-read_piece g c =
    rw c.from_unread-in-Err-read_piece.ensures
    (untold_at _ _ _ _ _ _ _ (taken _ _ _ _ _ _ _ _ c.loop.invariant.0 c.in-Ok.ensures.gave) refl c.in-Err-read_piece.ensures)

pub loop-preserved : goal.loop-preserved
loop-preserved g c = (
  lines_gone _ _ _ _ _ _ _ _ _ (taken _ _ _ _ _ _ _ _ c.loop.invariant.0 c.in-Ok.ensures.gave) refl c.in_default.ensures,
  omega (arith, c.take_piece.ensures.len, c.loop.invariant.1),
)
