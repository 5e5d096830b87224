use Rattle.std.proofs.Common.{◌+◌, ◌<◌, vec_len}
use Rattle.vsync_text.proofs.PiecesRead.{SoFar}
use Rattle.vsync_text.proofs.pieces.read_trace_from.Given as goal

-- what was read goes on with what is not yet read, and there is room for more
abbrev pub invariant-loop : goal.invariant-loop
invariant-loop g l = SoFar (g.I.Read.remaining l.fn.reader) (g.I.Read.remaining l.reader) l.trace.events (l.number + 1) l.text.items × (0 < vec_len l.buffer)
