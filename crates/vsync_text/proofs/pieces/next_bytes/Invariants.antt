use Rattle.std.proofs.Common.{◌≡◌, vec_len}
use Rattle.std.specs.Io.KnownBytes.{Keeps}
use Rattle.vsync_text.proofs.pieces.next_bytes.Given as goal

-- nothing was given, and the buffer is as long as it was
abbrev pub invariant-loop : goal.invariant-loop
invariant-loop g l = Keeps (g.I.Read.remaining l.fn.reader) (g.I.Read.remaining l.reader) × (vec_len l.buffer ≡ vec_len l.fn.buffer)
