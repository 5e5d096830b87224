use Rattle.std.proofs.Common.{◌≡◌, ◌≤◌, ◌+◌, ◌-◌, ◌*◌, ◌++◌, length, take, vec_len, vec_capacity}
use Rattle.vsync_text.specs.TraceText.{hex_of, GoesOnFrom}
use Rattle.vsync_text.proofs.append.put_hex.Given as goal

-- the digits of the bytes so far stand there, and there is room for those of the others
abbrev pub invariant-loop-byte : goal.invariant-loop-byte
invariant-loop-byte l =
    ((l.out.items ≡ l.fn.out.items ++ hex_of (take l.byte-index l.bytes)) × GoesOnFrom l.fn.out.items l.out.items)
    × (vec_len l.out + 2 * (length l.bytes - l.byte-index) ≤ vec_capacity l.out)
