use Rattle.std.proofs.Common.{◌≡◌, ◌+◌, ◌*◌, ◌≤◌, length, vec_len, vec_capacity}
use Rattle.vsync_text.specs.Forms.{bytes_of_hex}
use Rattle.vsync_text.proofs.ListsAreRead.{with_front}
use Rattle.vsync_text.proofs.hexadecimal.bytes_in.Given as goal

-- the bytes so far go on with the digits that are left, for whose bytes there is room
abbrev pub invariant-loop-high : goal.invariant-loop-high
invariant-loop-high l = record {
  read : bytes_of_hex l.digits ≡ with_front l.bytes.items (bytes_of_hex l.rest);
  room : 2 * vec_len l.bytes + length l.rest ≤ 2 * vec_capacity l.bytes + 1;
}

abbrev pub decreases-loop-high : goal.decreases-loop-high
decreases-loop-high l = length l.rest
