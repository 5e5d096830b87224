use Rattle.std.proofs.Common.{◌≡◌, drop}
use Rattle.std.specs.List.{list_all}
use Rattle.std.specs.Char.{is_ascii_digit}
use Rattle.vsync_text.proofs.field.are_digits.Given as goal

-- the bytes so far are digits, so those that are left decide
abbrev pub invariant-loop-byte : goal.invariant-loop-byte
invariant-loop-byte l = list_all is_ascii_digit l.field ≡ list_all is_ascii_digit (drop l.byte-index l.field)
