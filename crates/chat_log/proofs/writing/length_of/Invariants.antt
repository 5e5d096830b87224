use Rattle.std.proofs.Common.{◌≡◌, ◌≤◌, ◌+◌, ◌*◌, take, drop, length}
use Rattle.std.specs.List.{flat_map, AllByRecursion}
use Rattle.address.specs.declared.limits.TheConstants.{PAYLOAD}
use Rattle.chat_log.specs.Chat.{IsLine}
use Rattle.chat_log.specs.Encoding.{line_bytes}
use Rattle.chat_log.proofs.writing.length_of.Given as goal

-- how long the lines so far are
abbrev pub invariant-loop-line : goal.invariant-loop-line
invariant-loop-line l = record {
  length : l.length ≡ length (flat_map line_bytes (take l.line-index l.lines));
  small : l.length ≤ (8 + PAYLOAD) * l.line-index;
  left : AllByRecursion IsLine (drop l.line-index l.lines);
}
