use Rattle.std.proofs.Common.{◌≡◌, ◌≤◌, ◌+◌, ◌++◌, take, drop, length, vec_len, vec_capacity}
use Rattle.std.specs.List.{flat_map, AllByRecursion}
use Rattle.chat_log.specs.Chat.{IsLine}
use Rattle.chat_log.specs.Encoding.{line_bytes}
use Rattle.chat_log.proofs.writing.put_lines.Given as goal

-- the lines so far are put, and there is room for the others, which are lines
abbrev pub invariant-loop-line : goal.invariant-loop-line
invariant-loop-line l = record {
  put : l.out.items ≡ l.fn.out.items ++ flat_map line_bytes (take l.line-index l.lines);
  room : vec_len l.out + length (flat_map line_bytes (drop l.line-index l.lines)) ≤ vec_capacity l.out;
  grown : vec_capacity l.fn.out ≤ vec_capacity l.out;
  left : AllByRecursion IsLine (drop l.line-index l.lines);
}
