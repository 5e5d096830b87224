use Rattle.std.proofs.Common.{◌≡◌, ◌++◌, ◌-◌, drop, length}
use Rattle.vsync_text.specs.TraceText.{GoesOnFrom}
use Rattle.chat_log.specs.ChatText.{text_of_more}
use Rattle.chat_log.proofs.chat_lines.put_more.Given as goal

-- what is left is the text of the lines from the index on
abbrev pub invariant-loop-sender : goal.invariant-loop-sender
invariant-loop-sender g l =
    (l.out.items ++ text_of_more (drop l.index (g.C.Chat.lines_of l.chat)) ≡ l.initial.out.items ++ text_of_more (drop l.first (g.C.Chat.lines_of l.chat)))
    × GoesOnFrom l.initial.out.items l.out.items

abbrev pub decreases-loop-sender : goal.decreases-loop-sender
decreases-loop-sender g l = length (g.C.Chat.lines_of l.chat) - l.index
