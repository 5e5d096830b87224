-- What the chats mean as receivers.
use Rattle.std.specs.Prelude.{ℕ, List, []}
use Rattle.state_transfer.specs.Meanings.{Meaning}
use Rattle.chat_log.specs.declared.TheConstants.{LINES, LONG_LINES}
use Rattle.chat_log.specs.declared.lines.Line.{Line}
use Rattle.chat_log.specs.Chat.{IsChat, chat_apply}
use Rattle.chat_log.specs.Encoding.{chat_encode, chat_decode}

-- the last so many lines, their number in width bytes: at the beginning nothing was said
abbrev pub last_lines : ℕ → ℕ → Meaning (List Line)
last_lines lines width =
    record { opening = []; apply = chat_apply lines; encode = chat_encode width; decode = chat_decode lines width; is_state = IsChat lines }

-- the chat, its number of lines in one byte
abbrev pub chat_meaning : Meaning (List Line)
chat_meaning = last_lines LINES 1

-- the long chat, its number of lines in two
abbrev pub long_meaning : Meaning (List Line)
long_meaning = last_lines LONG_LINES 2
