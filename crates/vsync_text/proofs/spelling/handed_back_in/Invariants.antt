use Rattle.std.proofs.Common.{◌≡◌}
use Rattle.std.specs.Option.{option_copied}
use Rattle.vsync_text.specs.Forms.{parts_of, parts_left, left_len, each_of}
use Rattle.vsync_text.specs.Spelling.{message_of_text, AreShort}
use Rattle.vsync_text.proofs.ListsAreRead.{with_front}
use Rattle.vsync_text.proofs.spelling.handed_back_in.Given as goal

-- the messages so far go on with the parts that are left
abbrev pub invariant-loop-part : goal.invariant-loop-part
invariant-loop-part l = record {
  read : each_of message_of_text (parts_of l.field) ≡ with_front l.messages.items (each_of message_of_text (parts_left (option_copied l.left)));
  short : AreShort l.messages.items;
}

abbrev pub decreases-loop-part : goal.decreases-loop-part
decreases-loop-part l = left_len (option_copied l.left)
