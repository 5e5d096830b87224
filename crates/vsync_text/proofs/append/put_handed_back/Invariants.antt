use Rattle.vsync_text.specs.TraceText.{text_of_numbered}
use Rattle.vsync_text.proofs.KeepFront.{Joined}
use Rattle.vsync_text.proofs.append.put_handed_back.Given as goal

abbrev pub invariant-loop-message : goal.invariant-loop-message
invariant-loop-message l = Joined text_of_numbered l.before l.initial.out.items l.out.items l.messages l.message-index l.mark
