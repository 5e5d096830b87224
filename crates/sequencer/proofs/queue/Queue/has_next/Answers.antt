use Rattle.std.proofs.Common.{sym, ap, ◌∙◌}
use Rattle.sequencer.specs.Queues.{has_next}
use Rattle.sequencer.proofs.Slots.{next-first}
use Rattle.sequencer.proofs.queue.Queue.has_next.Goals as goal

pub returns : goal.returns
returns c = c.has_first.ensures ∙ sym (next-first c.self.inside.sender _ c.self.inside.slots) ∙ ap has_next c.self.view_is
