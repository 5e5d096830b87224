use Rattle.std.proofs.Common.{◌≡◌, false, length}
use Rattle.udp_runs.specs.Came.{KeepsUnsaid}
use Rattle.udp_runs.proofs.LinesAndEvents.{Took}
use Rattle.udp_runs.proofs.telling.Teller.append_turn.Given as goal

-- some events were taken, and their lines were appended, unless it speaks
abbrev pub invariant-loop-event : goal.invariant-loop-event
invariant-loop-event g l =
    ((l.fn.self.voice.speaks ≡ false → Took l.fn.channel l.channel l.fn.self.text.items l.self.text.items) × (l.channel ≡ record l.fn.channel { happened = l.channel.happened })
    × (l.self.voice ≡ l.fn.self.voice))
    × (KeepsUnsaid l.fn.self.unsaid l.self.unsaid × (g.L.Lines.came l.lines ≡ g.L.Lines.came l.fn.lines))

abbrev pub decreases-loop-event : goal.decreases-loop-event
decreases-loop-event g l = length l.channel.happened
