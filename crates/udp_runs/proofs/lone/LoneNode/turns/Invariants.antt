use Rattle.std.proofs.Common.{◌≡◌, ℕ, List, [], Ok, Option}
use Rattle.std.specs.Option.{option_copied}
use Rattle.udp_runs.specs.Came.{IsEarlier, Owes}
use Rattle.udp_runs.specs.Said.{MaySay}
use Rattle.udp_runs.specs.Telling.{TellsOn}
use Rattle.udp_runs.proofs.lone.LoneNode.turns.Given as goal

-- what happened so far was told, and what is owed is owed still
abbrev pub invariant-loop-round : goal.invariant-loop-round
invariant-loop-round g l =
    ((start later : Option (List ℕ)) → Owes start (g.L.Lines.came l.fn.lines) l.fn.self.outbox l.fn.self.teller.unsaid → IsEarlier (g.L.Lines.came l.lines) later
    → l.fn.self.member.channel.happened ≡ []
    → TellsOn g.N.Net.log g.N.Net.failed (MaySay (option_copied l.fn.self.once) start later g.C.Application.payload_within g.C.Application.first_said) g.C.Receiver.meaning g.C.Application.line_of l.fn.settings.group l.fn.self.teller.voice l.fn.self.member l.self.member (g.W.Write.contents l.fn.writer) (g.W.Write.contents l.writer) (Ok tt))
    × (l.self.teller.voice ≡ l.fn.self.teller.voice) × (g.M.NodeMachine.gone l.machine ≡ g.M.NodeMachine.gone l.fn.machine) × (l.self.once ≡ l.fn.self.once)
    × IsEarlier (g.L.Lines.came l.fn.lines) (g.L.Lines.came l.lines)
    × ((start : Option (List ℕ)) → Owes start (g.L.Lines.came l.fn.lines) l.fn.self.outbox l.fn.self.teller.unsaid → Owes start (g.L.Lines.came l.lines) l.self.outbox l.self.teller.unsaid)
