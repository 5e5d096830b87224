use Rattle.std.proofs.Common.{◌≡◌, ℕ, List, Option}
use Rattle.std.specs.Option.{option_copied}
use Rattle.udp_runs.specs.Came.{IsEarlier, Owes}
use Rattle.udp_runs.specs.Said.{MaySay}
use Rattle.udp_runs.specs.Telling.{Quietly}
use Rattle.udp_runs.proofs.lone.LoneNode.send_writes.Given as goal

-- writes were sent
abbrev pub invariant-loop-sent : goal.invariant-loop-sent
invariant-loop-sent g l =
    ((group : List ℕ) (start later : Option (List ℕ)) → Owes start (g.L.Lines.came l.fn.lines) l.fn.self.outbox l.fn.self.teller.unsaid → IsEarlier (g.L.Lines.came l.lines) later
    → Quietly g.N.Net.log g.N.Net.failed (MaySay (option_copied l.fn.self.once) start later g.C.Application.payload_within g.C.Application.first_said) g.C.Receiver.meaning group l.fn.self.member l.self.member)
    × (l.self.teller.voice ≡ l.fn.self.teller.voice) × (l.self.once ≡ l.fn.self.once) × (g.L.Lines.came l.lines ≡ g.L.Lines.came l.fn.lines)
    × ((start : Option (List ℕ)) → Owes start (g.L.Lines.came l.fn.lines) l.fn.self.outbox l.fn.self.teller.unsaid → Owes start (g.L.Lines.came l.lines) l.self.outbox l.self.teller.unsaid)
