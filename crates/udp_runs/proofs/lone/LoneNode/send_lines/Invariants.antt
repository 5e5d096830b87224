use Rattle.std.proofs.Common.{◌≡◌, ℕ, List, Option}
use Rattle.std.specs.Option.{option_copied}
use Rattle.udp_runs.specs.Came.{IsEarlier, Keeps, Owes}
use Rattle.udp_runs.specs.Said.{MaySay}
use Rattle.udp_runs.specs.Telling.{Quietly}
use Rattle.udp_runs.proofs.lone.LoneNode.send_lines.Given as goal

-- lines were sent
abbrev pub invariant-loop-sent : goal.invariant-loop-sent
invariant-loop-sent g l =
    ((group : List ℕ) (start came later : Option (List ℕ)) → Owes start came l.fn.self.outbox l.fn.self.teller.unsaid → IsEarlier came later
    → Quietly g.N.Net.log g.N.Net.failed (MaySay (option_copied l.fn.self.once) start later g.C.Application.payload_within g.C.Application.first_said) g.C.Receiver.meaning group l.fn.self.member l.self.member)
    × (l.self.teller.voice ≡ l.fn.self.teller.voice) × (l.self.once ≡ l.fn.self.once) × Keeps l.fn.self.outbox l.fn.self.teller.unsaid l.self.outbox l.self.teller.unsaid
