-- What a node sent and has not seen delivered, and what it says again (docs/RUNNER.md, "Giving way").
use Rattle.std.specs.Prelude.{ℕ, List, [], ◌∷◌, ◌++◌, drop, take, flat_map, length, if◌then◌else◌}
use Rattle.address.specs.Ids.{same_address}
use Rattle.trace_props.specs.declared.event.Event.{Event}
use Rattle.trace_props.specs.declared.event.Event.TheVariants.{Started, Sent as SentEvent, Delivered, Blocked, Installed, Left, Crashed}
use Rattle.udp_runs.specs.declared.unsaid.Sent.{Sent}
use Rattle.udp_runs.specs.declared.unsaid.Sent.TheVariants.{Line, Once, First, Write}

-- the messages that are outstanding, the oldest first, and the lines that came back
pub record UnsaidModel : Type 0 where
  pub sent : List Sent
  pub back : List ℕ

-- the text of a message that was one of its lines
abbrev pub line_in : Sent → List ℕ
line_in (Line line) = line.items ++ 10 ∷ []
line_in Once = []
line_in First = []
line_in Write = []

-- COMES BACK: so many messages came back, the oldest: their lines are to be said again before those that came back earlier, in the order in which they were sent
abbrev pub coming_back : ℕ → UnsaidModel → UnsaidModel
coming_back count u = record { sent = drop count u.sent; back = flat_map line_in (take count u.sent) ++ u.back }

-- what an event says of them: the oldest was delivered to its sender, or a view hands some back
abbrev pub noted : Event → UnsaidModel → UnsaidModel
noted (Started p) u = u
noted (SentEvent s) u = u
noted (Delivered d) u = if same_address d.message.sender d.member then record u { sent = drop 1 u.sent } else u
noted (Blocked p) u = u
noted (Installed i) u = coming_back (length i.handed_back) u
noted (Left p) u = u
noted (Crashed p) u = u
