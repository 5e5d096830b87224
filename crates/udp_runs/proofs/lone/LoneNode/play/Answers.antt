use Rattle.std.proofs.Common.{refl}
use Rattle.udp_runs.proofs.LinesKept.{earlier-refl}
use Rattle.udp_runs.proofs.NodesTell.{from-then, told-all, alone-cut, alone-shown, alone-whole}
use Rattle.udp_runs.proofs.lone.LoneNode.play.Goals as goal

pub returns-in-Err-clause-plays : goal.returns-in-Err-clause-plays
returns-in-Err-clause-plays g c start later owed earlier = alone-cut _ _ _ _ _ _ _ _ _ _ _ _ _ _ _ (c.in-Err.ensures.tells start later)

pub returns-in-Err-clause-grows : goal.returns-in-Err-clause-grows
returns-in-Err-clause-grows g c = rw c.begin.ensures.came (earlier-refl _)

pub returns-in-Err-turns-clause-plays : goal.returns-in-Err-turns-clause-plays
returns-in-Err-turns-clause-plays g c start later owed earlier =
    let group = c.args.settings.now.group in
    alone-cut _ _ _ _ _ _ _ _ _ _ _ _ _ _ _ (from-then _ _ _ _ group _ _ _ _ _ _ _ _ _ _ (c.in-Ok.ensures.tells start later)
    (rw (c.begin.ensures.same.0, c.begin.ensures.same.1) at c.in-Err-turns.ensures.tells start later (rw c.begin.ensures.came (c.in-Ok.ensures.owes start _ owed)) earlier (told-all _ _ _ _ group _ _ _ _ _ _ (c.in-Ok.ensures.tells start later).tells)))

pub returns-in-Err-turns-clause-grows : goal.returns-in-Err-turns-clause-grows
returns-in-Err-turns-clause-grows g c = rw c.begin.ensures.came at c.turns.ensures.grows

pub returns-in-Err-tell_state-clause-plays : goal.returns-in-Err-tell_state-clause-plays
returns-in-Err-tell_state-clause-plays g c start later owed earlier =
    let group = c.args.settings.now.group in
    alone-shown _ _ _ _ _ _ _ _ _ _ _ _ _ _ _ _ _ (from-then _ _ _ _ group _ _ _ _ _ _ _ _ _ _ (c.in-Ok.ensures.tells start later)
    (rw (c.begin.ensures.same.0, c.begin.ensures.same.1) at c.in-Ok-turns.ensures.tells start later (rw c.begin.ensures.came (c.in-Ok.ensures.owes start _ owed)) earlier (told-all _ _ _ _ group _ _ _ _ _ _ (c.in-Ok.ensures.tells start later).tells)))
    (rw (c.channel-channel.ensures.value, c.turns.ensures.same.0, c.begin.ensures.same.0) at c.in-Err-tell_state.ensures.writes) refl

pub returns-in-Err-tell_state-clause-grows : goal.returns-in-Err-tell_state-clause-grows
returns-in-Err-tell_state-clause-grows g c = rw c.begin.ensures.came at c.turns.ensures.grows

pub returns-clause-plays : goal.returns-clause-plays
returns-clause-plays g c start later owed earlier =
    let group = c.args.settings.now.group in
    alone-whole _ _ _ _ _ _ _ _ _ _ _ _ _ _ _ _ _ _ _ _ (c.in-Ok.ensures.tells start later)
    (rw (c.begin.ensures.same.0, c.begin.ensures.same.1) at c.in-Ok-turns.ensures.tells start later (rw c.begin.ensures.came (c.in-Ok.ensures.owes start _ owed)) (rw c.leave.ensures.came at earlier))
    (rw (c.channel-channel.ensures.value, c.turns.ensures.same.0, c.begin.ensures.same.0) at c.in-Ok-tell_state.ensures.writes)
    (rw (c.channel-channel.ensures.value, c.tell_state.ensures.voice, c.turns.ensures.same.0, c.begin.ensures.same.0, c.turns.ensures.same.1, c.begin.ensures.same.1) at c.leave.ensures.tells group start later)

pub returns-clause-grows : goal.returns-clause-grows
returns-clause-grows g c = rw c.leave.ensures.came (rw c.begin.ensures.came at c.turns.ensures.grows)
