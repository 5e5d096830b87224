use Rattle.std.proofs.Common.{List, ℕ}
use Rattle.commands.specs.States.{state_lines_of}
use Rattle.vsync_text.proofs.TextsFollow.{appended-all, appended-some}
use Rattle.commands.proofs.states.print_states.Goals as goal

pub returns : goal.returns
returns g c =
    let lines : List (List ℕ) = state_lines_of g.A.Receiver.meaning g.A.Application.line_of c.args.world.now.history.trace in
    c.end_with_lines.ensures lines (appended-all c.append_states-appended.result lines _ _ _ c.new-text.ensures.items c.append_states-appended.ensures.ok c.as_slice.ensures.value)
    (appended-some c.append_states-appended.result lines _ _ _ c.new-text.ensures.items c.append_states-appended.ensures.err c.as_slice.ensures.value)
