use Rattle.std.proofs.Common.{◌≡◌, ◌++◌}
use Rattle.std.specs.List.{concat}
use Rattle.commands.specs.States.{state_lines_to}
use Rattle.commands.proofs.states.append_states.Given as goal

-- the chats of so many nodes are printed
abbrev pub invariant-loop-before : goal.invariant-loop-before
invariant-loop-before g l =
    l.out.items ≡ l.initial.out.items ++ concat (state_lines_to g.A.Receiver.meaning g.A.Application.line_of l.world.history.trace l.before)
