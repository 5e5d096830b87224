use Rattle.std.proofs.Common.{take}
use Rattle.trace_merge.specs.Merges.{lists_of}
use Rattle.commands.specs.Processes.{texts_of, AreTracesOf}
use Rattle.commands.proofs.processes.read_traces.Given as goal

-- the texts so far are read
abbrev pub invariant-loop-text : goal.invariant-loop-text
invariant-loop-text l = AreTracesOf (take l.text (texts_of l.texts)) (lists_of l.traces.items)
