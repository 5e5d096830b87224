use Rattle.std.proofs.Common.{◌≡◌, ◌++◌, List, map, length}
use Rattle.std.specs.List.{concat}
use Rattle.trace_props.specs.declared.event.Event.{Event}
use Rattle.udp_runs.specs.Texts.{Happens, texts_of}
use Rattle.udp_runs.proofs.process.append_events.Given as goal

-- some events were taken, and their lines were appended
abbrev pub invariant-loop-event : goal.invariant-loop-event
invariant-loop-event g l =
    (done : List Event) × (l.fn.channel.happened ≡ done ++ l.channel.happened) × (l.text.items ≡ l.fn.text.items ++ concat (texts_of (map Happens done)))
    × (l.channel ≡ record l.fn.channel { happened = l.channel.happened })

abbrev pub decreases-loop-event : goal.decreases-loop-event
decreases-loop-event g l = length l.channel.happened
