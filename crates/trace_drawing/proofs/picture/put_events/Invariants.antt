use Rattle.std.proofs.Common.{◌≡◌, ◌++◌, false, drop}
use Rattle.trace_drawing.specs.Picture.{event_groups}
use Rattle.trace_drawing.proofs.picture.put_events.Given as goal

-- what is drawn so far, and the rest, is the whole
abbrev pub invariant-loop-number : goal.invariant-loop-number
invariant-loop-number l = l.out.is_short ≡ false
    → (l.initial.out.is_short ≡ false) × (l.out.items ++ event_groups l.rows l.number (drop l.number l.rows) (drop l.number l.events) ≡ l.initial.out.items ++ event_groups l.rows 0 l.rows l.events)
