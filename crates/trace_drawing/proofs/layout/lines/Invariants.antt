use Rattle.std.proofs.Common.{◌≡◌, ℕ, List, take, filter_map}
use Rattle.std.specs.HashMap.{get}
use Rattle.address.specs.Ids.{same_address, same_view_id}
use Rattle.trace_props.specs.declared.event.Event.{Event}
use Rattle.trace_drawing.specs.Layout.{same_message, member_line}
use Rattle.trace_drawing.specs.Known.{Knows}
use Rattle.trace_drawing.proofs.layout.lines.Given as goal

-- so far the lines are those of the members
abbrev pub invariant-loop-member : goal.invariant-loop-member
invariant-loop-member l = (at : ℕ → ℕ) (t : List Event) → Knows at l.known.members.items (get same_address l.known.lifelines) (get same_message l.known.sends) (get same_view_id l.known.installs) t
    → l.lines.items ≡ filter_map (member_line at t) (take l.member-index l.known.members.items)
