-- What is kept of the events so far, and that it says what the trace says.
use Rattle.std.specs.Prelude.{◌≡◌, ℕ, Bool, true, false, cond, Option, List, unwrap_or, option_map}
use Rattle.address.specs.Ids.{Address, ViewId}
use Rattle.trace_props.specs.declared.event.Event.{Event}
use Rattle.trace_props.specs.declared.event.Event.TheVariants.{Started, Sent, Delivered, Blocked, Installed, Left, Crashed}
use Rattle.trace_props.specs.Observed.{is_blocked, has_ended, is_end}
use Rattle.trace_drawing.specs.declared.row.MessageKey.{MessageKey}
use Rattle.trace_drawing.specs.declared.row.Row.{Row}
use Rattle.trace_drawing.specs.declared.known.Lifeline.{Lifeline}
use Rattle.trace_drawing.specs.Layout.{first_place, last_place, rank_in, members_in, happens_to, happens_at, sends, installs}

-- whether a member is blocked after an event of its own
abbrev pub blocked_after : Bool → Event → Bool
blocked_after blocked (Started p) = blocked
blocked_after blocked (Sent s) = blocked
blocked_after blocked (Delivered d) = blocked
blocked_after blocked (Blocked p) = true
blocked_after blocked (Installed i) = false
blocked_after blocked (Left p) = blocked
blocked_after blocked (Crashed p) = blocked

-- what is kept of a member after an event of its own, at a level
abbrev pub lifeline_after : Option Lifeline → ℕ → ℕ → Event → Lifeline
lifeline_after kept column level e = record {
  column = column;
  first = unwrap_or (option_map (λ l. l.first) kept) level;
  last = level;
  blocked = blocked_after (unwrap_or (option_map (λ l. l.blocked) kept) false) e;
  ended = cond (is_end e) true (unwrap_or (option_map (λ l. l.ended) kept) false);
}

-- how the row of a member's next event is laid out at a level, by what is kept of it: in the next column, where nothing is
abbrev pub row_after : Option Lifeline → ℕ → ℕ → Option ℕ → Row
row_after kept next level origin = record {
  column = unwrap_or (option_map (λ l. l.column) kept) next;
  level = level;
  before = option_map (λ l. l.last) kept;
  blocked = unwrap_or (option_map (λ l. l.blocked) kept) false;
  origin = origin;
}

-- what is kept of members is what the trace says of them
pub record KnowsMembers (level : ℕ → ℕ) (members : List Address) (kept : Address → Option Lifeline) (t : List Event) : Type 0 where
  pub come_up : members ≡ members_in t
  pub columns : (p : Address) → option_map (λ l. l.column) (kept p) ≡ rank_in p (members_in t)
  pub firsts : (p : Address) → option_map (λ l. l.first) (kept p) ≡ option_map level (first_place (happens_to p) t)
  pub lasts : (p : Address) → option_map (λ l. l.last) (kept p) ≡ option_map level (last_place (happens_to p) t)
  pub blocked : (p : Address) → unwrap_or (option_map (λ l. l.blocked) (kept p)) false ≡ is_blocked p t
  pub ended : (p : Address) → unwrap_or (option_map (λ l. l.ended) (kept p)) false ≡ has_ended p t

-- where each message was sent last
abbrev pub KnowsSends : (MessageKey → Option ℕ) → List Event → Type 0
KnowsSends sent t = (m : MessageKey) → sent m ≡ last_place (sends m) t

-- where each view was installed last
abbrev pub KnowsInstalls : (ViewId → Option ℕ) → List Event → Type 0
KnowsInstalls installed t = (v : ViewId) → installed v ≡ last_place (installs v) t

-- where something happened last at each node
abbrev pub KnowsNodes : (ℕ → Option ℕ) → List Event → Type 0
KnowsNodes kept t = (n : ℕ) → kept n ≡ last_place (happens_at n) t

-- all that is kept says what the trace says
pub record Knows (level : ℕ → ℕ) (members : List Address) (kept : Address → Option Lifeline) (sent : MessageKey → Option ℕ) (installed : ViewId → Option ℕ) (t : List Event) : Type 0 where
  pub of_members : KnowsMembers level members kept t
  pub of_sends : KnowsSends sent t
  pub of_installs : KnowsInstalls installed t
