-- The queues of a view's senders, and the order that comes of them.
use Rattle.std.specs.Prelude.{ℕ, ◌+◌, ◌-◌, Bool, false, not, ◌&&◌, List, [], ◌∷◌, Option, None, nat_eq, nat_lt, nat_le, is_some, if◌then◌else◌}
use Rattle.std.specs.List.{list_any, find}
use Rattle.std.specs.Option.{option_map, option_map_or}
use Rattle.address.specs.Ids.{Address, same_address}
use Rattle.wire_values.specs.Values.{Entry}
use Rattle.address.specs.declared.limits.TheConstants.{WINDOW, OUTSTANDING, GREATEST_NUMBER}
use Rattle.trace_props.specs.declared.event.Numbered.{Numbered}

-- a list in which the first element that passes a test is changed
abbrev pub change_first : {X : Type 0} → (X → Bool) → (X → X) → List X → List X
change_first test f [] = []
change_first test f (x ∷ xs) = if test x then f x ∷ xs else x ∷ change_first test f xs

-- a list without the first element that passes a test
abbrev pub without_first : {X : Type 0} → (X → Bool) → List X → List X
without_first test [] = []
without_first test (x ∷ xs) = if test x then xs else x ∷ without_first test xs

-- the messages of a sender: how many were ordered, and those that wait, by number
pub record Queue : Type 0 where
  pub sender : Address
  pub ordered : ℕ
  pub waiting : List Numbered

abbrev pub idle : Address → Queue
idle p = record { sender = p; ordered = 0; waiting = [] }

-- whether a message with this number is taken: it was not ordered, is at most `OUTSTANDING` past what was, and does not wait already
abbrev pub takes : ℕ → Queue → Bool
takes n q = nat_lt q.ordered n && nat_le n (q.ordered + OUTSTANDING) && not (list_any (λ f. nat_eq n f.number) q.waiting)

-- a message more, at its place among the rising numbers
abbrev pub waiting_with : Numbered → List Numbered → List Numbered
waiting_with f [] = f ∷ []
waiting_with f (g ∷ waiting) = if nat_lt f.number g.number then f ∷ g ∷ waiting else g ∷ waiting_with f waiting

-- the queue after a message was offered
abbrev pub offered : ℕ → List ℕ → Queue → Queue
offered n x q = if takes n q then record { sender = q.sender; ordered = q.ordered; waiting = waiting_with (record { number = n; payload = x }) q.waiting } else q

-- whether this is the number that comes next
abbrev pub follows : Queue → Numbered → Bool
follows q f = nat_eq (q.ordered + 1) f.number

-- whether the next message waits
abbrev pub has_next : Queue → Bool
has_next q = list_any (follows q) q.waiting

abbrev pub entry_with : Queue → Numbered → Entry
entry_with q f = record { sender = q.sender; number = f.number; payload = f.payload }

-- the next message, where it waits
abbrev pub next_of : Queue → Option Entry
next_of q = option_map (entry_with q) (find (follows q) q.waiting)

-- the queue after its next message was ordered
abbrev pub served : Queue → Queue
served q = record { sender = q.sender; ordered = q.ordered + 1; waiting = without_first (follows q) q.waiting }

-- how many messages were ordered in the view, and the queues of its members, by rank
pub record OrdererModel : Type 0 where
  pub ordered : ℕ
  pub queues : List Queue

abbrev pub is_from : Address → Queue → Bool
is_from p q = same_address p q.sender

-- what an offered message is answered: false for a sender that is not of the view
abbrev pub is_taken : Address → ℕ → OrdererModel → Bool
is_taken p n w = option_map_or (takes n) (find (is_from p) w.queues) false

abbrev pub forwarded : Address → ℕ → List ℕ → OrdererModel → OrdererModel
forwarded p n x w = record { ordered = w.ordered; queues = change_first (is_from p) (offered n x) w.queues }

-- whether one more message may be ordered, where this many are stable
abbrev pub may_order : ℕ → OrdererModel → Bool
may_order stable w = nat_lt (w.ordered - stable) WINDOW && nat_lt w.ordered GREATEST_NUMBER

-- the message that comes next in the order: that of the lowest rank whose next message waits
abbrev pub first_next : List Queue → Option Entry
first_next [] = None
first_next (q ∷ queues) = if has_next q then next_of q else first_next queues

abbrev pub next_ordered : ℕ → OrdererModel → Option Entry
next_ordered stable w = if may_order stable w then first_next w.queues else None

-- the orderer after that message was ordered, where there is one
abbrev pub ordering : ℕ → OrdererModel → OrdererModel
ordering stable w =
    if is_some (next_ordered stable w)
    then record { ordered = w.ordered + 1; queues = change_first has_next served w.queues }
    else w
