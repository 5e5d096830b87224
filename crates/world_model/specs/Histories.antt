-- A world's history, and what it says of a node.
use Rattle.std.specs.Prelude.{ℕ, Bool, true, false, ◌&&◌, ◌∷◌, [], ◌++◌, Option, None, Some, List, fold, nat_eq, length, if◌then◌else◌}
use Rattle.std.specs.Option.{option_and_then}
use Rattle.std.specs.List.{zip}
use Rattle.address.specs.Ids.{Address}
use Rattle.trace_props.specs.declared.event.Event.{Event}
use Rattle.trace_props.specs.declared.event.Event.TheVariants.{Started, Sent, Delivered, Blocked, Installed, Left, Crashed}
use Rattle.trace_props.specs.Observed.{has_ended}
use Rattle.world_model.specs.declared.WorldEvent.{WorldEvent}
use Rattle.world_model.specs.declared.WorldEvent.TheVariants.{Start, Create, Join, Send, Deliver, Tick, Suspect, MergeHint, Leave, Crash}
use Rattle.world_model.specs.declared.Target.{Target}
use Rattle.world_model.specs.declared.Target.TheVariants.{Member, Packet}
use Rattle.world_model.specs.declared.Answer.{Answer}
use Rattle.world_model.specs.declared.Answer.TheVariants.{Done, Refused}
use Rattle.world_model.specs.declared.Answer.TheVariants as answer
use Rattle.world_model.specs.declared.Reply.{Reply}

-- the events carried out, the reply to each, every packet that was put out, and what happened
pub record History : Type 0 where
  pub events : List WorldEvent
  pub replies : List Reply
  pub pool : List (List ℕ)
  pub trace : List Event

-- whom an event concerns
abbrev pub target_of : WorldEvent → Target
target_of (Start n) = Member n
target_of (Create n) = Member n
target_of (Join n contact) = Member n
target_of (Send n payload) = Member n
target_of (Deliver k) = Packet k
target_of (Tick n) = Member n
target_of (Suspect n q) = Member n
target_of (MergeHint n q) = Member n
target_of (Leave n) = Member n
target_of (Crash n) = Member n

-- the node of an event: for a delivery 0, which is no node's number
abbrev pub node_of : WorldEvent → ℕ
node_of (Start n) = n
node_of (Create n) = n
node_of (Join n contact) = n
node_of (Send n payload) = n
node_of (Deliver k) = 0
node_of (Tick n) = n
node_of (Suspect n q) = n
node_of (MergeHint n q) = n
node_of (Leave n) = n
node_of (Crash n) = n

-- whether an event starts a member
abbrev pub starts : WorldEvent → Bool
starts (Start n) = true
starts (Create n) = false
starts (Join n contact) = false
starts (Send n payload) = false
starts (Deliver k) = false
starts (Tick n) = false
starts (Suspect n q) = false
starts (MergeHint n q) = false
starts (Leave n) = false
starts (Crash n) = false

abbrev pub last_after : ℕ → Option Address → Event → Option Address
last_after n last (Started p) = if nat_eq p.node n then Some p else last
last_after n last (Sent s) = last
last_after n last (Delivered d) = last
last_after n last (Blocked p) = last
last_after n last (Installed i) = last
last_after n last (Left p) = last
last_after n last (Crashed p) = last

-- a node's last member: the last that started there
abbrev pub last_of : ℕ → List Event → Option Address
last_of n t = fold (last_after n) None t

-- a node's running member: its last, unless that one has ended
abbrev pub running : ℕ → List Event → Option Address
running n t = option_and_then (λ p. if has_ended p t then None else Some p) (last_of n t)

abbrev pub is_done : Answer → Bool
is_done Done = true
is_done (answer.Sent n) = false
is_done (Refused r) = false

-- whether an answer leaves a node's member connected
abbrev pub connects_after : ℕ → Bool → WorldEvent → Answer → Bool
connects_after n c (Start m) a = if nat_eq m n && is_done a then false else c
connects_after n c (Create m) a = if nat_eq m n && is_done a then true else c
connects_after n c (Join m contact) a = if nat_eq m n && is_done a then true else c
connects_after n c (Send m x) a = c
connects_after n c (Deliver k) a = c
connects_after n c (Tick m) a = c
connects_after n c (Suspect m q) a = c
connects_after n c (MergeHint m q) a = c
connects_after n c (Leave m) a = c
connects_after n c (Crash m) a = c

abbrev pub connected_after : ℕ → Bool → WorldEvent × Reply → Bool
connected_after n c row = connects_after n c row.0 row.1.answer

-- whether a create or a join of the node was answered Done since the node's last start
abbrev pub is_connected : ℕ → History → Bool
is_connected n h = fold (connected_after n) false (zip h.events h.replies)

-- the history after one more event, its answer, the packets that its step put out, and what happened in it
abbrev pub after : History → WorldEvent → Answer → List (List ℕ) → List Event → History
after h event a packets stretch = record {
  events = h.events ++ event ∷ [];
  replies = h.replies ++ record { answer = a; place = length (h.trace ++ stretch) } ∷ [];
  pool = h.pool ++ packets;
  trace = h.trace ++ stretch;
}

-- the history at the beginning
abbrev pub no_history : History
no_history = record { events = []; replies = []; pool = []; trace = [] }
