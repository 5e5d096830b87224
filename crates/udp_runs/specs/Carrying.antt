-- What the lines of a script do at nodes, what is said of it, and what happens by it at their nets.
use Rattle.std.specs.Prelude.{◌≡◌, ℕ, ◌+◌, false, nat_eq, List, [], ◌∷◌, ◌++◌, length, map, slice_get, slice_set, Option, None, Some, IfSome, is_some, if◌then◌else◌}
use Rattle.std.specs.List.{list_any}
use Rattle.std.specs.List.Sorted.{IsPermutation, IsNonDecreasing}
use Rattle.address.specs.Ids.{Address}
use Rattle.state_transfer.specs.Meanings.{Meaning}
use Rattle.trace_props.specs.declared.event.Event.TheVariants.{Started, Crashed}
use Rattle.world_model.specs.declared.WorldEvent.{WorldEvent}
use Rattle.world_model.specs.declared.Target.TheVariants.{Member}
use Rattle.world_model.specs.Histories.{target_of}
use Rattle.world_model.specs.declared.WorldEvent.TheVariants as event
use Rattle.vsync_text.specs.declared.udp_script.UdpEvent.TheVariants.{Node, Rounds}
use Rattle.vsync_text.specs.declared.udp_script.UdpLine.{UdpLine}
use Rattle.member.specs.declared.error.Error.{Error}
use Rattle.channel.specs.Channels.{receiver_in}
use Rattle.udp_net.specs.declared.node_ports.NodePort.{NodePort}
use Rattle.udp_net.specs.Logs.{Log, NetEvent, Lists}
use Rattle.udp_member.specs.Turns.{Driven}
use Rattle.udp_member.specs.Rounds.{Rounds as HasRound}
use Rattle.udp_runs.specs.declared.calls.Call.{Call}
use Rattle.udp_runs.specs.declared.process.Process.{Process}
use Rattle.udp_runs.specs.declared.node_state.NodeState.{NodeState}
use Rattle.udp_runs.specs.Answers.{Answered}
use Rattle.udp_runs.specs.Nodes.{AreUnused, CannotStart, IsNext}
use Rattle.udp_runs.specs.Texts.{Line, Happens, Refuses}
use Rattle.udp_runs.specs.Calls.{Asks, MakesCall}

-- ---- at one node

abbrev pub with_process : {N S : Type 0} → NodeState N S → Option (Process N S) → NodeState N S
with_process x q = record { node = x.node; last = x.last; process = q }

-- a process runs on, unless its channel has ended, and shows no receiver
abbrev pub unless_ended : {N S : Type 0} → Address → Driven N S → Option (Process N S)
unless_ended p r = if is_some (receiver_in r.channel.stage) then Some (record { address = p; runner = r }) else None

-- why no member is started where one runs, or where the last incarnation was; and why nothing is done where none runs
abbrev pub why_unstarted : {N S : Type 0} → NodeState N S → ℕ
why_unstarted x = if is_some x.process then 5 else 8

abbrev pub why_absent : Option Address → ℕ
why_absent last = if is_some last then 6 else 1

-- a process starts, or has ended as it started
abbrev pub start_lines : {N S : Type 0} → Address → Option (Process N S) → List Line
start_lines p None = Happens (Started p) ∷ Happens (Crashed p) ∷ []
start_lines p (Some q) = Happens (Started p) ∷ []

-- a turn of a process by a call, and what its net lists more
pub record TurnBy {N S : Type 0} (log : N → Option Log) (failed : N → ℕ) (Made : Driven N S → Option Error → Driven N S → Type 0) (line : ℕ) (x : NodeState N S) (new : NodeState N S)
    (lines : List Line) (nets : List NetEvent) : Type 0 where
  pub process : Process N S
  pub runs : x.process ≡ Some process
  pub last : Driven N S
  pub answered : Answered log failed Made process.address line process.runner last lines
  pub lists : Lists (log process.runner.net) (λ l. l ++ nets) (log last.net)
  pub runs_on : new ≡ with_process x (unless_ended process.address last)

-- AT A NODE: an event of a line that names it, and what it does there
pub data DoesAt {N S : Type 0} (log : N → Option Log) (failed : N → ℕ) (meaning : Meaning S) (group : List ℕ) (line : ℕ) (x : NodeState N S) : WorldEvent → NodeState N S → List Line
    → List NetEvent → Type 0 where
  Starts : (p : Address) (q : Option (Process N S)) → IsNext x p → IfSome q (λ r. r.address ≡ p)
      → DoesAt log failed meaning group line x (event.Start x.node) (record { node = x.node; last = Some p; process = q }) (start_lines p q) []
  Unstarted : CannotStart x → DoesAt log failed meaning group line x (event.Start x.node) x (Refuses line (why_unstarted x) ∷ []) []
  Crashes : (q : Process N S) → x.process ≡ Some q → DoesAt log failed meaning group line x (event.Crash x.node) (with_process x None) (Happens (Crashed q.address) ∷ []) []
  Uncrashed : x.process ≡ None → DoesAt log failed meaning group line x (event.Crash x.node) x (Refuses line (why_absent x.last) ∷ []) []
  Called : (e : WorldEvent) (c : Call) (new : NodeState N S) (lines : List Line) (nets : List NetEvent) → Asks e x.node c
      → TurnBy log failed (MakesCall meaning group c) line x new lines nets → DoesAt log failed meaning group line x e new lines nets
  Uncalled : (e : WorldEvent) (c : Call) → Asks e x.node c → x.process ≡ None → DoesAt log failed meaning group line x e x (Refuses line (why_absent x.last) ∷ []) []

-- a round there: a turn of the process, if one runs
pub data RoundAt {N S : Type 0} (log : N → Option Log) (failed : N → ℕ) (meaning : Meaning S) (x : NodeState N S) : NodeState N S → List Line → List NetEvent → Type 0 where
  Idle : x.process ≡ None → RoundAt log failed meaning x x [] []
  Turns : (new : NodeState N S) (lines : List Line) (nets : List NetEvent) → TurnBy log failed (HasRound log failed meaning) 0 x new lines nets
      → RoundAt log failed meaning x new lines nets

-- ---- at all nodes

-- a round at each of the first so many nodes, one after the other
pub data RoundOf {N S : Type 0} (log : N → Option Log) (failed : N → ℕ) (meaning : Meaning S) (old : List (NodeState N S)) : ℕ → List (NodeState N S) → List Line → List NetEvent
    → Type 0 where
  Begun : RoundOf log failed meaning old 0 old [] []
  Next : (k : ℕ) (states : List (NodeState N S)) (lines : List Line) (nets : List NetEvent) (x new : NodeState N S) (more : List Line) (listed : List NetEvent)
      → RoundOf log failed meaning old k states lines nets → slice_get states k ≡ Some x → RoundAt log failed meaning x new more listed
      → RoundOf log failed meaning old (k + 1) (slice_set states k new) (lines ++ more) (nets ++ listed)

-- so many rounds of all nodes
pub data RoundsOf {N S : Type 0} (log : N → Option Log) (failed : N → ℕ) (meaning : Meaning S) (old : List (NodeState N S)) : ℕ → List (NodeState N S) → List Line → List NetEvent
    → Type 0 where
  None_yet : RoundsOf log failed meaning old 0 old [] []
  More : (n : ℕ) (states new : List (NodeState N S)) (lines more : List Line) (nets listed : List NetEvent) → RoundsOf log failed meaning old n states lines nets
      → RoundOf log failed meaning states (length states) new more listed → RoundsOf log failed meaning old (n + 1) new (lines ++ more) (nets ++ listed)

-- why nothing is done at a node that is not listed
abbrev pub why_unlisted : WorldEvent → ℕ
why_unlisted (event.Start node) = 50
why_unlisted (event.Create node) = 1
why_unlisted (event.Join node contact) = 1
why_unlisted (event.Send node payload) = 1
why_unlisted (event.Deliver k) = 1
why_unlisted (event.Tick node) = 1
why_unlisted (event.Suspect node p) = 1
why_unlisted (event.MergeHint node p) = 1
why_unlisted (event.Leave node) = 1
why_unlisted (event.Crash node) = 1

-- the line of an event
abbrev pub line_of_event : ℕ → WorldEvent → UdpLine
line_of_event line e = record { number = line; event = Node e }

-- A LINE of a script, and what it does: at the node that its event names, or nothing where that is not listed; or rounds of all. A delivery is left to the nets
pub data DoesLine {N S : Type 0} (log : N → Option Log) (failed : N → ℕ) (meaning : Meaning S) (group : List ℕ) (states : List (NodeState N S)) : UdpLine → List (NodeState N S)
    → List Line → List NetEvent → Type 0 where
  At : (line : ℕ) (e : WorldEvent) (k : ℕ) (x new : NodeState N S) (lines : List Line) (nets : List NetEvent) → slice_get states k ≡ Some x
      → DoesAt log failed meaning group line x e new lines nets → DoesLine log failed meaning group states (line_of_event line e) (slice_set states k new) lines nets
  Unlisted : (line node : ℕ) (e : WorldEvent) → target_of e ≡ Member node → list_any (λ x. nat_eq x.node node) states ≡ false
      → DoesLine log failed meaning group states (line_of_event line e) states (Refuses line (why_unlisted e) ∷ []) []
  Passes : (line k : ℕ) → DoesLine log failed meaning group states (line_of_event line (event.Deliver k)) states [] []
  Goes : (line count : ℕ) (new : List (NodeState N S)) (lines : List Line) (nets : List NetEvent) → RoundsOf log failed meaning states count new lines nets
      → DoesLine log failed meaning group states (record { number = line; event = Rounds count }) new lines nets

abbrev pub node_of : {N S : Type 0} → NodeState N S → ℕ
node_of x = x.node

abbrev pub place_of : NodePort → ℕ
place_of place = place.node

-- the nodes are those that settings list, by number
pub record AreListed {N S : Type 0} (listed : List NodePort) (states : List (NodeState N S)) : Type 0 where
  pub all : IsPermutation (map place_of listed) (map node_of states)
  pub by_number : IsNonDecreasing (map node_of states)

-- CARRIED OUT: these lines, one after the other, at the nodes that settings list, where no process was started before
pub data CarriesOut {N S : Type 0} (log : N → Option Log) (failed : N → ℕ) (meaning : Meaning S) (group : List ℕ) (listed : List NodePort) : List UdpLine → List (NodeState N S)
    → List Line → List NetEvent → Type 0 where
  Nothing : (states : List (NodeState N S)) → AreUnused states → AreListed listed states → CarriesOut log failed meaning group listed [] states [] []
  Then : (script : List UdpLine) (line : UdpLine) (states new : List (NodeState N S)) (lines more : List Line) (nets more_nets : List NetEvent)
      → CarriesOut log failed meaning group listed script states lines nets → DoesLine log failed meaning group states line new more more_nets
      → CarriesOut log failed meaning group listed (script ++ line ∷ []) new (lines ++ more) (nets ++ more_nets)
