-- Nodes of one machine, and the processes that run there.
use Rattle.std.specs.Prelude.{◌≡◌, ◌⊎◌, ℕ, ◌+◌, ◌^◌, ◌<◌, ◌≤◌, true, false, List, ◌++◌, slice_get, slice_set, filter_map, Option, None, Some, IfSome, is_some, Result}
use Rattle.std.specs.Option.{IsSomeAnd}
use Rattle.address.specs.Ids.{Address, IsAddress}
use Rattle.state_transfer.specs.Meanings.{Meaning}
use Rattle.trace_props.specs.Observed.{has_started}
use Rattle.udp_net.specs.Logs.{Log, NetEvent}
use Rattle.udp_member.specs.Turns.{Driven}
use Rattle.law_runners.specs.Systems.{Gone, Played, PlayedOver, PlayedTellNoStart, has_ended}
use Rattle.udp_runs.specs.declared.process.Process.{Process}
use Rattle.udp_runs.specs.declared.node_state.NodeState.{NodeState}
use Rattle.udp_runs.specs.Texts.{Line, events_in, Appended}
use Rattle.udp_runs.specs.Machines.{GivesBack}

-- no node before this one is that of the number
abbrev pub IsFirst : {N S : Type 0} → ℕ → ℕ → List (NodeState N S) → Type 0
IsFirst {N} {S} node k states = (j : ℕ) (y : NodeState N S) → j < k → slice_get states j ≡ Some y → y.node ≡ node → ⊥

-- what happened by the processes of some nodes, as lines say: each that runs is where it was started last, no address was started twice, and there are no others
pub record Plays {N S : Type 0} (log : N → Option Log) (failed : N → ℕ) (meaning : Meaning S) (group : List ℕ) (states : List (NodeState N S)) (gone : List (Gone N))
    (lines : List Line) (nets : List NetEvent) : Type 0 where
  pub law : PlayedTellNoStart log failed meaning
  pub at : Address → Option (Driven N S)
  pub played : PlayedOver log failed meaning group at gone (events_in lines) nets
  pub runs : (k : ℕ) (x : NodeState N S) (q : Process N S) → slice_get states k ≡ Some x → x.process ≡ Some q
      → (x.last ≡ Some q.address) × (at q.address ≡ Some q.runner) × (has_ended q.runner.channel.stage ≡ false)
  pub last : (k : ℕ) (x : NodeState N S) (p : Address) → slice_get states k ≡ Some x → x.last ≡ Some p → (p.node ≡ x.node) × IsFirst x.node k states
  pub fresh : (p : Address) → has_started p (events_in lines) ≡ true
      → (k : ℕ) × (x : NodeState N S) × (q : Address) × (slice_get states k ≡ Some x) × (x.last ≡ Some q) × (p.node ≡ q.node) × (p.incarnation ≤ q.incarnation)
  pub there : (p : Address) (r : Driven N S) → at p ≡ Some r
      → (k : ℕ) × (x : NodeState N S) × (slice_get states k ≡ Some x) × (x.process ≡ Some (record { address = p; runner = r }))

-- they go on, and so do the lines of what happens behind a text, as is said of these and of what happened at the nets by them; nets are given back to the machine. Where memory was
-- refused, the text has the first of such lines
abbrev pub GoesOn : {N S A E : Type 0} → (N → Option Log) → (N → ℕ) → Meaning S → List ℕ → (List Line → List NetEvent → Type 0) → List (NodeState N S) → List (NodeState N S)
    → Option (List (Gone N)) → Option (List (Gone N)) → List ℕ → List ℕ → Result A E → Type 0
GoesOn {N} {S} log failed meaning group Does old new given given' text text' result =
    (gone : List (Gone N)) (lines : List Line) (nets : List NetEvent) → Plays log failed meaning group old gone lines nets
    → Appended (λ more. (back : List (Gone N)) × (listed : List NetEvent) × GivesBack given back given' × Does more listed
    × Plays log failed meaning group new (gone ++ back) (lines ++ more) (nets ++ listed))
    (λ more. (at : Address → Option (Driven N S)) × (all : List (Gone N)) × Played log failed meaning group at all (events_in (lines ++ more))) text text' result

-- the same of one node among them
abbrev pub GoesOnAt : {N S A E : Type 0} → (N → Option Log) → (N → ℕ) → Meaning S → List ℕ → (List Line → List NetEvent → Type 0) → NodeState N S → NodeState N S
    → Option (List (Gone N)) → Option (List (Gone N)) → List ℕ → List ℕ → Result A E → Type 0
GoesOnAt {N} {S} log failed meaning group Does old new given given' text text' result =
    (states : List (NodeState N S)) (k : ℕ) → slice_get states k ≡ Some old → GoesOn log failed meaning group Does states (slice_set states k new) given given' text text' result

-- the address at which a node starts a process next, where none runs there: its first incarnation, or the one after that which was started there last
pub record IsNext {N S : Type 0} (x : NodeState N S) (p : Address) : Type 0 where
  pub free : x.process ≡ None
  pub real : IsAddress p
  pub first : x.last ≡ None → p ≡ record { node = x.node; incarnation = 1 }
  pub next : IfSome x.last (λ q. p ≡ record { node = q.node; incarnation = q.incarnation + 1 })

-- none can be started there: one runs, or the last incarnation was started
abbrev pub CannotStart : {N S : Type 0} → NodeState N S → Type 0
CannotStart x = (is_some x.process ≡ true) ⊎ IsSomeAnd x.last (λ q. 2 ^ 32 ≤ q.incarnation + 1)

-- no process was started at any of them
abbrev pub AreUnused : {N S : Type 0} → List (NodeState N S) → Type 0
AreUnused {N} {S} states = (k : ℕ) (x : NodeState N S) → slice_get states k ≡ Some x → (x.last ≡ None) × (x.process ≡ None)

-- the processes that run, by node
abbrev pub processes_in : {N S : Type 0} → List (NodeState N S) → List (Process N S)
processes_in states = filter_map (λ x. x.process) states
