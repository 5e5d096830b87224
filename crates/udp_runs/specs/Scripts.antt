-- What a command writes that runs nodes over datagrams by a script.
use Rattle.std.specs.Prelude.{◌≡◌, ℕ, List, ◌++◌, map, take, slice_get, Option, Some, Ok, Err, IfSome, [], ◌∷◌}
use Rattle.std.specs.List.{concat}
use Rattle.std.specs.Io.KnownBytes.{Appends}
use Rattle.address.specs.Ids.{Address}
use Rattle.state_transfer.specs.Meanings.{Meaning}
use Rattle.world_model.specs.declared.WorldEvent.TheVariants.{Start}
use Rattle.vsync_text.specs.declared.fault.Fault.{Fault}
use Rattle.vsync_text.specs.declared.udp_script.UdpLine.{UdpLine}
use Rattle.vsync_text.specs.Script.{fault_number}
use Rattle.vsync_text.specs.UdpScript.{udp_script_of}
use Rattle.udp_net.specs.declared.node_ports.NodePort.{NodePort}
use Rattle.udp_net.specs.Logs.{Log, NetEvent}
use Rattle.udp_net.specs.declared.error.BindError.{BindError}
use Rattle.udp_member.specs.Turns.{Driven}
use Rattle.law_runners.specs.Systems.{Gone, IsHistoryOf, IsSeen}
use Rattle.vsync_text.specs.declared.status.Status.{Status}
use Rattle.vsync_text.specs.declared.status.Status.TheVariants.{Done, Memory}
use Rattle.vsync_text.specs.Outcomes.{IsFaultText, IsAnswer, memory_line}
use Rattle.udp_runs.specs.declared.ends.Stop.{Stop}
use Rattle.udp_runs.specs.declared.ends.Stop.TheVariants.{Cut, NoNet}
use Rattle.udp_runs.specs.declared.process.Process.{Process}
use Rattle.udp_runs.specs.declared.node_state.NodeState.{NodeState}
use Rattle.udp_runs.specs.Carrying.{CarriesOut, line_of_event}
use Rattle.udp_runs.specs.Ends.{IsNetlessText}
use Rattle.udp_runs.specs.Machines.{GivesBack}
use Rattle.udp_runs.specs.Nodes.{processes_in}
use Rattle.udp_runs.specs.Texts.{Line, texts_of, events_in}
use Rattle.udp_runs.specs.Processes.{net_of, state_text}

-- the line that starts a node
abbrev pub start_line : ℕ → ℕ → UdpLine
start_line number node = line_of_event number (Start node)

-- RUN of a script: its lines were carried out, one after the other; the processes that there are at the end, each with its runner; and what happened, as the lines say that were
-- written, is a history of processes, seen in the order of the script's lines and, in rounds, of the nodes
pub record HasRun {N S : Type 0} (log : N → Option Log) (failed : N → ℕ) (meaning : Meaning S) (group : List ℕ) (listed : List NodePort) (script : List UdpLine)
    (processes : List (Process N S)) (gone : List (Gone N)) (lines : List Line) : Type 0 where
  pub states : List (NodeState N S)
  pub nets : List NetEvent
  pub carried : CarriesOut log failed meaning group listed script states lines nets
  pub running : processes_in states ≡ processes
  pub at : Address → Option (Driven N S)
  pub seen : IsSeen log meaning group at gone (events_in lines) nets
  pub each : (k : ℕ) (q : Process N S) → slice_get processes k ≡ Some q → at q.address ≡ Some q.runner
  pub all : (p : Address) (r : Driven N S) → at p ≡ Some r → (k : ℕ) × (slice_get processes k ≡ Some (record { address = p; runner = r }))

-- the lines of what happened, and then those of the states
abbrev pub texts_with : {N S : Type 0} → (Address → S → List ℕ) → List Line → List (Process N S) → List (List ℕ)
texts_with line_of lines processes = texts_of lines ++ map (state_text line_of) processes

-- what was written of a run before it is cut short: lines of what happened; or these and some of the states
pub data IsBegun {N S : Type 0} (log : N → Option Log) (failed : N → ℕ) (meaning : Meaning S) (line_of : Address → S → List ℕ) (group : List ℕ) (listed : List NodePort)
    (script : List UdpLine) : List ℕ → Type 0 where
  InLines : (at : Address → Option (Driven N S)) (gone : List (Gone N)) (lines : List Line) (count : ℕ) → IsHistoryOf log meaning group at gone (events_in lines)
      → IsBegun log failed meaning line_of group listed script (concat (take count (texts_of lines)))
  InStates : (processes : List (Process N S)) (gone : List (Gone N)) (lines : List Line) (count : ℕ) → HasRun log failed meaning group listed script processes gone lines
      → IsBegun log failed meaning line_of group listed script (concat (take count (texts_with line_of lines processes)))

-- the texts of a run of a script's lines. What happened is written line by line, with what was refused, and then the states; and the nets are given back. Or a beginning of that is,
-- and `# memory`; or it stops at a line that starts a node, which has no net: those before it were carried out, and all nets are given back
pub data IsRunText {N S : Type 0} (log : N → Option Log) (failed : N → ℕ) (meaning : Meaning S) (line_of : Address → S → List ℕ) (group : List ℕ) (listed : List NodePort)
    (given given' : Option (List (Gone N))) (script : List UdpLine) : Status → List ℕ → Type 0 where
  Goes : (processes : List (Process N S)) (gone : List (Gone N)) (lines : List Line) → HasRun log failed meaning group listed script processes gone lines
      → GivesBack given (gone ++ map net_of processes) given'
      → IsRunText log failed meaning line_of group listed given given' script Done (concat (texts_with line_of lines processes))
  Lacks : (begun : List ℕ) → IsBegun log failed meaning line_of group listed script begun
      → IsRunText log failed meaning line_of group listed given given' script Memory (begun ++ memory_line)
  Stops : (before rest : List UdpLine) (processes : List (Process N S)) (gone : List (Gone N)) (lines : List Line) (number node : ℕ) (error : BindError) (status : Status)
      (text : List ℕ) → script ≡ before ++ start_line number node ∷ rest → HasRun log failed meaning group listed before processes gone lines
      → GivesBack given (gone ++ map net_of processes) given' → IsNetlessText number error status text
      → IsRunText log failed meaning line_of group listed given given' script status (concat (texts_of lines) ++ text)

-- the texts of a script's bytes that is not run: its first fault; or `# memory`, before it is read whole
pub data IsUnreadText (bytes : List ℕ) : Status → List ℕ → Type 0 where
  Faulty : (line : ℕ) (fault : Fault) (status : Status) (text : List ℕ) → udp_script_of bytes ≡ Err (record { line = line; fault = fault })
      → IsFaultText line (fault_number fault) status text → IsUnreadText bytes status text
  Unread : IsUnreadText bytes Memory memory_line

-- the texts of a script's bytes: of its run, or why it is not run
pub data IsScriptText {N S : Type 0} (log : N → Option Log) (failed : N → ℕ) (meaning : Meaning S) (line_of : Address → S → List ℕ) (group : List ℕ) (listed : List NodePort)
    (given given' : Option (List (Gone N))) (bytes : List ℕ) : Status → List ℕ → Type 0 where
  Runs : (script : List UdpLine) (status : Status) (text : List ℕ) → udp_script_of bytes ≡ Ok script → IsRunText log failed meaning line_of group listed given given' script status text
      → IsScriptText log failed meaning line_of group listed given given' bytes status text
  Unrun : (status : Status) (text : List ℕ) → IsUnreadText bytes status text → IsScriptText log failed meaning line_of group listed given given' bytes status text

-- a script is run over the nets of a machine, from a reader to a writer
abbrev pub RunsUdp : {N S : Type 0} → (N → Option Log) → (N → ℕ) → Meaning S → (Address → S → List ℕ) → List ℕ → List NodePort → Option (List (Gone N)) → Option (List (Gone N))
    → Option (List ℕ) → Option (List ℕ) → Option (List ℕ) → Status → Type 0
RunsUdp log failed meaning line_of group listed given given' left old new status =
    IsAnswer (IsScriptText log failed meaning line_of group listed given given') left old new status

-- ---- its parts

-- these lines of a script were read from a reader, and nothing was written yet
abbrev pub ReadsLines : Option (List ℕ) → Option (List ℕ) → Option (List ℕ) → List UdpLine → Type 0
ReadsLines left old new lines = (bytes : List ℕ) × IfSome left (λ all. bytes ≡ all) × (udp_script_of bytes ≡ Ok lines) × Appends old new []

-- why a line stops a script: it starts a node that has no net
abbrev pub StopsAt : UdpLine → Stop → Type 0
StopsAt line (Cut why) = Unit
StopsAt line (NoNet number error) = (node : ℕ) × (line ≡ start_line number node)

-- it stops there for want of a net
abbrev pub IsNoNet : Stop → Type 0
IsNoNet (Cut why) = ⊥
IsNoNet (NoNet number error) = Unit
