-- What the lines of a script do, and what is written by it.
use Rattle.std.specs.Prelude.{◌≡◌, ℕ, List, [], ◌∷◌, ◌++◌, map, take, Option, Result, Ok, Err}
use Rattle.std.specs.List.{concat}
use Rattle.std.specs.Io.KnownBytes.{Appends}
use Rattle.address.specs.Ids.{Address}
use Rattle.state_transfer.specs.Meanings.{Meaning}
use Rattle.vsync_text.specs.declared.udp_script.UdpLine.{UdpLine}
use Rattle.udp_net.specs.declared.node_ports.NodePort.{NodePort}
use Rattle.udp_net.specs.Logs.{Log, NetEvent}
use Rattle.udp_member.specs.Turns.{Driven}
use Rattle.law_runners.specs.Systems.{Gone, Played}
use Rattle.udp_runs.specs.declared.ends.Cut.{Cut as Why}
use Rattle.udp_runs.specs.declared.ends.Cut.TheVariants as cut
use Rattle.udp_runs.specs.declared.ends.Stop.{Stop}
use Rattle.udp_runs.specs.declared.ends.Stop.TheVariants.{Cut, NoNet}
use Rattle.udp_runs.specs.declared.process.Process.{Process}
use Rattle.udp_runs.specs.declared.node_state.NodeState.{NodeState}
use Rattle.udp_runs.specs.Carrying.{DoesLine}
use Rattle.udp_runs.specs.Machines.{GivesBack}
use Rattle.udp_runs.specs.Nodes.{Plays}
use Rattle.udp_runs.specs.Scripts.{HasRun, IsBegun, start_line, texts_with}
use Rattle.udp_runs.specs.Processes.{net_of}
use Rattle.udp_runs.specs.Texts.{Line, texts_of, events_in}

-- a run of lines, and what is written by it: all, and the nets are given back; or why it is cut short, and a beginning
abbrev pub RunsLines : {N S : Type 0} → (N → Option Log) → (N → ℕ) → Meaning S → (Address → S → List ℕ) → List ℕ → List NodePort → Option (List (Gone N)) → Option (List (Gone N))
    → List UdpLine → Option (List ℕ) → Option (List ℕ) → Result Unit Stop → Type 0
RunsLines {N} {S} log failed meaning line_of group listed given given' script old new (Ok done) =
    (processes : List (Process N S)) × (gone : List (Gone N)) × (lines : List Line) × HasRun log failed meaning group listed script processes gone lines
    × GivesBack given (gone ++ map net_of processes) given' × Appends old new (concat (texts_with line_of lines processes))
RunsLines log failed meaning line_of group listed given given' script old new (Err (Cut cut.Memory)) =
    (text : List ℕ) × IsBegun log failed meaning line_of group listed script text × Appends old new text
RunsLines log failed meaning line_of group listed given given' script old new (Err (Cut cut.Failed)) =
    (text : List ℕ) × IsBegun log failed meaning line_of group listed script text × ((count : ℕ) × Appends old new (take count text))
RunsLines {N} {S} log failed meaning line_of group listed given given' script old new (Err (NoNet number error)) =
    (before rest : List UdpLine) × (node : ℕ) × (processes : List (Process N S)) × (gone : List (Gone N)) × (lines : List Line) × (script ≡ before ++ start_line number node ∷ rest)
    × HasRun log failed meaning group listed before processes gone lines × GivesBack given (gone ++ map net_of processes) given' × Appends old new (concat (texts_of lines))

-- what a line does, where none waits to be written: what happened by the processes is written, and they go on; or a beginning of it, and they went on; or nothing
abbrev pub GoesOnBy : {N S : Type 0} → (N → Option Log) → (N → ℕ) → Meaning S → List ℕ → UdpLine → List (NodeState N S) → List (NodeState N S) → Option (List (Gone N))
    → Option (List (Gone N)) → List ℕ → Option (List ℕ) → Option (List ℕ) → List (Gone N) → List Line → List NetEvent → Result Unit Stop → Type 0
GoesOnBy {N} {S} log failed meaning group line nodes nodes' given given' text' old new gone lines nets (Ok done) =
    (more : List Line) × (back : List (Gone N)) × (listed : List NetEvent) × GivesBack given back given' × DoesLine log failed meaning group nodes line nodes' more listed
    × Plays log failed meaning group nodes' (gone ++ back) (lines ++ more) (nets ++ listed) × Appends old new (concat (texts_of more)) × (text' ≡ [])
GoesOnBy {N} {S} log failed meaning group line nodes nodes' given given' text' old new gone lines nets (Err (Cut cut.Memory)) =
    (more : List Line) × (at : Address → Option (Driven N S)) × (all : List (Gone N)) × Played log failed meaning group at all (events_in (lines ++ more))
    × ((count : ℕ) × Appends old new (concat (take count (texts_of more))))
GoesOnBy {N} {S} log failed meaning group line nodes nodes' given given' text' old new gone lines nets (Err (Cut cut.Failed)) =
    (more : List Line) × (at : Address → Option (Driven N S)) × (all : List (Gone N)) × Played log failed meaning group at all (events_in (lines ++ more))
    × ((count : ℕ) × (bytes : ℕ) × Appends old new (take bytes (concat (take count (texts_of more)))))
GoesOnBy log failed meaning group line nodes nodes' given given' text' old new gone lines nets (Err (NoNet number error)) =
    Appends old new [] × (nodes' ≡ nodes) × (given' ≡ given)

-- states are written: all of them, or a beginning
abbrev pub WritesStates : List (List ℕ) → Option (List ℕ) → Option (List ℕ) → Result Unit Why → Type 0
WritesStates texts old new (Ok done) = Appends old new (concat texts)
WritesStates texts old new (Err cut.Memory) = (count : ℕ) × Appends old new (concat (take count texts))
WritesStates texts old new (Err cut.Failed) = (count : ℕ) × (bytes : ℕ) × Appends old new (take bytes (concat (take count texts)))
