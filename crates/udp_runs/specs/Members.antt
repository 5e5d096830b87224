-- What a command writes that runs one node over datagrams by itself.
use Rattle.std.specs.Prelude.{◌≡◌, ℕ, Bool, true, false, ◌||◌, List, [], ◌∷◌, ◌++◌, take, Option, None, Some, Result, Ok, Err, OnOk}
use Rattle.std.specs.List.{concat, AllByRecursion}
use Rattle.std.specs.Option.{ForSome}
use Rattle.std.specs.Io.KnownBytes.{Appends}
use Rattle.address.specs.Ids.{Address, ViewId}
use Rattle.state_transfer.specs.Meanings.{Meaning}
use Rattle.trace_props.specs.declared.event.Event.TheVariants as event
use Rattle.vsync_text.specs.TraceText.{line_of}
use Rattle.udp_net.specs.Logs.{Log}
use Rattle.udp_net.specs.declared.error.BindError.{BindError}
use Rattle.udp_net.specs.declared.error.BindError.TheVariants.{Config}
use Rattle.udp_member.specs.Turns.{Driven}
use Rattle.law_processes.specs.Said.{AreSaid}
use Rattle.law_runners.specs.Plays.{crash_of}
use Rattle.channel.specs.Channels.{receiver_in}
use Rattle.law_runners.specs.Runs.{new_channel}
use Rattle.law_runners.specs.Known.{KnowsAmong}
use Rattle.law_runners.specs.Merged.{own_items}
use Rattle.law_runners.specs.Systems.{Gone, IsHistoryOf, with_runner}
use Rattle.vsync_text.specs.declared.status.Status.{Status}
use Rattle.vsync_text.specs.declared.status.Status.TheVariants.{Done, Memory}
use Rattle.vsync_text.specs.Outcomes.{Written, memory_line}
use Rattle.udp_runs.specs.declared.ends.Cut.{Cut}
use Rattle.udp_runs.specs.declared.ends.Cut.TheVariants as cut
use Rattle.udp_runs.specs.Ends.{IsEndText, IsNetlessText}
use Rattle.udp_runs.specs.Machines.{GivesBack}
use Rattle.udp_runs.specs.OwnLines.{OwnLine, InState, IsPlain, IsOwn, texts_of, events_in}
use Rattle.udp_runs.specs.declared.calls.Call.{Call}
use Rattle.udp_runs.specs.declared.manner.NodeManner.{NodeManner}
use Rattle.udp_runs.specs.Telling.{Writes, TellsFirst, BeginsWith, BeginsBy, EndsBy, first_call}

-- the line with which the text of a member begins
abbrev pub started_line : Address → List ℕ
started_line member = line_of (event.Started member)

-- one process runs, with this runner, and no other
abbrev pub only : {N S : Type 0} → Address → Driven N S → Address → Option (Driven N S)
only p r = with_runner p (Some r) (λ q. None)

-- what a plan says of a member: what it calls first, whether it leaves at its end, and whether lines say how many messages are stable
pub record Way : Type 0 where
  pub first : Option Call
  pub leaves : Bool
  pub stable : Bool

abbrev pub way_of : NodeManner → Option Address → Way
way_of manner contact = record { first = first_call manner.finds contact; leaves = manner.leaves; stable = manner.stable }

-- TOLD: what a member does after its start, and tells by lines.
-- It begins with a channel that is new, over a net where nothing happened, by the call of its plan, if it has one. From there it tells first.
-- The lines of what happened stand in order. Between them is the line of its state, and behind that what was told then.
-- Those that `stood` there were written as its net was offered something last, the others as far as they could be.
-- What happened is a history of its one process, as its state is shown and at its end. Only a crash has no line: who has crashed tells nothing more.
-- All lines are of its own member. Each message that it sent may be said in the view in which it was sent.
-- In every order of processes in which its own is one, its channel knew itself as its state was shown, if the nets gave only what was offered before:
-- so that is the state that the trace gives.
pub record IsTold {N S : Type 0} (log : N → Option Log) (failed : N → ℕ) (May : ViewId → List ℕ → Type 0) (meaning : Meaning S) (group : List ℕ) (way : Way) (member : Address) (net : N)
    (lines stood : List (OwnLine S)) : Type 0 where
  pub first : Driven N S
  pub is_new : first.channel ≡ new_channel meaning member
  pub fresh : ForSome (log first.net) (λ l. l ≡ [])
  pub gave : Bool
  pub begun : Driven N S
  pub begins : BeginsBy meaning group first way.first gave begun
  pub front : List (OwnLine S)
  pub back : List (OwnLine S)
  pub plain : AllByRecursion IsPlain front
  pub plain' : AllByRecursion IsPlain back
  pub fell : Bool
  pub fell' : Bool
  pub shown : Driven N S
  pub last : Driven N S
  pub lines_are : lines ≡ front ++ InState member (receiver_in shown.channel.stage) ∷ back
  pub before : List (OwnLine S)
  pub goes : TellsFirst log failed May meaning group way.stable begun front before fell shown
  pub goes' : TellsFirst log failed May meaning group way.stable begun lines stood fell' last
  pub till_shown : IsHistoryOf log meaning group (only member shown) [] (event.Started member ∷ events_in front ++ crash_of member (gave || fell))
  pub till_last : IsHistoryOf log meaning group (only member last) [] (event.Started member ∷ events_in lines ++ crash_of member (gave || fell'))
  pub kept : last.net ≡ net
  pub own : AllByRecursion (IsOwn member) lines
  pub said : AreSaid May (events_in lines)
  pub knows : KnowsAmong meaning group member (own_items member till_shown.all) shown.channel.stage

-- the texts of a node that tells what happens: all of it, and its net is given back; or, where memory was refused, the first lines of such, and `# memory`; there it may have done nothing
pub data IsToldText {N S : Type 0} (log : N → Option Log) (failed : N → ℕ) (May : ViewId → List ℕ → Type 0) (meaning : Meaning S) (line_of_state : Address → S → List ℕ) (group : List ℕ)
    (given given' : Option (List (Gone N))) (way : Way) (member : Address) : Status → List ℕ → Type 0 where
  All : (net : N) (lines stood : List (OwnLine S)) (told : IsTold log failed May meaning group way member net lines stood)
      → EndsBy log failed meaning group way.stable told.shown way.leaves told.back told.last → GivesBack given (record { by = member; net = net } ∷ []) given'
      → IsToldText log failed May meaning line_of_state group given given' way member Done (concat (started_line member ∷ texts_of line_of_state lines))
  Part : (net : N) (lines stood : List (OwnLine S)) (count : ℕ) → IsTold log failed May meaning group way member net lines stood
      → GivesBack given (record { by = member; net = net } ∷ []) given'
      → IsToldText log failed May meaning line_of_state group given given' way member Memory (concat (take count (started_line member ∷ texts_of line_of_state lines)) ++ memory_line)
  Unmade : (count : ℕ) → GivesBack given [] given'
      → IsToldText log failed May meaning line_of_state group given given' way member Memory (concat (take count (started_line member ∷ [])) ++ memory_line)

-- the texts of a node that the settings list: that it has no net; or what it tells; or what is said, of which nothing is known but how it begins, and then its end
pub data IsListedText {N S : Type 0} (log : N → Option Log) (failed : N → ℕ) (May : ViewId → List ℕ → Type 0) (meaning : Meaning S) (line_of_state : Address → S → List ℕ) (group : List ℕ)
    (given given' : Option (List (Gone N))) (speaks : Bool) (way : Way) (member : Address) : Status → List ℕ → Type 0 where
  Netless : (error : BindError) (status : Status) (text : List ℕ) → IsNetlessText 0 error status text
      → IsListedText log failed May meaning line_of_state group given given' speaks way member status text
  Told : (status : Status) (text : List ℕ) → speaks ≡ false → IsToldText log failed May meaning line_of_state group given given' way member status text
      → IsListedText log failed May meaning line_of_state group given given' speaks way member status text
  Said : (said : List ℕ) (status : Status) (text : List ℕ) → speaks ≡ true → IsEndText status text
      → IsListedText log failed May meaning line_of_state group given given' speaks way member status (started_line member ++ said ++ text)

-- the texts of a node that runs by itself, by its port; the settings may list none
abbrev pub IsMemberText : {N S : Type 0} → (N → Option Log) → (N → ℕ) → (ViewId → List ℕ → Type 0) → Meaning S → (Address → S → List ℕ) → List ℕ → Option (List (Gone N)) → Option (List (Gone N)) → Bool → Way
    → Address → Option ℕ → Status → List ℕ → Type 0
IsMemberText log failed May meaning line_of_state group given given' speaks way member None = IsNetlessText 0 Config
IsMemberText log failed May meaning line_of_state group given given' speaks way member (Some port) =
    IsListedText log failed May meaning line_of_state group given given' speaks way member

-- a node runs by itself over a net of a machine, and writes to a writer
abbrev pub RunsMember : {N S : Type 0} → (N → Option Log) → (N → ℕ) → (ViewId → List ℕ → Type 0) → Meaning S → (Address → S → List ℕ) → List ℕ → Option (List (Gone N)) → Option (List (Gone N)) → Bool → Way
    → Address → Option ℕ → Option (List ℕ) → Option (List ℕ) → Status → Type 0
RunsMember log failed May meaning line_of_state group given given' speaks way member port old new status =
    Written (IsMemberText log failed May meaning line_of_state group given given' speaks way member port) old new status

-- WRITTEN FIRST, however it ends: what was written begins with the lines that stood there when its net was offered something last, and that net is given back; or it did nothing
pub data WritesFirst {N S : Type 0} (log : N → Option Log) (failed : N → ℕ) (May : ViewId → List ℕ → Type 0) (meaning : Meaning S) (line_of_state : Address → S → List ℕ) (group : List ℕ)
    (given given' : Option (List (Gone N))) (way : Way) (member : Address) (old new : Option (List ℕ)) : Type 0 where
  Unbegun : GivesBack given [] given' → WritesFirst log failed May meaning line_of_state group given given' way member old new
  Begun : (net : N) (lines stood : List (OwnLine S)) → IsTold log failed May meaning group way member net lines stood → GivesBack given (record { by = member; net = net } ∷ []) given'
      → BeginsWith (started_line member ∷ texts_of line_of_state stood) old new → WritesFirst log failed May meaning line_of_state group given given' way member old new

-- ---- its parts

-- the line is written with which its text begins
abbrev pub WritesStart : Address → Option (List ℕ) → Option (List ℕ) → Result Unit Cut → Type 0
WritesStart member old new (Ok done) = Appends old new (started_line member)
WritesStart member old new (Err cut.Memory) = Appends old new []
WritesStart member old new (Err cut.Failed) = (count : ℕ) × Appends old new (take count (started_line member))

-- a member goes on, and what it tells is written, or a beginning of it; its net is given back
pub record RunsOn {N S : Type 0} (log : N → Option Log) (failed : N → ℕ) (May : ViewId → List ℕ → Type 0) (meaning : Meaning S) (line_of_state : Address → S → List ℕ) (group : List ℕ)
    (given given' : Option (List (Gone N))) (speaks : Bool) (way : Way) (member : Address) (front : List (List ℕ)) (old new : Option (List ℕ)) (result : Result Unit Cut) : Type 0 where
  pub net : N
  pub lines : List (OwnLine S)
  pub stood : List (OwnLine S)
  pub told : IsTold log failed May meaning group way member net lines stood
  pub writes : Writes speaks (front ++ texts_of line_of_state lines) old new result
  pub ends : OnOk result (EndsBy log failed meaning group way.stable told.shown way.leaves told.back told.last)
  pub gives : GivesBack given (record { by = member; net = net } ∷ []) given'
  pub first : speaks ≡ false → BeginsWith (front ++ texts_of line_of_state stood) old new

-- a member with a net is started, and goes on; what it tells is written behind the line of its start, if that was
pub data StartsTelling {N S : Type 0} (log : N → Option Log) (failed : N → ℕ) (May : ViewId → List ℕ → Type 0) (meaning : Meaning S) (line_of_state : Address → S → List ℕ) (group : List ℕ)
    (given given' : Option (List (Gone N))) (way : Way) (member : Address) (old new : Option (List ℕ)) : Result Unit Cut → Type 0 where
  Unstarted : (why : Cut) → GivesBack given [] given' → WritesStart member old new (Err why) → StartsTelling log failed May meaning line_of_state group given given' way member old new (Err why)
  Lacks : GivesBack given [] given' → Appends old new (started_line member) → StartsTelling log failed May meaning line_of_state group given given' way member old new (Err cut.Memory)
  Started : (result : Result Unit Cut) → RunsOn log failed May meaning line_of_state group given given' false way member (started_line member ∷ []) old new result
      → StartsTelling log failed May meaning line_of_state group given given' way member old new result

-- the same of one that tells what is said
pub data StartsSaying (member : Address) (old new : Option (List ℕ)) : Result Unit Cut → Type 0 where
  Unstarted : Appends old new [] → StartsSaying member old new (Err cut.Memory)
  Unwritten : (count : ℕ) → Appends old new (take count (started_line member)) → StartsSaying member old new (Err cut.Failed)
  Goes : (said : List ℕ) (written : Result Unit Cut) → Appends old new (started_line member ++ said) → StartsSaying member old new written

abbrev pub StartsUp : {N S : Type 0} → (N → Option Log) → (N → ℕ) → (ViewId → List ℕ → Type 0) → Meaning S → (Address → S → List ℕ) → List ℕ → Option (List (Gone N)) → Option (List (Gone N)) → Bool → Way
    → Address → Option (List ℕ) → Option (List ℕ) → Result Unit Cut → Type 0
StartsUp log failed May meaning line_of_state group given given' true way member old new result = StartsSaying member old new result
StartsUp log failed May meaning line_of_state group given given' false way member old new result =
    StartsTelling log failed May meaning line_of_state group given given' way member old new result
