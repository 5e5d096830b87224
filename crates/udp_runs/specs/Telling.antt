-- What a node that runs by itself does, and what it tells of it.
use Rattle.std.specs.Prelude.{◌≡◌, ℕ, Bool, true, false, ◌||◌, List, [], ◌∷◌, ◌++◌, map, take, Option, None, Some, Result, Ok, Err, IsOk, IsErr, OnOk}
use Rattle.std.specs.List.{concat, AllByRecursion}
use Rattle.std.specs.Io.KnownBytes.{Appends}
use Rattle.address.specs.Ids.{Address, ViewId}
use Rattle.state_transfer.specs.Meanings.{Meaning}
use Rattle.trace_props.specs.declared.event.Event.{Event}
use Rattle.member.specs.declared.error.Error.{Error}
use Rattle.udp_net.specs.Logs.{Log, Lists}
use Rattle.udp_member.specs.Offers.{Offers}
use Rattle.udp_member.specs.Turns.{Driven}
use Rattle.channel.specs.Channels.{ChannelModel, receiver_in}
use Rattle.law_runners.specs.Plays.{falls}
use Rattle.law_runners.specs.Runs.{DrivesWithoutOffer}
use Rattle.udp_runs.specs.declared.calls.Call.{Call}
use Rattle.udp_runs.specs.declared.calls.Call.TheVariants as call
use Rattle.udp_runs.specs.Calls.{MakesCall}
use Rattle.udp_runs.specs.declared.ends.Cut.{Cut as Why}
use Rattle.udp_runs.specs.declared.ends.Cut.TheVariants as cut
use Rattle.udp_runs.specs.Ends.{TakesMore}
use Rattle.udp_runs.specs.Processes.{all_told}
use Rattle.udp_runs.specs.declared.telling.Voice.{Voice}
use Rattle.udp_runs.specs.OwnLines.{OwnLine, Happened, InState, IsPlain, Says, texts_of}

-- ---- what is written

-- texts are written, all of them; where it speaks, anything
abbrev pub Shows : Bool → List (List ℕ) → Option (List ℕ) → Option (List ℕ) → Type 0
Shows true texts old new = TakesMore old new
Shows false texts old new = Appends old new (concat texts)

-- a beginning of them, by why they are written no further: whole texts where memory was refused
abbrev pub ShowsBegun : Bool → List (List ℕ) → Option (List ℕ) → Option (List ℕ) → Why → Type 0
ShowsBegun true texts old new why = TakesMore old new
ShowsBegun false texts old new cut.Memory = (count : ℕ) × Appends old new (concat (take count texts))
ShowsBegun false texts old new cut.Failed = (count : ℕ) × (bytes : ℕ) × Appends old new (take bytes (concat (take count texts)))

abbrev pub Writes : Bool → List (List ℕ) → Option (List ℕ) → Option (List ℕ) → Result Unit Why → Type 0
Writes speaks texts old new (Ok done) = Shows speaks texts old new
Writes speaks texts old new (Err why) = ShowsBegun speaks texts old new why

-- a text is written that was appended whole, or of which a beginning was for want of memory
abbrev pub Shown : {A E : Type 0} → List ℕ → Result A E → Option (List ℕ) → Option (List ℕ) → Result Unit Why → Type 0
Shown text appended old new (Ok done) = IsOk appended × Appends old new text
Shown text appended old new (Err cut.Memory) = IsErr appended × Appends old new text
Shown text appended old new (Err cut.Failed) = (count : ℕ) × Appends old new (take count text)

-- ---- what is done

-- calls of a runner that offer nothing, and by which nothing is told yet
abbrev pub Quietly : {N S : Type 0} → (N → Option Log) → (N → ℕ) → (ViewId → List ℕ → Type 0) → Meaning S → List ℕ → Driven N S → Driven N S → Type 0
Quietly log failed May meaning group old new = (fell : Bool) × DrivesWithoutOffer log failed May meaning group old [] fell new

-- a wait, or nothing
abbrev pub Waits : {N S : Type 0} → (N → Option Log) → Driven N S → Driven N S → Type 0
Waits log old new = Lists (log old.net) (λ l. l) (log new.net) × (new ≡ record old { net = new.net })

-- FIRST: what a runner does, the lines that tell of it so far, and those that stood there when it offered last. It makes calls that offer nothing, there is a line for each event that
-- is told by them, and none is left to be told; a line says what its channel knows; or what waits is offered, where none is left to be told.
pub data TellsFirst {N S : Type 0} (log : N → Option Log) (failed : N → ℕ) (May : ViewId → List ℕ → Type 0) (meaning : Meaning S) (group : List ℕ) (stable : Bool) (first : Driven N S)
    : List (OwnLine S) → List (OwnLine S) → Bool → Driven N S → Type 0 where
  Begins : TellsFirst log failed May meaning group stable first [] [] false first
  TellsAll : (lines stood : List (OwnLine S)) (fell : Bool) (mid : Driven N S) (taken : List Event) (fell' : Bool) (new : Driven N S)
      → TellsFirst log failed May meaning group stable first lines stood fell mid → DrivesWithoutOffer log failed May meaning group mid taken fell' new → new.channel.happened ≡ []
      → TellsFirst log failed May meaning group stable first (lines ++ map Happened taken) stood (fell || fell') new
  AddsLine : (lines stood : List (OwnLine S)) (fell : Bool) (new : Driven N S) (line : OwnLine S) → TellsFirst log failed May meaning group stable first lines stood fell new
      → new.channel.happened ≡ [] → Says stable new.channel line → TellsFirst log failed May meaning group stable first (lines ++ line ∷ []) stood fell new
  OffersAll : (lines stood : List (OwnLine S)) (fell : Bool) (mid new : Driven N S) → TellsFirst log failed May meaning group stable first lines stood fell mid → mid.channel.happened ≡ []
      → Offers log failed mid.net mid.channel new.net new.channel → TellsFirst log failed May meaning group stable first lines lines fell new

-- ---- what is done and written

-- what a writer took begins with these texts
abbrev pub BeginsWith : List (List ℕ) → Option (List ℕ) → Option (List ℕ) → Type 0
BeginsWith texts old new = (rest : List ℕ) × Appends old new (concat texts ++ rest)

-- what is told of a channel: a line for each event that waits, and then lines that say what it knows
abbrev pub IsTurn : {S : Type 0} → Bool → ChannelModel S → List (OwnLine S) → Type 0
IsTurn {S} stable channel lines = (said : List (OwnLine S)) × AllByRecursion (Says stable channel) said × AllByRecursion IsPlain said × (lines ≡ map Happened channel.happened ++ said)

-- behind a text stands what is told of a channel; or the first of it, where memory was refused
abbrev pub AppendsTurn : {S A E : Type 0} → (Address → S → List ℕ) → Bool → ChannelModel S → List ℕ → List ℕ → Result A E → Type 0
AppendsTurn {S} line_of_state stable channel text text' (Ok done) =
    (lines : List (OwnLine S)) × IsTurn stable channel lines × (text' ≡ text ++ concat (texts_of line_of_state lines))
AppendsTurn {S} line_of_state stable channel text text' (Err refused) =
    (lines : List (OwnLine S)) × IsTurn stable channel lines × ((count : ℕ) × (text' ≡ text ++ concat (take count (texts_of line_of_state lines))))

-- behind a text stand lines that say what a channel knows, none of which shows its state
abbrev pub AppendsSaid : {S : Type 0} → (Address → S → List ℕ) → Bool → ChannelModel S → List ℕ → List ℕ → Type 0
AppendsSaid {S} line_of_state stable channel text text' =
    (said : List (OwnLine S)) × AllByRecursion (Says stable channel) said × AllByRecursion IsPlain said × (text' ≡ text ++ concat (texts_of line_of_state said))

-- what is told of a channel is written, or a beginning of it
abbrev pub WritesTurn : {S : Type 0} → (Address → S → List ℕ) → Voice → ChannelModel S → Option (List ℕ) → Option (List ℕ) → Result Unit Why → Type 0
WritesTurn {S} line_of_state voice channel writer writer' result =
    (lines : List (OwnLine S)) × IsTurn voice.stable channel lines × Writes voice.speaks (texts_of line_of_state lines) writer writer' result

-- where all was written, all is told, and what waits is offered; else nothing is offered
abbrev pub ThenOffers : {N S : Type 0} → (N → Option Log) → (N → ℕ) → Driven N S → Driven N S → Result Unit Why → Type 0
ThenOffers log failed old new (Ok done) = Offers log failed old.net (all_told old.channel) new.net new.channel
ThenOffers log failed old new (Err why) = new.net ≡ old.net

-- TOLD: what a runner does is told first, by these lines, and their texts are written, or a beginning: those at least that stood there when it offered last
pub record Tells {N S : Type 0} (log : N → Option Log) (failed : N → ℕ) (May : ViewId → List ℕ → Type 0) (meaning : Meaning S) (line_of_state : Address → S → List ℕ) (group : List ℕ) (voice : Voice)
    (lines : List (OwnLine S)) (old new : Driven N S) (writer writer' : Option (List ℕ)) (result : Result Unit Why) : Type 0 where
  pub stood : List (OwnLine S)
  pub fell : Bool
  pub last : Driven N S
  pub first : TellsFirst log failed May meaning group voice.stable old lines stood fell last
  pub told : last.channel.happened ≡ []
  pub writes : Writes voice.speaks (texts_of line_of_state lines) writer writer' result
  pub least : voice.speaks ≡ false → BeginsWith (texts_of line_of_state stood) writer writer'
  pub ends : OnOk result (new ≡ last)
  pub net : new.net ≡ last.net

-- the same, by lines of which none shows its state
pub record TellsOn {N S : Type 0} (log : N → Option Log) (failed : N → ℕ) (May : ViewId → List ℕ → Type 0) (meaning : Meaning S) (line_of_state : Address → S → List ℕ) (group : List ℕ) (voice : Voice)
    (old new : Driven N S) (writer writer' : Option (List ℕ)) (result : Result Unit Why) : Type 0 where
  pub lines : List (OwnLine S)
  pub plain : AllByRecursion IsPlain lines
  pub tells : Tells log failed May meaning line_of_state group voice lines old new writer writer' result

-- ---- by its plan

-- what a member calls first: its contact, or for a group of its own; nothing, where it has no contact and finds its group
abbrev pub first_call : Bool → Option Address → Option Call
first_call finds (Some contact) = Some (call.Join contact)
first_call true None = None
first_call false None = Some call.Create

-- BEGINS: that call, if there is one, and whether the channel ended by it
pub data BeginsBy {N S : Type 0} (meaning : Meaning S) (group : List ℕ) (old : Driven N S) : Option Call → Bool → Driven N S → Type 0 where
  Waiting : BeginsBy meaning group old None false old
  Calling : (c : Call) (failure : Option Error) (new : Driven N S) → MakesCall meaning group c old failure new
      → BeginsBy meaning group old (Some c) (falls old.channel.stage failure) new

-- ENDS: it leaves, all is told of that by these lines, and what waits is offered; or, where it is not to leave, nothing is done and told
pub data EndsBy {N S : Type 0} (log : N → Option Log) (failed : N → ℕ) (meaning : Meaning S) (group : List ℕ) (stable : Bool) (old : Driven N S) : Bool → List (OwnLine S) → Driven N S
    → Type 0 where
  Leaves : (is_to : Bool) (failure : Option Error) (left : Driven N S) (lines : List (OwnLine S)) (new : Driven N S) → MakesCall meaning group call.Leave old failure left
      → IsTurn stable left.channel lines → Offers log failed left.net (all_told left.channel) new.net new.channel → EndsBy log failed meaning group stable old is_to lines new
  Stays : EndsBy log failed meaning group stable old false [] old

-- it begins so, and tells what it does from there
pub record TellsFrom {N S : Type 0} (log : N → Option Log) (failed : N → ℕ) (May : ViewId → List ℕ → Type 0) (meaning : Meaning S) (line_of_state : Address → S → List ℕ) (group : List ℕ) (voice : Voice)
    (call : Option Call) (old new : Driven N S) (writer writer' : Option (List ℕ)) (result : Result Unit Why) : Type 0 where
  pub gave : Bool
  pub begun : Driven N S
  pub begins : BeginsBy meaning group old call gave begun
  pub tells : TellsOn log failed May meaning line_of_state group voice begun new writer writer' result

-- it ends so, and tells what it does by that
pub record TellsEnd {N S : Type 0} (log : N → Option Log) (failed : N → ℕ) (May : ViewId → List ℕ → Type 0) (meaning : Meaning S) (line_of_state : Address → S → List ℕ) (group : List ℕ) (voice : Voice)
    (leaves : Bool) (old new : Driven N S) (writer writer' : Option (List ℕ)) (result : Result Unit Why) : Type 0 where
  pub told : TellsOn log failed May meaning line_of_state group voice old new writer writer' result
  pub ends : OnOk result (EndsBy log failed meaning group voice.stable old leaves told.lines told.tells.last)

-- ALONE: it begins by its first call, and tells what it does from there, with the line of its state between two parts; behind that is what it tells as it ends
pub record PlaysAlone {N S : Type 0} (log : N → Option Log) (failed : N → ℕ) (May : ViewId → List ℕ → Type 0) (meaning : Meaning S) (line_of_state : Address → S → List ℕ) (group : List ℕ) (member : Address)
    (voice : Voice) (call : Option Call) (leaves : Bool) (old new : Driven N S) (writer writer' : Option (List ℕ)) (result : Result Unit Why) : Type 0 where
  pub gave : Bool
  pub begun : Driven N S
  pub begins : BeginsBy meaning group old call gave begun
  pub front : List (OwnLine S)
  pub back : List (OwnLine S)
  pub plain : AllByRecursion IsPlain front
  pub plain' : AllByRecursion IsPlain back
  pub stood : List (OwnLine S)
  pub fell : Bool
  pub shown : Driven N S
  pub till_shown : TellsFirst log failed May meaning group voice.stable begun front stood fell shown
  pub told : shown.channel.happened ≡ []
  pub tells : Tells log failed May meaning line_of_state group voice (front ++ InState member (receiver_in shown.channel.stage) ∷ back) begun new writer writer' result
  pub ends : OnOk result (EndsBy log failed meaning group voice.stable shown leaves back tells.last)
