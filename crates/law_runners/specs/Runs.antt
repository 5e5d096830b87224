-- What a runner does, call by call, and the items that this adds.
use Rattle.std.specs.Prelude.{◌≡◌, ⊤, ℕ, Bool, true, false, ◌||◌, List, [], ◌∷◌, ◌++◌, map, flat_map, Option, None, Some, Result}
use Rattle.std.specs.Result.{result_err}
use Rattle.std.specs.List.{AllByRecursion}
use Rattle.address.specs.Ids.{Address, ViewId, IsAddress}
use Rattle.view.specs.Members.{View}
use Rattle.state_transfer.specs.Meanings.{Meaning}
use Rattle.trace_props.specs.declared.event.Event.{Event}
use Rattle.member.specs.declared.error.Error.{Error}
use Rattle.member.specs.declared.input.Input.{Input}
use Rattle.member.specs.declared.input.Input.TheVariants as input
use Rattle.member.specs.Members.{MemberModel}
use Rattle.channel.specs.declared.stage.Stage.{Stage}
use Rattle.channel.specs.declared.stage.Stage.TheVariants.{Apart, Connected, Ended}
use Rattle.channel.specs.Channels.{ChannelModel, view_in}
use Rattle.channel.specs.Calls.{Calls, CallsLent, Connects, Reconnects}
use Rattle.channel.specs.Queues.{TakesFirst}
use Rattle.udp_net.specs.Logs.{Log, Lists}
use Rattle.udp_member.specs.Turns.{Driven}
use Rattle.udp_member.specs.Offers.{Offers}
use Rattle.udp_member.specs.Rounds.{Hears, Rounds}
use Rattle.udp_member.specs.Seeking.{Seeks}
use Rattle.law_processes.specs.Deployments.{Step, Start, Call, Crash, IsNew, bytes_of, happens_by}
use Rattle.law_processes.specs.Processes.{all_told}
use Rattle.law_processes.specs.Said.{Says}
use Rattle.law_runners.specs.Plays.{IsReady, LeftBy, falls, crash_of}
use Rattle.law_runners.specs.Items.{Item, OfMember, Standing, not_begun, stands_after, datagram_in, Follow, IsProcess, net_events, steps_in}

-- ---- calls

-- what was taken, in a list
abbrev pub listed : Option Event → List Event
listed None = []
listed (Some event) = event ∷ []

-- the runner with its channel as that was left
abbrev pub with_channel : {N S : Type 0} → Driven N S → ChannelModel S → Driven N S
with_channel r channel = record { net = r.net; channel = channel; faults = r.faults; notes = r.notes }

-- one call of a runner, by its contract, or of the channel or the net that it lends; what is taken by it of what the channel tells; and the error that it is answered, if it is
-- one. A connect is under the name of the group; a datagram comes from the net alone, and packets go to it alone, by an offer; and of the net only what it lists nothing of is
-- called, as a wait.
pub data Makes {N S : Type 0} (log : N → Option Log) (failed : N → ℕ) (meaning : Meaning S) (group : List ℕ) (old : Driven N S) : List Event → Option Error → Driven N S → Type 0 where
  Listen : (answer : Result ℕ Error) (new : Driven N S) → Hears log failed meaning old answer new → Makes log failed meaning group old [] (result_err answer) new
  Round : (failure : Option Error) (new : Driven N S) → Rounds log failed meaning old failure new → Makes log failed meaning group old [] failure new
  Seek : (failure : Option Error) (new : Driven N S) → Seeks log failed meaning old failure new → Makes log failed meaning group old [] failure new
  Offer : (new : Driven N S) → Offers log failed old.net old.channel new.net new.channel → Makes log failed meaning group old [] None new
  Wait : (new : Driven N S) → Lists (log old.net) (λ l. l) (log new.net) → new.channel ≡ old.channel → Makes log failed meaning group old [] None new
  Create : (failure : Option Error) (channel : ChannelModel S) → Connects meaning input.Create group old.channel failure channel → LeftBy failure old.channel channel
      → Makes log failed meaning group old [] failure (with_channel old channel)
  Join : (contact : Address) (failure : Option Error) (channel : ChannelModel S) → Reconnects meaning (input.Join contact) group old.channel failure channel
      → LeftBy failure old.channel channel → Makes log failed meaning group old [] failure (with_channel old channel)
  Send : (payload : List ℕ) (failure : Option Error) (channel : ChannelModel S) → CallsLent meaning input.Send payload old.channel failure channel
      → LeftBy failure old.channel channel → Makes log failed meaning group old [] failure (with_channel old channel)
  Hand : (input : Input) (failure : Option Error) (channel : ChannelModel S) → datagram_in input ≡ None → Calls meaning input old.channel failure channel
      → LeftBy failure old.channel channel → Makes log failed meaning group old [] failure (with_channel old channel)
  Take : (event : Option Event) (channel : ChannelModel S) → TakesFirst event old.channel.happened channel.happened
      → channel ≡ record old.channel { happened = channel.happened } → Makes log failed meaning group old (listed event) None (with_channel old channel)

-- any number of calls, what is taken by them, and whether the channel ended by one of them, other than by a leave; those of a channel before its runner was made are calls
-- of the channel that this lends
pub data Drives {N S : Type 0} (log : N → Option Log) (failed : N → ℕ) (meaning : Meaning S) (group : List ℕ) (first : Driven N S) : List Event → Bool → Driven N S → Type 0 where
  Begun : Drives log failed meaning group first [] false first
  Further : (taken more : List Event) (fell : Bool) (failure : Option Error) (mid new : Driven N S) → Drives log failed meaning group first taken fell mid
      → Makes log failed meaning group mid more failure new → Drives log failed meaning group first (taken ++ more) (fell || falls mid.channel.stage failure) new

-- whether a call offers what waits
abbrev pub is_offer : {N S : Type 0} {log : N → Option Log} {failed : N → ℕ} {meaning : Meaning S} {group : List ℕ} {old : Driven N S} {taken : List Event} {failure : Option Error}
    {new : Driven N S} → Makes log failed meaning group old taken failure new → Bool
is_offer (Listen answer new hears) = false
is_offer (Round failure new rounds) = false
is_offer (Seek failure new seeks) = false
is_offer (Offer new offers) = true
is_offer (Wait new lists same) = false
is_offer (Create failure channel connects left) = false
is_offer (Join contact failure channel connects left) = false
is_offer (Send payload failure channel calls left) = false
is_offer (Hand input failure channel no_datagram calls left) = false
is_offer (Take event channel first others) = false

-- the payload that a call sends, if it sends one, may be said in the view in which the channel's member is
abbrev pub SaysOnly : {N S : Type 0} {log : N → Option Log} {failed : N → ℕ} {meaning : Meaning S} {group : List ℕ} {old : Driven N S} {taken : List Event} {failure : Option Error}
    {new : Driven N S} → (ViewId → List ℕ → Type 0) → Makes log failed meaning group old taken failure new → Type 0
SaysOnly May (Listen answer new hears) = ⊤
SaysOnly May (Round failure new rounds) = ⊤
SaysOnly May (Seek failure new seeks) = ⊤
SaysOnly May (Offer new offers) = ⊤
SaysOnly May (Wait new lists same) = ⊤
SaysOnly May (Create failure channel connects left) = ⊤
SaysOnly May (Join contact failure channel connects left) = ⊤
SaysOnly {old} May (Send payload failure channel calls left) = (v : View) → view_in old.channel.stage ≡ Some v → May v.id payload
SaysOnly {old} May (Hand input failure channel no_datagram calls left) = (v : View) → view_in old.channel.stage ≡ Some v → Says May input v.id
SaysOnly May (Take event channel first others) = ⊤

-- one call that is no offer: what the channel puts out by it waits in it; and what it sends, if it sends a payload, may be said
pub record MakesNoOffer {N S : Type 0} (log : N → Option Log) (failed : N → ℕ) (May : ViewId → List ℕ → Type 0) (meaning : Meaning S) (group : List ℕ) (old : Driven N S)
    (taken : List Event) (failure : Option Error) (new : Driven N S) : Type 0 where
  pub call : Makes log failed meaning group old taken failure new
  pub no_offer : is_offer call ≡ false
  pub says : SaysOnly May call

-- any number of such calls
pub data DrivesWithoutOffer {N S : Type 0} (log : N → Option Log) (failed : N → ℕ) (May : ViewId → List ℕ → Type 0) (meaning : Meaning S) (group : List ℕ) (first : Driven N S) : List Event → Bool → Driven N S
    → Type 0 where
  Still : DrivesWithoutOffer log failed May meaning group first [] false first
  Called : (taken more : List Event) (fell : Bool) (failure : Option Error) (mid new : Driven N S) → DrivesWithoutOffer log failed May meaning group first taken fell mid
      → MakesNoOffer log failed May meaning group mid more failure new → DrivesWithoutOffer log failed May meaning group first (taken ++ more) (fell || falls mid.channel.stage failure) new

-- ---- what they add

-- the member that runs in a process with a channel like this; before it is connected, the one with which it will be
abbrev pub running_in : {S : Type 0} → MemberModel S → Stage S → Option (MemberModel S)
running_in m (Apart s) = Some m
running_in m (Connected n) = Some n
running_in m Ended = None

-- where its process stands between two calls
abbrev pub standing : {N S : Type 0} → MemberModel S → Driven N S → Standing S
standing m r = record { running = running_in m r.channel.stage; waiting = map bytes_of r.channel.outgoing; given = None }

-- what happens by the steps of items
abbrev pub happened_by : {S : Type 0} → List (Item S) → List Event
happened_by items = flat_map happens_by (steps_in items)

-- whether a step starts its process
abbrev pub is_start : {S : Type 0} → Step S → Bool
is_start (Start p m) = true
is_start (Call p input result left) = false
is_start (Crash p) = false

-- ADDED: items that lead from one runner to the other, to the member that runs in its channel and to what waits there, where its process had started before; what happened at the
-- net is what that lists more; what its channel tells, taken and not taken yet, is what the steps tell; and what happens is this, and a crash where the channel ended by a call,
-- other than by a leave. Before it is connected it stands for the member with which it will be: with `m` after them, `before m` before them.
pub record Adds {N S : Type 0} (log : N → Option Log) (meaning : Meaning S) (group : List ℕ) (old : Driven N S) (taken : List Event) (fell : Bool) (new : Driven N S) : Type 0 where
  pub items : List (Item S)
  pub before : MemberModel S → MemberModel S
  pub is_new : (m : MemberModel S) → IsNew meaning group old.channel.address m → IsNew meaning group old.channel.address (before m)
  pub follow : (m : MemberModel S) → IsNew meaning group old.channel.address m → Follow meaning group old.channel.address (standing (before m) old) items
  pub running : (m : MemberModel S) → IsNew meaning group old.channel.address m → (stands_after (standing (before m) old) items).running ≡ running_in m new.channel.stage
  pub waiting : (m : MemberModel S) → (stands_after (standing m old) items).waiting ≡ map bytes_of new.channel.outgoing
  pub lists : Lists (log old.net) (λ l. l ++ net_events items) (log new.net)
  pub tells : taken ++ new.channel.happened ≡ old.channel.happened ++ all_told (steps_in items)
  pub happens : happened_by items ≡ all_told (steps_in items) ++ crash_of old.channel.address fell
  -- none of them starts it anew
  pub no_start : AllByRecursion (λ x. is_start x ≡ false) (steps_in items)
  pub address : new.channel.address ≡ old.channel.address
  pub ready : IsReady meaning new.channel.stage
  -- after its end no step is done
  pub fallen : fell ≡ true → new.channel.stage ≡ Ended
  pub over : old.channel.stage ≡ Ended → (steps_in items ≡ []) × (new.channel.stage ≡ Ended)

-- each call adds such items
abbrev pub CallsAddItems : {N S : Type 0} → (N → Option Log) → (N → ℕ) → Meaning S → Type 0
CallsAddItems {N} {S} log failed meaning = (group : List ℕ) (old : Driven N S) (taken : List Event) (failure : Option Error) (new : Driven N S) → IsAddress old.channel.address
    → IsReady meaning old.channel.stage → Makes log failed meaning group old taken failure new → Adds log meaning group old taken (falls old.channel.stage failure) new

-- ---- from the beginning

-- the channel of an address, not connected yet, whose receiver is in its opening state
abbrev pub new_channel : {S : Type 0} → Meaning S → Address → ChannelModel S
new_channel meaning p = record { address = p; stage = Apart meaning.opening; outgoing = []; happened = [] }

-- where a process stands after what it did that has a channel like this: with the member that runs there; before it is connected, with one with which it will be
pub record StandsWith {S : Type 0} (meaning : Meaning S) (group : List ℕ) (p : Address) (own : List (Item S)) (stage : Stage S) : Type 0 where
  pub member : MemberModel S
  pub is_new : IsNew meaning group p member
  pub ready : IsReady meaning stage
  pub running : (stands_after not_begun own).running ≡ running_in member stage

-- RUN: what a runner did since its channel was new is a process, which begins with its start and stands with its channel; what happened at its net is what that lists more; what its
-- channel told is what the steps tell; and this is what happened, but for the start, and for the crash where the channel ended other than by a leave
pub record IsRun {N S : Type 0} (log : N → Option Log) (meaning : Meaning S) (group : List ℕ) (p : Address) (first : Driven N S) (taken : List Event) (fell : Bool) (now : Driven N S)
    : Type 0 where
  pub member : MemberModel S
  pub items : List (Item S)
  pub process : IsProcess meaning group p (OfMember (Start p member) ∷ items)
  pub stands : StandsWith meaning group p (OfMember (Start p member) ∷ items) now.channel.stage
  pub lists : Lists (log first.net) (λ l. l ++ net_events items) (log now.net)
  pub tells : taken ++ now.channel.happened ≡ all_told (steps_in items)
  pub happens : happened_by items ≡ all_told (steps_in items) ++ crash_of p fell

abbrev pub RunsAreProcesses : {N S : Type 0} → (N → Option Log) → (N → ℕ) → Meaning S → Type 0
RunsAreProcesses {N} {S} log failed meaning = (group : List ℕ) (p : Address) (first : Driven N S) (taken : List Event) (fell : Bool) (now : Driven N S) → IsAddress p
    → first.channel ≡ new_channel meaning p → Drives log failed meaning group first taken fell now → IsRun log meaning group p first taken fell now
