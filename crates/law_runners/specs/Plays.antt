-- What a call of a channel is in a deployment.
use Rattle.std.specs.Prelude.{◌≡◌, ⊤, ℕ, Bool, true, false, List, [], ◌∷◌, ◌++◌, map, flat_map, Option, None, Some, IfSome, is_some, MatchBool, if◌then◌else◌}
use Rattle.std.specs.Option.{option_map_or}
use Rattle.std.specs.Borrow.{Bor}
use Rattle.address.specs.Ids.{Address, IsAddress}
use Rattle.wire_values.specs.Names.{is_group_name}
use Rattle.state_transfer.specs.Meanings.{Meaning}
use Rattle.trace_props.specs.declared.event.Event.{Event}
use Rattle.trace_props.specs.declared.event.Event.TheVariants.{Crashed}
use Rattle.member.specs.declared.error.Error.{Error}
use Rattle.member.specs.declared.input.Input.{Input}
use Rattle.member.specs.declared.input.Input.TheVariants as input
use Rattle.member.specs.Members.{MemberModel}
use Rattle.channel.specs.declared.stage.Stage.{Stage}
use Rattle.channel.specs.declared.stage.Stage.TheVariants.{Apart, Connected, Ended}
use Rattle.channel.specs.Errors.{is_end}
use Rattle.channel.specs.Channels.{ChannelModel, member_in, is_in, left_by}
use Rattle.channel.specs.Calls.{Calls, CallsLent, Connects, Reconnects}
use Rattle.law_processes.specs.Deployments.{Step, Start, Call, Crash, bytes_of, happens_by}
use Rattle.law_processes.specs.Processes.{RunsFrom, member_after, all_put_out, all_told}

-- before a connect its receiver is in its opening state, and a member that it has runs
abbrev pub IsReady : {S : Type 0} → Meaning S → Stage S → Type 0
IsReady meaning (Apart s) = s ≡ meaning.opening
IsReady meaning (Connected m) = is_some m.member_state ≡ true
IsReady meaning Ended = ⊤

-- whether a channel is not connected yet, after these steps of its process
abbrev pub is_apart_after : {S : Type 0} → Stage S → List (Step S) → Bool
is_apart_after (Apart s) [] = true
is_apart_after (Apart s) (x ∷ own) = false
is_apart_after (Connected m) own = false
is_apart_after Ended own = false

-- these steps of its process lead from one channel to the other: what they put out waits behind what waited, and so does what they tell
pub record Plays {S : Type 0} (meaning : Meaning S) (group : List ℕ) (own : List (Step S)) (old new : ChannelModel S) : Type 0 where
  pub runs : RunsFrom meaning group (member_in old.stage) own
  pub left : member_after (member_in old.stage) own ≡ member_in new.stage
  pub apart : is_apart_after new.stage [] ≡ is_apart_after old.stage own
  pub puts : map bytes_of new.outgoing ≡ map bytes_of old.outgoing ++ all_put_out own
  pub tells : new.happened ≡ old.happened ++ all_told own
  pub address : new.address ≡ old.address
  pub ready : IsReady meaning new.stage

-- ---- which steps these are

-- the member of the address is called with this input; or, where room is refused for what that put out, the process ends
abbrev pub IsStepBy : {S : Type 0} → Address → Input → Step S → Type 0
IsStepBy p input (Start q m) = ⊥
IsStepBy p input (Call q other result left) = (q ≡ p) × (other ≡ input)
IsStepBy p input (Crash q) = q ≡ p

-- one such step, where a member runs; else none
abbrev pub AreByCall : {S : Type 0} → Address → Input → Option (MemberModel S) → List (Step S) → Type 0
AreByCall p input None own = own ≡ []
AreByCall {S} p input (Some m) own = (x : Step S) × (own ≡ x ∷ []) × IsStepBy p input x

-- a start of its process and then one such step, where it was not connected yet and the name is one of a group; else none
abbrev pub AreByConnect : {S : Type 0} → Address → Input → List ℕ → Stage S → List (Step S) → Type 0
AreByConnect {S} p input name (Apart s) own =
    MatchBool (is_group_name name) ((m : MemberModel S) × (x : Step S) × (own ≡ Start p m ∷ x ∷ []) × IsStepBy p input x) (own ≡ [])
AreByConnect p input name (Connected m) own = own ≡ []
AreByConnect p input name Ended own = own ≡ []

-- under the name that it is connected by, the member is asked again
abbrev pub AreByReconnect : {S : Type 0} → Address → Input → List ℕ → Stage S → List (Step S) → Type 0
AreByReconnect p input name stage own = MatchBool (is_in name stage) (AreByCall p input (member_in stage) own) (AreByConnect p input name stage own)

-- ---- what happens by them

-- whether a channel ends by a call, other than by a leave that is taken: it had not ended, and is answered 6 or 7
abbrev pub falls : {S : Type 0} → Stage S → Option Error → Bool
falls (Apart s) failure = option_map_or is_end failure false
falls (Connected m) failure = option_map_or is_end failure false
falls Ended failure = false

abbrev pub crash_of : Address → Bool → List Event
crash_of p fell = if fell then Crashed p ∷ [] else []

-- what happens by a step of a process that has started
abbrev pub happens_then : {S : Type 0} → Step S → List Event
happens_then (Start p m) = []
happens_then (Call p input result left) = happens_by (Call p input result left)
happens_then (Crash p) = Crashed p ∷ []

-- it is what they tell; and then a crash, where the channel ends by the call
abbrev pub Happens : {S : Type 0} → List (Step S) → ChannelModel S → Option Error → Type 0
Happens own old failure = flat_map happens_then own ≡ all_told own ++ crash_of old.address (falls old.stage failure)

-- ---- the laws

-- steps that are so, and play; and what happens by them
abbrev pub PlaysBy : {S : Type 0} → Meaning S → List ℕ → (List (Step S) → Type 0) → ChannelModel S → Option Error → ChannelModel S → Type 0
PlaysBy {S} meaning group AreSo old failure new = (own : List (Step S)) × AreSo own × Plays meaning group own old new × Happens own old failure

-- where an error leaves the channel, by the contract of each call
abbrev pub LeftBy : {S : Type 0} → Option Error → ChannelModel S → ChannelModel S → Type 0
LeftBy failure old new = IfSome failure (λ e. new ≡ left_by e old)

abbrev pub CallsAreSteps : {S : Type 0} → Meaning S → Type 0
CallsAreSteps {S} meaning = (group : List ℕ) (input : Input) (old new : ChannelModel S) (failure : Option Error) → IsReady meaning old.stage → Calls meaning input old failure new
    → LeftBy failure old new → PlaysBy meaning group (AreByCall old.address input (member_in old.stage)) old failure new

-- the same of a call whose input has bytes that are lent
abbrev pub LentCallsAreSteps : {S : Type 0} → Meaning S → Type 0
LentCallsAreSteps {S} meaning = (group : List ℕ) (input : Bor (List ℕ) → Input) (bytes : List ℕ) (old new : ChannelModel S) (failure : Option Error) → IsReady meaning old.stage
    → CallsLent meaning input bytes old failure new → LeftBy failure old new
    → (lent : Bor (List ℕ)) × (lent.now ≡ bytes) × PlaysBy meaning group (AreByCall old.address (input lent) (member_in old.stage)) old failure new

-- a connect under a name: the process is one of the group of this name
abbrev pub CreatesAreSteps : {S : Type 0} → Meaning S → Type 0
CreatesAreSteps {S} meaning = (name : List ℕ) (old new : ChannelModel S) (failure : Option Error) → IsAddress old.address → IsReady meaning old.stage
    → Connects meaning input.Create name old failure new → LeftBy failure old new → PlaysBy meaning name (AreByConnect old.address input.Create name old.stage) old failure new

abbrev pub JoinsAreSteps : {S : Type 0} → Meaning S → Type 0
JoinsAreSteps {S} meaning = (name : List ℕ) (contact : Address) (old new : ChannelModel S) (failure : Option Error) → IsAddress old.address → IsReady meaning old.stage
    → Reconnects meaning (input.Join contact) name old failure new → LeftBy failure old new
    → PlaysBy meaning name (AreByReconnect old.address (input.Join contact) name old.stage) old failure new
