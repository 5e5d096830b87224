-- What a node that runs by itself says.
use Rattle.std.specs.Prelude.{◌≡◌, ◌⊎◌, ◌≤◌, ℕ, Bool, true, false, List, Option, Some, Result, Ok}
use Rattle.address.specs.Ids.{ViewId, IsAddress}
use Rattle.address.specs.declared.limits.TheConstants.{GREATEST_NUMBER}
use Rattle.view.specs.Members.{View}
use Rattle.udp_runs.specs.Outboxes.{OutboxModel}
use Rattle.udp_runs.specs.Unsaid.{UnsaidModel}
use Rattle.udp_runs.specs.Came.{IsText}
use Rattle.channel.specs.declared.stage.Stage.{Stage}
use Rattle.channel.specs.Channels.{view_in}
use Rattle.udp_runs.specs.declared.calls.Call.{Call}
use Rattle.udp_runs.specs.declared.calls.Call.TheVariants as calls

-- the id of a view, with its parts in their ranges
abbrev pub IsId : ViewId → Type 0
IsId v = (1 ≤ v.counter) × (v.counter ≤ GREATEST_NUMBER) × IsAddress v.creator

-- MAY SAY: a payload may be said in the view of an id if a text says it there that is sent once, or is a line of what came since a start; or if it is what the coordinator of
-- that view says first
abbrev pub MaySay : {F : Type 0} → Option (List ℕ) → Option (List ℕ) → Option (List ℕ) → (ViewId → List ℕ → Result (List ℕ) F) → (View → Option (List ℕ)) → ViewId → List ℕ → Type 0
MaySay once start came within first v payload =
    IsId v × (((text : List ℕ) × IsText once start came text × (within v text ≡ Ok payload)) ⊎ ((view : View) × (view.id ≡ v) × (first view ≡ Some payload)))

-- ---- what is kept of texts

-- what is sent once, what waits and what was sent are as they were
abbrev pub AreSame : {O : Type 0} → O → OutboxModel → UnsaidModel → O → OutboxModel → UnsaidModel → Type 0
AreSame once outbox unsaid once' outbox' unsaid' = (once' ≡ once) × (outbox' ≡ outbox) × (unsaid' ≡ unsaid)

-- ---- calls

-- this payload, in the view in which a channel's member is
abbrev pub IsThat : {S : Type 0} → Stage S → List ℕ → ViewId → List ℕ → Type 0
IsThat stage payload v said = (view : View) × (view_in stage ≡ Some view) × (view.id ≡ v) × (said ≡ payload)

-- what a call says
abbrev pub SaidBy : {S : Type 0} → Stage S → Call → ViewId → List ℕ → Type 0
SaidBy stage calls.Create v said = ⊥
SaidBy stage (calls.Join contact) v said = ⊥
SaidBy stage (calls.Send payload) v said = IsThat stage payload.now v said
SaidBy stage calls.Tick v said = ⊥
SaidBy stage (calls.Suspect q) v said = ⊥
SaidBy stage (calls.MergeHint q) v said = ⊥
SaidBy stage calls.Leave v said = ⊥

-- whether a call says nothing
abbrev pub says_nothing : Call → Bool
says_nothing calls.Create = true
says_nothing (calls.Join contact) = true
says_nothing (calls.Send payload) = false
says_nothing calls.Tick = true
says_nothing (calls.Suspect q) = true
says_nothing (calls.MergeHint q) = true
says_nothing calls.Leave = true
