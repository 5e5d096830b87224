-- What members send is what whoever calls them may say in the view in which they are.
use Rattle.std.specs.Prelude.{◌≡◌, ⊤, ℕ, List, Some}
use Rattle.std.specs.List.{AllByRecursion}
use Rattle.address.specs.Ids.{ViewId}
use Rattle.view.specs.Members.{View}
use Rattle.trace_props.specs.declared.event.Event.{Event}
use Rattle.trace_props.specs.declared.event.Event.TheVariants.{Started, Sent, Delivered, Blocked, Installed, Left, Crashed}
use Rattle.law_acts.specs.Cores.{Core}
use Rattle.member.specs.declared.input.Input.{Input}
use Rattle.member.specs.declared.input.Input.TheVariants.{Create, Join, Send, Datagram, Tick, Suspect, MergeHint, Leave}
use Rattle.member.specs.Members.{MemberModel, core_of}
use Rattle.law_processes.specs.Deployments.{Step, Start, Call, Crash, Deployment}

-- SAID: a message that is sent has a payload that may be said in the view in which it is sent
abbrev pub IsSaid : (ViewId → List ℕ → Type 0) → Event → Type 0
IsSaid May (Started p) = ⊤
IsSaid May (Sent s) = May s.view s.message.payload
IsSaid May (Delivered d) = ⊤
IsSaid May (Blocked p) = ⊤
IsSaid May (Installed i) = ⊤
IsSaid May (Left p) = ⊤
IsSaid May (Crashed p) = ⊤

abbrev pub AreSaid : (ViewId → List ℕ → Type 0) → List Event → Type 0
AreSaid May events = AllByRecursion (IsSaid May) events

-- the payload that an input sends, if it sends one, may be said in this view
abbrev pub Says : (ViewId → List ℕ → Type 0) → Input → ViewId → Type 0
Says May Create v = ⊤
Says May (Join contact) v = ⊤
Says May (Send payload) v = May v payload.now
Says May (Datagram bytes) v = ⊤
Says May Tick v = ⊤
Says May (Suspect q) v = ⊤
Says May (MergeHint q) v = ⊤
Says May Leave v = ⊤

-- the same of a member in the view in which it is
abbrev pub SaysAt : {S : Type 0} → (ViewId → List ℕ → Type 0) → Core S → Input → Type 0
SaysAt May c input = (v : View) → c.view ≡ Some v → Says May input v.id

-- whoever calls a member to send says what may be said in the view in which the member is then
abbrev pub SaysOnly : {S : Type 0} → (ViewId → List ℕ → Type 0) → Deployment S → Step S → Type 0
SaysOnly May d (Start p m) = ⊤
SaysOnly {S} May d (Call p input result left) = (m : MemberModel S) (c : Core S) → d.members p ≡ Some m → core_of m ≡ Some c → SaysAt May c input
SaysOnly May d (Crash p) = ⊤
