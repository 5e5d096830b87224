-- What a process does that a runner drives: what happens at its net, and steps of its member, in the order in which they happen.
use Rattle.std.specs.Prelude.{◌≡◌, ⊤, ℕ, List, [], ◌∷◌, ◌++◌, drop, filter_map, slice_get, Option, None, Some, IfSome}
use Rattle.address.specs.Ids.{Address}
use Rattle.state_transfer.specs.Meanings.{Meaning}
use Rattle.member.specs.declared.input.Input.{Input}
use Rattle.member.specs.declared.input.Input.TheVariants.{Create, Join, Send, Datagram, Tick, Suspect, MergeHint, Leave}
use Rattle.member.specs.Members.{MemberModel}
use Rattle.udp_net.specs.declared.net.Received.{Received}
use Rattle.udp_net.specs.declared.net.Received.TheVariants as received
use Rattle.udp_net.specs.Logs.{NetEvent, Answered, Offered}
use Rattle.law_processes.specs.Deployments.{Step, Start, Call, Crash, whose, left_with, puts_of}
use Rattle.law_processes.specs.Processes.{StepsSo}

pub data Item (S : Type 0) : Type 0 where
  OfNet : NetEvent → Item S
  OfMember : Step S → Item S

-- ---- where a process stands

-- the member that runs; the datagrams that were put out and not offered yet, in order; and the one that its net gave last, where nothing was done since
pub record Standing (S : Type 0) : Type 0 where
  pub running : Option (MemberModel S)
  pub waiting : List (List ℕ)
  pub given : Option (List ℕ)

abbrev pub not_begun : {S : Type 0} → Standing S
not_begun = record { running = None; waiting = []; given = None }

-- the datagram that a receive gave, if it did
abbrev pub given_by : Received → Option (List ℕ)
given_by (received.Datagram bytes) = Some bytes
given_by received.Nothing = None
given_by received.Failed = None

-- where it stands after an item
abbrev pub then_stands : {S : Type 0} → Standing S → Item S → Standing S
then_stands s (OfNet (Answered answer)) = record { running = s.running; waiting = s.waiting; given = given_by answer }
then_stands s (OfNet (Offered offer)) = record { running = s.running; waiting = drop 1 s.waiting; given = None }
then_stands s (OfMember x) = record { running = left_with x; waiting = s.waiting ++ puts_of x; given = None }

abbrev pub stands_after : {S : Type 0} → Standing S → List (Item S) → Standing S
stands_after s [] = s
stands_after s (i ∷ items) = stands_after (then_stands s i) items

-- ---- what may come next

-- the datagram that is handed in, if one is
abbrev pub datagram_in : Input → Option (List ℕ)
datagram_in Create = None
datagram_in (Join contact) = None
datagram_in (Send payload) = None
datagram_in (Datagram bytes) = Some bytes.now
datagram_in Tick = None
datagram_in (Suspect q) = None
datagram_in (MergeHint q) = None
datagram_in Leave = None

abbrev pub datagram_of : {S : Type 0} → Step S → Option (List ℕ)
datagram_of (Start p m) = None
datagram_of (Call p input result left) = datagram_in input
datagram_of (Crash p) = None

-- a receive is answered anyhow; what is offered is the first that waits; a step is one of this address, from the member that runs, and a datagram that it hands in is the
-- one that the net gave right before
abbrev pub MayFollow : {S : Type 0} → Meaning S → List ℕ → Address → Standing S → Item S → Type 0
MayFollow meaning group p s (OfNet (Answered answer)) = ⊤
MayFollow meaning group p s (OfNet (Offered offer)) = slice_get s.waiting 0 ≡ Some offer.bytes
MayFollow meaning group p s (OfMember x) = (whose x ≡ p) × StepsSo meaning group s.running x × IfSome (datagram_of x) (λ bytes. s.given ≡ Some bytes)

-- each may come after those before it
abbrev pub Follow : {S : Type 0} → Meaning S → List ℕ → Address → Standing S → List (Item S) → Type 0
Follow meaning group p s [] = ⊤
Follow meaning group p s (i ∷ items) = MayFollow meaning group p s i × Follow meaning group p (then_stands s i) items

-- what the process of an address does, from its beginning
abbrev pub IsProcess : {S : Type 0} → Meaning S → List ℕ → Address → List (Item S) → Type 0
IsProcess meaning group p items = Follow meaning group p not_begun items

-- ---- items apart

-- what happened at the net
abbrev pub net_event : {S : Type 0} → Item S → Option NetEvent
net_event (OfNet event) = Some event
net_event (OfMember x) = None

abbrev pub net_events : {S : Type 0} → List (Item S) → List NetEvent
net_events items = filter_map net_event items

-- the steps of the member
abbrev pub step_in : {S : Type 0} → Item S → Option (Step S)
step_in (OfNet event) = None
step_in (OfMember x) = Some x

abbrev pub steps_in : {S : Type 0} → List (Item S) → List (Step S)
steps_in items = filter_map step_in items
