-- A net of frames over another one.
use Rattle.std.specs.Prelude.{◌≡◌, ⊤, ℕ, List, [], length, take, Option, None, Some, ◌⊎◌}
use Rattle.udp_net.specs.Logs.{Log, NetEvent, Answered, Offered}
use Rattle.std.specs.List.{AllByRecursion}
use Rattle.frames.specs.Hmac.{block_key}
use Rattle.frames.specs.declared.outlet.Seal.{Seal}
use Rattle.frames.specs.Outlets.{OutletModel}
use Rattle.frames.specs.Arrivals.{Arrived, GivenIn, StandsIn}
use Rattle.frames.specs.Sendings.{Adds, AreSameWays, IsLongOn, KeepLongs, Sends, WaitOf}
use Rattle.frames.specs.declared.opener.Opener.{Opener}
use Rattle.frames.specs.Openers.{Stands}

-- the net that it is over, with what it seals, the ways to nodes, what it opened, how many datagrams it refused, and how many packets were lost for want of memory
pub record FramedModel (N : Type 0) : Type 0 where
  pub inner : N
  pub seal : Seal
  pub outlets : List OutletModel
  pub opener : Opener
  pub refused : ℕ
  pub lost : ℕ

-- what holds of a net's list, if it lists
abbrev pub InLog : Option Log → (Log → Type 0) → Type 0
InLog None Holds = ⊤
InLog (Some l) Holds = Holds l

-- a net lists nothing, or what it listed before and more
abbrev pub Grows : Option Log → Option Log → Type 0
Grows old None = ⊤
Grows None (Some l) = ⊥
Grows (Some o) (Some l) = take (length o) l ≡ o

-- all that is kept came, by the list of the net below
abbrev pub Keeps : Option Log → List ℕ → Opener → Type 0
Keeps log key o = InLog log (λ l. Stands l key o)

-- (1) what a receive gives came in frames that the net below gave and that are sealed with the key for this node: whole in one, or in pieces; or it is an empty datagram, in place of one
-- that is longer than the buffer
abbrev pub GivesArrived : Option Log → List ℕ → ℕ → Option ℕ → List ℕ → Type 0
GivesArrived log key node None buffer = ⊤
GivesArrived log key node (Some n) buffer = InLog log (λ l. (take n buffer ≡ []) ⊎ Arrived (GivenIn l) key node (take n buffer))

-- it is of the same node, with the same key
pub record IsSameNode {N : Type 0} (old new : FramedModel N) : Type 0 where
  pub node : new.opener.node ≡ old.opener.node
  pub seal : new.seal ≡ old.seal

-- A SEND of a packet for a node: if what waits, and the packet, are of a list, what is offered to the net below carries packets of that list, and what waits then is of it
pub record HasSent {N : Type 0} (log : N → Option Log) (node : ℕ) (packet : List ℕ) (old new : FramedModel N) : Type 0 where
  pub sends : (long : ℕ → ℕ → List ℕ) (sent : List (List ℕ)) → WaitOf sent old.outlets → KeepLongs long old.outlets → StandsIn sent packet → IsLongOn long node packet old.outlets new.outlets
      → Sends old.seal long sent (log old.inner) (log new.inner) new.outlets
  pub ways : AreSameWays old.outlets new.outlets
  pub same : IsSameNode old new

-- A FLUSH: the same of what waits
pub record HasFlushed {N : Type 0} (log : N → Option Log) (old new : FramedModel N) : Type 0 where
  pub sends : (long : ℕ → ℕ → List ℕ) (sent : List (List ℕ)) → WaitOf sent old.outlets → KeepLongs long old.outlets
      → Sends old.seal long sent (log old.inner) (log new.inner) new.outlets
  pub ways : AreSameWays old.outlets new.outlets
  pub same : IsSameNode old new

-- A RECEIVE: the net below is offered nothing, and what waits stays
abbrev pub IsAnswer : NetEvent → Type 0
IsAnswer (Answered answer) = ⊤
IsAnswer (Offered o) = ⊥

pub record HasReceived {N : Type 0} (log : N → Option Log) (old new : FramedModel N) : Type 0 where
  pub answers : Adds IsAnswer (log old.inner) (log new.inner)
  pub outlets : new.outlets ≡ old.outlets
  pub same : IsSameNode old new

-- nothing went on a way, and nothing waits there
abbrev pub IsFresh : OutletModel → Type 0
IsFresh o = (o.waiting ≡ []) × (o.longs.kept.items ≡ [])

-- it was made over a net, for a node, with a key and a boot id, and nothing happened there
pub record IsOver {N : Type 0} (inner : N) (node : ℕ) (key boot : List ℕ) (n : FramedModel N) : Type 0 where
  pub inner_is : n.inner ≡ inner
  pub node_is : n.opener.node ≡ node
  pub key_is : n.seal.key ≡ block_key key
  pub boot_is : n.seal.boot ≡ boot
  pub refused_is : n.refused ≡ 0
  pub lost_is : n.lost ≡ 0
  pub fresh : AllByRecursion IsFresh n.outlets
