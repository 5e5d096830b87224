-- What is known of a machine with sockets.
use Rattle.std.specs.Prelude.{◌≡◌, ℕ, ℤ, Bool, true, false, List, Option, None, Some}
use Rattle.std.specs.Option.{ForSome}
use Rattle.frames.specs.Hmac.{block_key}
use Rattle.udp_net.specs.declared.sieved_net.SievedNet.{SievedNet}
use Rattle.udp_net.specs.declared.socket_net.SocketNet.{SocketNet}
use Rattle.udp_net.specs.declared.error.BindError.{BindError}
use Rattle.udp_net.specs.declared.error.BindError.TheVariants.{Config, Bind, Memory}
use Rattle.frames.specs.Nets.{FramedModel}
use Rattle.udp_runs.specs.declared.manner.Tally.{Tally}
use Rattle.udp_runs.specs.declared.node_net.NodeNet.{NodeNet}
use Rattle.udp_runs.specs.declared.node_net.NodeNet.TheVariants.{Plain, Sealed}

-- whether a socket could not be bound, what was told last of a node that ran by itself, and how its nets are made: whether they take a node's datagrams wherever these
-- come from, the key that seals them, and what ends their waits too
pub record LoopbackModel : Type 0 where
  pub is_unbound : Bool
  pub told : Option Tally
  pub is_open : Bool
  pub key : Option (List ℕ)
  pub other : Option ℤ

-- nothing was asked of it yet
abbrev pub nothing_asked : LoopbackModel
nothing_asked = record { is_unbound = false; told = None; is_open = false; key = None; other = None }

-- a net is one of frames under a key, over a socket that gives all that comes
abbrev pub IsSealedOver : Bool → List ℕ → SievedNet (FramedModel SocketNet) → Type 0
IsSealedOver is_open key net = (net.inner.seal.key ≡ block_key key) × (net.inner.inner.is_open ≡ is_open) × (net.inner.inner.is_bare ≡ true)

-- a net of a machine is made as was asked: without a key it is a socket that asks where datagrams come from, unless it is open
abbrev pub IsMadeBy : LoopbackModel → NodeNet → Type 0
IsMadeBy m (Plain socket) = (m.key ≡ None) × (socket.is_open ≡ m.is_open) × (socket.is_bare ≡ false)
IsMadeBy m (Sealed net) = ForSome m.key (λ key. IsSealedOver m.is_open key net)

-- whether a socket could not be bound, after a net was asked for
abbrev pub unbound_after : Bool → Option BindError → Bool
unbound_after was None = was
unbound_after was (Some Config) = was
unbound_after was (Some Bind) = true
unbound_after was (Some Memory) = was
