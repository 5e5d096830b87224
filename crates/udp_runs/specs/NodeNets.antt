-- The net of a node: one of two kinds.
use Rattle.udp_net.specs.declared.sieved_net.SievedNet.{SievedNet}
use Rattle.udp_net.specs.declared.socket_net.SocketNet.{SocketNet}
use Rattle.frames.specs.Nets.{FramedModel}
use Rattle.udp_runs.specs.declared.node_net.NodeNet.{NodeNet}
use Rattle.udp_runs.specs.declared.node_net.NodeNet.TheVariants.{Plain, Sealed}

-- what holds of it, as its kind says
abbrev pub by_kind : {C : Type 0} → (SocketNet → C) → (SievedNet (FramedModel SocketNet) → C) → NodeNet → C
by_kind plain sealed (Plain n) = plain n
by_kind plain sealed (Sealed n) = sealed n
