-- Which datagrams are from the node that they name.
use Rattle.std.specs.Prelude.{◌≡◌, ℕ, Bool, true, false, Option, None, Some, List, [], ◌∷◌, ◌⊎◌, if◌then◌else◌}
use Rattle.std.specs.Net.Socket.{socket_ip, socket_port}
use Rattle.std.specs.declared.net.socket_addr.SocketAddr.{SocketAddr}
use Rattle.udp_net.specs.Bursts.{LaneModel}
use Rattle.udp_net.specs.Hosts.{IsSameHost}
use Rattle.udp_net.specs.declared.gate.Verdict.{Verdict}
use Rattle.udp_net.specs.declared.gate.Verdict.TheVariants.{Given, Told, Strange, Sieved}

-- one of the ways is such
abbrev pub AnyLane : (LaneModel → Type 0) → List LaneModel → Type 0
AnyLane Is [] = ⊥
AnyLane Is (l ∷ lanes) = Is l ⊎ AnyLane Is lanes

-- a datagram comes from the host and the port to which a way leads; the same, where the host is written alike
abbrev pub ComesFrom : SocketAddr → LaneModel → Type 0
ComesFrom from l = IsSameHost (socket_ip from) l.host × (socket_port from ≡ l.port.port)

abbrev pub ComesPlainlyFrom : SocketAddr → LaneModel → Type 0
ComesPlainlyFrom from l = (socket_ip from ≡ l.host) × (socket_port from ≡ l.port.port)

-- a way leads to the node, and a datagram comes from the host and the port there, if it is known where it comes from
abbrev pub IsFrom : ℕ → Option SocketAddr → LaneModel → Type 0
IsFrom node None l = l.port.node ≡ node
IsFrom node (Some from) l = (l.port.node ≡ node) × ComesFrom from l

-- the same, where the host is written alike
abbrev pub IsPlainlyFrom : ℕ → Option SocketAddr → LaneModel → Type 0
IsPlainlyFrom node None l = l.port.node ≡ node
IsPlainlyFrom node (Some from) l = (l.port.node ≡ node) × ComesPlainlyFrom from l

-- where a datagram comes from, unless it may come from anywhere
abbrev pub source_of : Bool → SocketAddr → Option SocketAddr
source_of is_open from = if is_open then None else Some from

-- which datagrams count as strange, and which as sieved
abbrev pub is_strange : Verdict → Bool
is_strange Given = false
is_strange Told = false
is_strange Strange = true
is_strange Sieved = false

abbrev pub is_sieved : Verdict → Bool
is_sieved Given = false
is_sieved Told = false
is_sieved Strange = false
is_sieved Sieved = true
