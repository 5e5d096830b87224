-- Where nodes are reached.
use Rattle.std.specs.Prelude.{◌≡◌, ⊤, ℕ, List, [], ◌∷◌, fold, nat_eq, if◌then◌else◌}
use Rattle.std.specs.Borrow.{Bor}
use Rattle.std.specs.Net.Addr.{IsCanonicalOf, MatchIp}
use Rattle.std.specs.Net.Grammar.{IsIpText}
use Rattle.std.specs.declared.net.ip_addr.IpAddr.{IpAddr}
use Rattle.udp_net.specs.declared.hosts.NodeHost.{NodeHost}
use Rattle.udp_net.specs.declared.hosts.TheConstants.{LOCAL}

-- the host of the node itself, and those that are given of others
pub record HostsModel : Type 0 where
  pub own : IpAddr
  pub peers : List NodeHost

-- the last one that is given of a node; this machine where none is
abbrev pub host_of : ℕ → List NodeHost → IpAddr
host_of node peers = fold (λ host p. if nat_eq p.node node then p.host else host) LOCAL peers

-- where a text spells an IP address, it is the host's
abbrev pub IsHostOf : List ℕ → IpAddr → Type 0
IsHostOf text host = (ip : IpAddr) → IsIpText text ip → IsIpText text host

-- the hosts that are given of some nodes, in order
abbrev pub AreHostsOf : List (ℕ × Bor (List ℕ)) → List NodeHost → Type 0
AreHostsOf [] [] = ⊤
AreHostsOf (g ∷ given) (h ∷ hosts) = (h.node ≡ g.0) × IsHostOf g.1.now h.host × AreHostsOf given hosts
AreHostsOf given hosts = ⊥

-- an address without the form in which IPv6 writes one of IPv4
abbrev pub IsCanonical : IpAddr → IpAddr → Type 0
IsCanonical ip canonical = MatchIp ip (λ _. canonical ≡ ip) (λ a. IsCanonicalOf a canonical)

-- two addresses name the same host
abbrev pub IsSameHost : IpAddr → IpAddr → Type 0
IsSameHost one other = (canonical : IpAddr) × IsCanonical one canonical × IsCanonical other canonical
