-- Hosts that are given of some nodes are so with the next one.
use Rattle.std.proofs.Common.{◌≡◌, ◌<◌, ℕ, ◌+◌, List, [], ◌∷◌, ◌++◌, take, length, get_or, refl, sym}
use Rattle.std.proofs.lemmas.List.{take_more}
use Rattle.std.specs.Borrow.{Bor}
use Rattle.std.specs.declared.net.ip_addr.IpAddr.{IpAddr}
use Rattle.udp_net.specs.declared.hosts.NodeHost.{NodeHost}
use Rattle.udp_net.specs.Hosts.{IsHostOf, AreHostsOf}

hosts-push : (given : List (ℕ × Bor (List ℕ))) (hosts : List NodeHost) (g : ℕ × Bor (List ℕ)) (h : NodeHost) → AreHostsOf given hosts
    → h.node ≡ g.0 → IsHostOf g.1.now h.host → AreHostsOf (given ++ g ∷ []) (hosts ++ h ∷ [])
hosts-push [] [] g h are node host = (node, host, tt)
hosts-push (x ∷ given) (y ∷ hosts) g h are node host = (are.0, are.1, hosts-push given hosts g h are.2 node host)
hosts-push [] (y ∷ hosts) g h are node host = absurd are
hosts-push (x ∷ given) [] g h are node host = absurd are

-- the host of the node at an index goes behind those of the nodes before it
pub hosts-next : (given : List (ℕ × Bor (List ℕ))) (i : ℕ) (g : ℕ × Bor (List ℕ)) (old new : List NodeHost) (host : IpAddr) → i < length given → g ≡ get_or given i g
    → AreHostsOf (take i given) old → IsHostOf g.1.now host → new ≡ old ++ record { node = g.0; host = host } ∷ [] → AreHostsOf (take (i + 1) given) new
hosts-next given i g old new host within at are is put =
    rw (put, take_more given i g within, sym at) (hosts-push (take i given) old g (record { node = g.0; host = host }) are refl is)
