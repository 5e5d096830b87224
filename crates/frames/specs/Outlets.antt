-- What waits for a node, and what goes there.
use Rattle.std.specs.Prelude.{ℕ, ◌+◌, Bool, List, [], ◌∷◌, ◌++◌, length, min, nat_eq, nat_le, if◌then◌else◌}
use Rattle.udp_net.specs.Logs.{Log, offering}
use Rattle.frames.specs.declared.head.Kind.{Kind}
use Rattle.frames.specs.declared.head.Kind.TheVariants.{Packets}
use Rattle.frames.specs.declared.head.Head.{Head}
use Rattle.frames.specs.declared.outlet.Seal.{Seal}
use Rattle.frames.specs.declared.longs.Longs.{Longs}
use Rattle.frames.specs.Frames.{head_bytes, packed, sealed}

-- the node, how many frames and which long packets went there, and the packets that wait
pub record OutletModel : Type 0 where
  pub node : ℕ
  pub frames : ℕ
  pub longs : Longs
  pub waiting : List (List ℕ)

-- the head of the next frame
abbrev pub head_for : Kind → OutletModel → Seal → Head
head_for kind o s = record { kind = kind; to = o.node; boot = s.boot; counter = o.frames }

-- the frame of the packets that wait
abbrev pub waiting_frame : Seal → OutletModel → List ℕ
waiting_frame s o = sealed s.key (head_bytes (head_for Packets o s) ++ packed o.waiting)

-- they were offered together, if there are any
abbrev pub flushing : Seal → OutletModel → Log → Log
flushing s o l = if nat_eq (length o.waiting) 0 then l else offering o.node (waiting_frame s o) l

-- a packet has a place in their frame
abbrev pub has_place : List ℕ → OutletModel → Bool
has_place packet o = nat_le (length packet + 3 + length (packed o.waiting)) 1356

-- where it has not, they go first
abbrev pub opening_for : Seal → List ℕ → OutletModel → Log → Log
opening_for s packet o l = if has_place packet o then l else flushing s o l

abbrev pub waiting_after : List ℕ → OutletModel → List (List ℕ)
waiting_after packet o = (if has_place packet o then o.waiting else []) ++ packet ∷ []

-- the counter of the next frame, behind that of the packets that wait, if there are any
abbrev pub counter_behind : OutletModel → ℕ
counter_behind o = if nat_eq (length o.waiting) 0 then o.frames else min (o.frames + 1) 18446744073709551615
