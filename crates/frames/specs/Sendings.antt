-- What is sent in frames.
use Rattle.std.specs.Prelude.{◌≡◌, ◌≢◌, ◌<◌, ◌≤◌, ⊤, ℕ, List, [], ◌∷◌, ◌++◌, length, Option, None, Some}
use Rattle.std.specs.List.{AllByRecursion}
use Rattle.udp_net.specs.Logs.{Log, NetEvent, Answered, Offered}
use Rattle.frames.specs.declared.outlet.Seal.{Seal}
use Rattle.frames.specs.Arrivals.{StandsIn}
use Rattle.frames.specs.Carried.{Carries}
use Rattle.frames.specs.Longs.{AreKnown, IsNumbered}
use Rattle.frames.specs.Outlets.{OutletModel}

-- a net was offered a frame that carries packets of this list; by `long` it is known which long packet has a number on the way to a node
abbrev pub IsFrameOf : Seal → (ℕ → ℕ → List ℕ) → List (List ℕ) → NetEvent → Type 0
IsFrameOf s long sent (Answered answer) = ⊥
IsFrameOf s long sent (Offered o) = Carries s.key s.boot long (StandsIn sent) o.bytes

-- a net lists nothing, or what it listed before and more such events
abbrev pub Adds : (NetEvent → Type 0) → Option Log → Option Log → Type 0
Adds Holds old None = ⊤
Adds Holds None (Some l) = ⊥
Adds Holds (Some o) (Some l) = (more : Log) × (l ≡ o ++ more) × AllByRecursion Holds more

-- packets are of this list
abbrev pub AreOf : List (List ℕ) → List (List ℕ) → Type 0
AreOf sent packets = AllByRecursion (StandsIn sent) packets

-- what waits on some ways is of this list
abbrev pub WaitOf : List (List ℕ) → List OutletModel → Type 0
WaitOf sent outlets = AllByRecursion (λ o. AreOf sent o.waiting) outlets

-- if a long packet is given a number on the way to a node, `long` gives it for that
abbrev pub IsLongAt : (ℕ → ℕ → List ℕ) → List ℕ → OutletModel → OutletModel → Type 0
IsLongAt long packet old new = 1353 < length packet → IsNumbered (long old.node) packet old.longs new.longs

-- each long packet that is kept on a way is the one of its number there
abbrev pub AreLongs : (ℕ → ℕ → List ℕ) → OutletModel → Type 0
AreLongs long o = AreKnown (long o.node) o.longs

abbrev pub KeepLongs : (ℕ → ℕ → List ℕ) → List OutletModel → Type 0
KeepLongs long outlets = AllByRecursion (AreLongs long) outlets

-- if a packet for a node is a long one, `long` gives it for its number on the first way there
abbrev pub IsLongOn : (ℕ → ℕ → List ℕ) → ℕ → List ℕ → List OutletModel → List OutletModel → Type 0
IsLongOn long node packet [] new = ⊤
IsLongOn long node packet (o ∷ old) [] = ⊤
IsLongOn long node packet (o ∷ old) (n ∷ new) = (o.node ≡ node → IsLongAt long packet o n) × (o.node ≢ node → IsLongOn long node packet old new)

-- the ways lead to the same nodes, and no number comes again there
abbrev pub AreSameWays : List OutletModel → List OutletModel → Type 0
AreSameWays [] new = ⊤
AreSameWays (o ∷ old) [] = ⊥
AreSameWays (o ∷ old) (n ∷ new) = (n.node ≡ o.node) × (o.longs.next ≤ n.longs.next) × AreSameWays old new

-- (2) what is offered to the net below carries packets of this list, and so does what waits then
abbrev pub Sends : Seal → (ℕ → ℕ → List ℕ) → List (List ℕ) → Option Log → Option Log → List OutletModel → Type 0
Sends s long sent old new outlets = Adds (IsFrameOf s long sent) old new × WaitOf sent outlets × KeepLongs long outlets
