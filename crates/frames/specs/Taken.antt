-- Which counters of which senders were taken.
use Rattle.std.specs.Prelude.{◌≡◌, ◌≢◌, ℕ, List, [], ◌∷◌, ◌⊎◌, true}
use Rattle.frames.specs.declared.peers.Peer.{Peer}
use Rattle.frames.specs.Windows.{is_used}

-- a counter was taken of the first sender with a boot id
abbrev pub WasTaken : List ℕ → ℕ → List Peer → Type 0
WasTaken boot counter [] = ⊥
WasTaken boot counter (p ∷ peers) = ((p.boot ≡ boot) × (is_used counter p.window.least ≡ true)) ⊎ ((p.boot ≢ boot) × WasTaken boot counter peers)

-- it is the first sender, who is forgotten for a new one
abbrev pub IsFirst : List ℕ → List Peer → Type 0
IsFirst boot [] = ⊥
IsFirst boot (p ∷ peers) = p.boot ≡ boot

-- what was taken stays so, but of the first sender
abbrev pub StayTaken : List Peer → List Peer → Type 0
StayTaken old new = (boot : List ℕ) (counter : ℕ) → WasTaken boot counter old → WasTaken boot counter new ⊎ IsFirst boot old
