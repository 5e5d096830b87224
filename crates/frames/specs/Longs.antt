-- The numbers of long packets on the way to a node.
use Rattle.std.specs.Prelude.{◌≡◌, ◌<◌, ℕ, List, [], ◌∷◌, ◌&&◌, nat_eq, nat_lt, if◌then◌else◌}
use Rattle.std.specs.List.{AllByRecursion}
use Rattle.std.specs.Cmp.Lexicographic.{pointwise}
use Rattle.frames.specs.declared.longs.Long.{Long}
use Rattle.frames.specs.declared.longs.Longs.{Longs}

-- the number of a packet: that of the first one that is kept and has these bytes; the next one, if there is none
abbrev pub number_in : List ℕ → ℕ → List Long → ℕ
number_in packet next [] = next
number_in packet next (k ∷ kept) = if nat_lt k.number next && pointwise nat_eq k.packet packet then k.number else number_in packet next kept

abbrev pub number_for : List ℕ → Longs → ℕ
number_for packet l = number_in packet l.next l.kept.items

-- each that is kept is the packet of its number
abbrev pub AreKnown : (ℕ → List ℕ) → Longs → Type 0
AreKnown long l = AllByRecursion (λ k. long k.number ≡ k.packet) l.kept.items

-- a packet goes with this number, which no other one has from then on
abbrev pub HasNumber : List ℕ → Longs → Longs → ℕ → Type 0
HasNumber packet old new number = (number ≡ number_for packet old) × (number < new.next)

-- if a packet has a number, `long` gives it for that
abbrev pub IsNumbered : (ℕ → List ℕ) → List ℕ → Longs → Longs → Type 0
IsNumbered long packet old new = number_for packet old < new.next → long (number_for packet old) ≡ packet
