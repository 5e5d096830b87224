-- The receive window: what it is, what is offered to it and what is let go.
use Rattle.std.specs.Prelude.{◌≡◌, ℕ, ◌+◌, ◌<◌, ◌≤◌, Bool, not, ◌&&◌, List, [], None, IsSome, is_some, filter, nat_lt, nat_le, min, if◌then◌else◌}
use Rattle.std.specs.Ordering.{nat_cmp}
use Rattle.std.specs.Map.{keys_of}
use Rattle.std.specs.BTreeMap.{insert_entry}
use Rattle.std.specs.List.Sorted.{IsStrictlySortedBy}
use Rattle.wire_values.specs.Values.{Entry, held_at}
use Rattle.address.specs.declared.limits.TheConstants.{WINDOW, GREATEST_NUMBER}

-- a window: a stable count, a delivered count, and what is held, as pairs of number and entry with rising numbers
pub record WindowModel : Type 0 where
  pub stable : ℕ
  pub delivered : ℕ
  pub held : List (ℕ × Entry)

-- an entry more, at its place among the rising numbers
abbrev pub held_with : ℕ → Entry → List (ℕ × Entry) → List (ℕ × Entry)
held_with g e held = insert_entry nat_cmp held g e

-- what lies above a number
abbrev pub held_above : ℕ → List (ℕ × Entry) → List (ℕ × Entry)
held_above t held = filter (λ p. nat_lt t p.0) held

-- what holds of each window
pub record IsWindow (w : WindowModel) : Type 0 where
  pub counts : w.stable ≤ w.delivered
  pub last : w.delivered ≤ GREATEST_NUMBER
  pub above : (g : ℕ) → IsSome (held_at g w.held) → w.stable < g
  pub within : (g : ℕ) → IsSome (held_at g w.held) → g ≤ w.stable + WINDOW
  pub small : (g : ℕ) → IsSome (held_at g w.held) → g ≤ GREATEST_NUMBER
  pub there : (g : ℕ) → w.stable < g → g ≤ w.delivered → IsSome (held_at g w.held)
  pub rising : IsStrictlySortedBy nat_cmp (keys_of w.held)

-- the window of a new view
abbrev pub empty_window : WindowModel
empty_window = record { stable = 0; delivered = 0; held = [] }

-- whether an entry with this number is taken: it is above what was delivered, within reach, and new
abbrev pub offers : ℕ → WindowModel → Bool
offers g w = nat_lt w.delivered g && nat_le g (w.stable + WINDOW) && nat_le g GREATEST_NUMBER && not (is_some (held_at g w.held))

-- the window after an entry was offered
abbrev pub taken : ℕ → Entry → WindowModel → WindowModel
taken g e w = if offers g w then record w { held = held_with g e w.held } else w

-- the window after the next number was delivered, where it is held
abbrev pub delivering : WindowModel → WindowModel
delivering w = if is_some (held_at (w.delivered + 1) w.held) then record w { delivered = w.delivered + 1 } else w

-- the window after a count is known to be stable
abbrev pub collected : ℕ → WindowModel → WindowModel
collected t w =
    if nat_lt w.stable (min t w.delivered)
    then record { stable = min t w.delivered; delivered = w.delivered; held = held_above (min t w.delivered) w.held }
    else w

-- a number above what was delivered, up to the highest, that is not held
pub record IsMissing (w : WindowModel) (highest g : ℕ) : Type 0 where
  pub undelivered : w.delivered < g
  pub known : g ≤ highest
  pub unheld : held_at g w.held ≡ None

-- the least number that is missing
pub record IsLeastGap (w : WindowModel) (highest g : ℕ) : Type 0 where
  pub missing : IsMissing w highest g
  pub least : (k : ℕ) → IsMissing w highest k → g ≤ k

-- the greatest number that is missing
pub record IsGreatestGap (w : WindowModel) (highest g : ℕ) : Type 0 where
  pub missing : IsMissing w highest g
  pub greatest : (k : ℕ) → IsMissing w highest k → k ≤ g
