-- The cut of a view: up to which number of its order, and with which entries, its reporters go on together.
use Rattle.std.specs.Prelude.{◌≡◌, ℕ, zero, suc, ◌+◌, List, [], ◌∷◌, length, max, Option, None, Some, slice_get}
use Rattle.std.specs.Option.{option_or, option_map_or}
use Rattle.wire_values.specs.Values.{Entry, held_at, Report}
use Rattle.address.specs.declared.limits.TheConstants.{WINDOW}

-- the first that a function finds in a list
abbrev pub first_of : {X Y : Type 0} → (X → Option Y) → List X → Option Y
first_of f [] = None
first_of f (x ∷ xs) = option_or (f x) (first_of f xs)

-- the entry of the first report that has one at a number
abbrev pub held_among : List Report → ℕ → Option Entry
held_among reports g = first_of (λ r. held_at g r.held) reports

-- the greatest of the stable counts, 0 where there is no report
abbrev pub greatest_stable : List Report → ℕ
greatest_stable [] = 0
greatest_stable (r ∷ reports) = max r.stable (greatest_stable reports)

-- ---- the cut of some reports: its base and its items

-- the number before the first of the items: up to there all have the order
abbrev pub cut_base : List Report → ℕ
cut_base reports = greatest_stable reports

-- the entries in a row from a number on, each as the first report that has it gives it, up to the first that no report has; at most so many
abbrev pub entries_from : List Report → ℕ → ℕ → List Entry
entries_from reports g zero = []
entries_from reports g (suc n) = option_map_or (λ e. e ∷ entries_from reports (g + 1) n) (held_among reports g) []

-- the entries in a row behind the base: no report holds more than the window past its stable count
unfoldable pub cut_items : List Report → List Entry
cut_items reports = entries_from reports (cut_base reports + 1) WINDOW

-- ---- what a cut is

-- a base b and items are the cut of these reports: the base is the greatest stable count, the items are the entries b + 1, b + 2, .., each
-- as the first report that has it gives it, and no report has the number after the last
pub record IsCut (reports : List Report) (b : ℕ) (items : List Entry) : Type 0 where
  pub base : b ≡ greatest_stable reports
  pub each : (j : ℕ) (e : Entry) → slice_get items j ≡ Some e → held_among reports (b + j + 1) ≡ Some e
  pub end : held_among reports (b + length items + 1) ≡ None
