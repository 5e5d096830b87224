-- How many items a cut has.
use Rattle.std.proofs.Common.{ℕ, zero, suc, ◌+◌, ◌≤◌, List, [], ◌∷◌, length, Option, Some, None, arith}
use Rattle.address.specs.declared.limits.TheConstants.{WINDOW}
use Rattle.std.specs.Option.{option_map_or}
use Rattle.wire_values.specs.Values.{Entry, Report}
use Rattle.flush.specs.Cuts.{cut_base, cut_items, entries_from, held_among}

pub few-from : (reports : List Report) (g n : ℕ) → length (entries_from reports g n) ≤ n
few-from reports g zero = omega arith
few-from reports g (suc n) = by (held_among reports g) (few-from reports (g + 1) n)
  where
    by : (o : Option Entry) → length (entries_from reports (g + 1) n) ≤ n → length (option_map_or (λ e. e ∷ entries_from reports (g + 1) n) o []) ≤ suc n
    by None few = omega arith
    by (Some e) few = omega (arith, few)

pub cut-few : (reports : List Report) → length (cut_items reports) ≤ WINDOW
unfolding cut_items
cut-few reports = few-from reports (cut_base reports + 1) WINDOW
