-- What a cut is for: whoever delivers it has delivered what the order says, and at least as much as each reporter had.
use Rattle.std.specs.Prelude.{◌≡◌, ℕ, ◌+◌, ◌≤◌, true, List, length, Option, Some, slice_get}
use Rattle.address.specs.Ids.{Address, ViewId}
use Rattle.wire_values.specs.Values.{Entry, held_at, Report}
use Rattle.wire_values.specs.Lists.{is_report}
use Rattle.flush.specs.Cuts.{cut_base, cut_items, IsCut}
use Rattle.flush.specs.Flushes.{FlushModel, IsFlush, report_from, comes_from, group}

-- a fact of each report of a list
abbrev pub EachReport : (Report → Type 0) → List Report → Type 0
EachReport Fact reports = (i : ℕ) (r : Report) → slice_get reports i ≡ Some r → Fact r

-- what a report holds stands in the order at its number, which is counted from 1
abbrev pub AgreesWith : List Entry → Report → Type 0
AgreesWith order r = (k : ℕ) (e : Entry) → held_at (k + 1) r.held ≡ Some e → slice_get order k ≡ Some e

-- the items are those of the order behind the first b, and reach at least what each reporter has delivered
pub record Covers (order : List Entry) (reports : List Report) (b : ℕ) (items : List Entry) : Type 0 where
  pub agrees : (j : ℕ) (e : Entry) → slice_get items j ≡ Some e → slice_get order (b + j) ≡ Some e
  pub reaches : EachReport (λ r. r.delivered ≤ b + length items) reports

-- a cut of reports that agree with one order covers it
abbrev pub CutCovers : Type 0
CutCovers = (order : List Entry) (reports : List Report) (b : ℕ) (items : List Entry) → IsCut reports b items
    → EachReport (λ r. is_report r ≡ true) reports → EachReport (AgreesWith order) reports → Covers order reports b items

-- no base is above what bounds each stable count
abbrev pub BaseIsBelow : Type 0
BaseIsBelow = (n : ℕ) (reports : List Report) (b : ℕ) (items : List Entry) → IsCut reports b items → EachReport (λ r. r.stable ≤ n) reports → b ≤ n

-- reports have one cut
abbrev pub OneCut : Type 0
OneCut = (reports : List Report) (b c : ℕ) (xs ys : List Entry) → IsCut reports b xs → IsCut reports c ys → (b ≡ c) × (xs ≡ ys)

-- a report from a view, and the one address that sent it
pub record HasReporter (v : Option ViewId) (reports : List (Address × Report)) (r : Report) : Type 0 where
  pub reporter : Address
  pub sent : report_from reporter reports ≡ Some r
  pub from : comes_from v r ≡ true

-- the reports of a group are those of addresses that come from its view, and keep the rules of a report
pub record IsGroupOf (v : Option ViewId) (f : FlushModel) (reports : List Report) : Type 0 where
  pub sent : EachReport (HasReporter v f.reports) reports
  pub sound : EachReport (λ r. is_report r ≡ true) reports

abbrev pub GroupsAreReported : Type 0
GroupsAreReported = (f : FlushModel) → IsFlush f → (v : Option ViewId) → IsGroupOf v f (group v f.reports)

-- the base and the items of the reports of a group are its cut
abbrev pub CutIs : Type 0
CutIs = (f : FlushModel) → IsFlush f → (v : Option ViewId) → let reports = group v f.reports in IsCut reports (cut_base reports) (cut_items reports)
