-- A flush: a proposal, its list, and the reports of those of the list who reported, in order of arrival.
use Rattle.std.specs.Prelude.{◌≡◌, true, false, Bool, not, ◌&&◌, List, [], ◌∷◌, ◌++◌, map, filter, Option, Some, is_some, if◌then◌else◌}
use Rattle.std.specs.List.{list_all}
use Rattle.std.specs.Map.{lookup}
use Rattle.std.specs.Option.{option_eq, option_map_or, option_and_then}
use Rattle.address.specs.Ids.{Address, ViewId, same_address, same_view_id}
use Rattle.view.specs.Members.{stands_in, is_distinct}
use Rattle.wire_values.specs.Values.{Report}
use Rattle.wire_values.specs.Lists.{is_report}
use Rattle.flush.specs.declared.progress.Progress.{Progress}
use Rattle.flush.specs.declared.progress.Progress.TheVariants.{Waiting, Complete}

-- a flush as contracts see it
pub record FlushModel : Type 0 where
  pub proposal : ViewId
  pub members : List Address
  pub reports : List (Address × Report)

-- what holds of each flush: the reports are of those of the list, one of each, and each keeps the rules of a report
pub record IsFlush (f : FlushModel) : Type 0 where
  pub listed : list_all (λ p. stands_in p.0 f.members) f.reports ≡ true
  pub once : is_distinct (map (λ p. p.0) f.reports) ≡ true
  pub sound : list_all (λ p. is_report p.1) f.reports ≡ true

-- the report that an address sent
abbrev pub report_from : Address → List (Address × Report) → Option Report
report_from p reports = lookup (same_address p) reports

abbrev pub has_reported : Address → List (Address × Report) → Bool
has_reported p reports = is_some (report_from p reports)

-- whether a report is of a member that comes from this view, or, for none, from no view
abbrev pub comes_from : Option ViewId → Report → Bool
comes_from v r = option_eq same_view_id r.previous v

-- the reports of those who come from a view, in order of arrival
abbrev pub group : Option ViewId → List (Address × Report) → List Report
group v reports = filter (comes_from v) (map (λ p. p.1) reports)

-- whether a report from an address is awaited: it stands in the list and did not report
abbrev pub is_awaited : Address → FlushModel → Bool
is_awaited p f = stands_in p f.members && not (has_reported p f.reports)

-- the flush after a report came from an address
abbrev pub reported : Address → Report → FlushModel → FlushModel
reported p r f = if is_awaited p f then record f { reports = f.reports ++ (p, r) ∷ [] } else f

-- whether all of the list have reported
abbrev pub progress_of : FlushModel → Progress
progress_of f = if list_all (λ m. has_reported m f.reports) f.members then Complete else Waiting

-- whether an address reported that it comes from a view
abbrev pub has_come_from : Option ViewId → Address → List (Address × Report) → Bool
has_come_from v p reports = option_map_or (comes_from v) (report_from p reports) false

-- those of the list who reported the same previous view as an address, itself among them; nobody where it did not report
abbrev pub together_of : Address → FlushModel → List Address
together_of p f = option_map_or (λ r. filter (λ m. has_come_from r.previous m f.reports) f.members) (report_from p f.reports) []

-- whether all who reported come from one view
abbrev pub all_come_from : ViewId → List (Address × Report) → Bool
all_come_from v reports = list_all (λ p. comes_from (Some v) p.1) reports

-- the view from which an address reported that it comes; none where it did not report
abbrev pub previous_of : Address → FlushModel → Option ViewId
previous_of p f = option_and_then (λ r. r.previous) (report_from p f.reports)
