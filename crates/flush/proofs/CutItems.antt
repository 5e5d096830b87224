-- The cut as a function: the entries in a row behind the greatest stable count.
use Rattle.std.proofs.Common.{◌≡◌, ℕ, zero, suc, ◌+◌, ◌≤◌, true, Option, Some, None, List, [], ◌∷◌, length, refl, ap, ◌∙◌, arith}
use Rattle.std.specs.Prelude.{slice_get, is_some}
use Rattle.std.specs.Option.{option_map_or}
use Rattle.address.specs.declared.limits.TheConstants.{WINDOW}
use Rattle.wire_values.specs.Values.{Entry, held_at, Report}
use Rattle.address.specs.Ids.{ViewId}
use Rattle.wire_values.specs.Lists.{is_report}
use Rattle.flush.specs.Cuts.{held_among, greatest_stable, entries_from, cut_items, IsCut}
use Rattle.flush.specs.Flushes.{FlushModel, IsFlush, group}
use Rattle.flush.specs.Covers.{EachReport, CutIs}
use Rattle.flush.proofs.Covers.{first-stands, stable-le, one-cut}
use Rattle.flush.proofs.Groups.{groups-are-reported}
use Rattle.flush.proofs.Reports.{report-near}

abbrev row : Option Entry → List Entry → List Entry
row o rest = option_map_or (λ e. e ∷ rest) o []

each-by : (o : Option Entry) (reports : List Report) (g : ℕ) (rest : List Entry) (j : ℕ) (e : Entry) → held_among reports g ≡ o
    → ((k : ℕ) → slice_get rest k ≡ Some e → held_among reports (g + 1 + k) ≡ Some e) → slice_get (row o rest) j ≡ Some e → held_among reports (g + j) ≡ Some e
each-by None reports g rest j e q later at = absurd (let x : None ≡ Some e = at in cc)
each-by (Some y) reports g rest zero e q later at = ap (held_among reports) (let x : g + 0 ≡ g = omega arith in x) ∙ q ∙ at
each-by (Some y) reports g rest (suc j) e q later at = ap (held_among reports) (let x : g + suc j ≡ g + 1 + j = omega arith in x) ∙ later j at

each-from : (reports : List Report) (g n j : ℕ) (e : Entry) → slice_get (entries_from reports g n) j ≡ Some e → held_among reports (g + j) ≡ Some e
each-from reports g zero j e at = absurd (let x : None ≡ Some e = at in cc)
each-from reports g (suc n) j e at = each-by (held_among reports g) reports g (entries_from reports (g + 1) n) j e refl (λ k there. each-from reports (g + 1) n k e there) at

end-by : (o : Option Entry) (reports : List Report) (g : ℕ) (rest : List Entry) → held_among reports g ≡ o → held_among reports (g + 1 + length rest) ≡ None
    → held_among reports (g + length (row o rest)) ≡ None
end-by None reports g rest q later = ap (held_among reports) (let x : g + 0 ≡ g = omega arith in x) ∙ q
end-by (Some y) reports g rest q later = ap (held_among reports) (let x : g + suc (length rest) ≡ g + 1 + length rest = omega arith in x) ∙ later

end-from : (reports : List Report) (g n : ℕ) → held_among reports (g + n) ≡ None → held_among reports (g + length (entries_from reports g n)) ≡ None
end-from reports g zero none = none
end-from reports g (suc n) none =
    end-by (held_among reports g) reports g (entries_from reports (g + 1) n) refl
    (end-from reports (g + 1) n (ap (held_among reports) (let x : g + 1 + n ≡ g + suc n = omega arith in x) ∙ none))

far-by : (o : Option Entry) (reports : List Report) (g : ℕ) → held_among reports g ≡ o → EachReport (λ r. is_report r ≡ true) reports → greatest_stable reports + WINDOW + 1 ≤ g → held_among reports g ≡ None
far-by None reports g q sound past = q
far-by (Some e) reports g q sound past =
    let s = first-stands (λ r. held_at g r.held) reports e q in
    let near = report-near s.element (sound s.index s.element s.stands) g (ap is_some s.gives) in
    let low = stable-le reports s.index s.element s.stands in
    absurd (omega (arith, near.1, low, past))

pub cut-is : CutIs
unfolding cut_items
cut-is f i v =
    let reports = group v f.reports in
    let b = greatest_stable reports in
    let sound = (groups-are-reported f i v).sound in
    record {
      base = refl;
      each = λ j e at. ap (held_among reports) (let x : b + j + 1 ≡ b + 1 + j = omega arith in x) ∙ each-from reports (b + 1) WINDOW j e at;
      end = ap (held_among reports) (let x : b + length (entries_from reports (b + 1) WINDOW) + 1 ≡ b + 1 + length (entries_from reports (b + 1) WINDOW) = omega arith in x)
          ∙ end-from reports (b + 1) WINDOW (far-by (held_among reports (b + 1 + WINDOW)) reports (b + 1 + WINDOW) refl sound (omega arith));
    }

-- a cut of a group is that one
pub is-cut : (f : FlushModel) → IsFlush f → (v : Option ViewId) (b : ℕ) (items : List Entry) → IsCut (group v f.reports) b items → items ≡ cut_items (group v f.reports)
is-cut f i v b items cut = (one-cut (group v f.reports) b (greatest_stable (group v f.reports)) items (cut_items (group v f.reports)) cut (cut-is f i v)).1
