-- The reports of a group: who sent them.
use Rattle.std.proofs.Common.{◌≡◌, ℕ, zero, suc, Bool, true, false, cond, not, Option, Some, None, List, [], ◌∷◌, map, refl, sym, ap, ◌∙◌, is_some}
use Rattle.std.specs.Prelude.{slice_get}
use Rattle.std.specs.List.{list_all}
use Rattle.std.proofs.lemmas.Bool.{and_parts, not-true}
use Rattle.address.specs.Ids.{Address, ViewId, same_address}
use Rattle.view.specs.Members.{stands_in, is_distinct}
use Rattle.wire_values.specs.Values.{Report}
use Rattle.wire_values.specs.Lists.{is_report}
use Rattle.flush.specs.Flushes.{report_from, has_reported, comes_from, group}
use Rattle.flush.specs.Covers.{EachReport, HasReporter, GroupsAreReported}
use Rattle.flush.proofs.ReportsKept.{reporter-stands}
use Rattle.address.proofs.SameIds.{same_address-refl, same_address-true}

-- a report that stands behind another one is still the one that its address sent
sent-by : (b : Bool) (q : Address) (x : Address × Report) (reports : List (Address × Report)) (r : Report) → same_address q x.0 ≡ b
    → has_reported x.0 reports ≡ false → report_from q reports ≡ Some r → report_from q (x ∷ reports) ≡ Some r
sent-by true q x reports r same new sent =
    let e : q ≡ x.0 = same_address-true q x.0 same in
    let there : has_reported x.0 reports ≡ true = ap (λ p. has_reported p reports) (sym e) ∙ ap is_some sent in
    let n : true ≡ false = sym there ∙ new in absurd cc
sent-by false q x reports r same new sent = ap (λ t. cond t (Some x.1) (report_from q reports)) same ∙ sent

behind : (v : Option ViewId) (x : Address × Report) (reports : List (Address × Report)) (r : Report) → has_reported x.0 reports ≡ false
    → HasReporter v reports r → HasReporter v (x ∷ reports) r
behind v x reports r new h = record {
  reporter = h.reporter;
  sent = sent-by (same_address h.reporter x.0) h.reporter x reports r refl new h.sent;
  from = h.from;
}

in-group : (b : Bool) (v : Option ViewId) (x : Address × Report) (reports : List (Address × Report)) → comes_from v x.1 ≡ b → has_reported x.0 reports ≡ false
    → EachReport (HasReporter v reports) (group v reports) → (i : ℕ) (r : Report) → slice_get (cond b (x.1 ∷ group v reports) (group v reports)) i ≡ Some r
    → HasReporter v (x ∷ reports) r
in-group true v x reports q new rest zero r at =
    let e : Some x.1 ≡ Some r = at in
    let s : x.1 ≡ r = cc in
    record {
      reporter = x.0;
      sent = ap (λ t. cond t (Some x.1) (report_from x.0 reports)) (same_address-refl x.0) ∙ at;
      from = ap (comes_from v) (sym s) ∙ q;
    }
in-group true v x reports q new rest (suc i) r at = behind v x reports r new (rest i r at)
in-group false v x reports q new rest i r at = behind v x reports r new (rest i r at)

group-sent : (v : Option ViewId) (reports : List (Address × Report)) → is_distinct (map (λ x. x.0) reports) ≡ true → EachReport (HasReporter v reports) (group v reports)
group-sent v [] once i r at = absurd (let n : None ≡ Some r = at in cc)
group-sent v (x ∷ reports) once i r at =
    let parts = and_parts (not (stands_in x.0 (map (λ y. y.0) reports))) (is_distinct (map (λ y. y.0) reports)) once in
    let new : has_reported x.0 reports ≡ false = sym (reporter-stands x.0 reports) ∙ not-true (stands_in x.0 (map (λ y. y.0) reports)) parts.0 in
    in-group (comes_from v x.1) v x reports refl new (group-sent v reports parts.1) i r at

sound-by : (b : Bool) (v : Option ViewId) (x : Address × Report) (reports : List (Address × Report)) → is_report x.1 ≡ true
    → EachReport (λ r. is_report r ≡ true) (group v reports) → (i : ℕ) (r : Report) → slice_get (cond b (x.1 ∷ group v reports) (group v reports)) i ≡ Some r → is_report r ≡ true
sound-by true v x reports here rest zero r at = let e : Some x.1 ≡ Some r = at in let s : x.1 ≡ r = cc in ap is_report (sym s) ∙ here
sound-by true v x reports here rest (suc i) r at = rest i r at
sound-by false v x reports here rest i r at = rest i r at

group-sound : (v : Option ViewId) (reports : List (Address × Report)) → list_all (λ x. is_report x.1) reports ≡ true → EachReport (λ r. is_report r ≡ true) (group v reports)
group-sound v [] sound i r at = absurd (let n : None ≡ Some r = at in cc)
group-sound v (x ∷ reports) sound i r at =
    let parts = and_parts (is_report x.1) (list_all (λ y. is_report y.1) reports) sound in
    sound-by (comes_from v x.1) v x reports parts.0 (group-sound v reports parts.1) i r at

pub groups-are-reported : GroupsAreReported
groups-are-reported f i v = record { sent = group-sent v f.reports i.once; sound = group-sound v f.reports i.sound }
