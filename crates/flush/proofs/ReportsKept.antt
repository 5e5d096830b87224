-- Reports that are kept: as bytes, and in order of arrival.
use Rattle.std.proofs.Common.{◌≡◌, ℕ, Bool, true, false, cond, not, ◌&&◌, ◌||◌, Some, List, [], ◌∷◌, ◌++◌, length, map, Ok, refl, ap, ◌∙◌, is_some}
use Rattle.std.specs.List.{flat_map, list_all, AllByRecursion}
use Rattle.std.proofs.lemmas.Bool.{and_parts, and_from, not-true}
use Rattle.std.proofs.lemmas.List.{map-append}
use Rattle.std.proofs.lemmas.List.Folds.{list_all-append}
use Rattle.view.specs.Members.{stands_in, is_distinct}
use Rattle.wire_values.specs.Values.{Entry, Report}
use Rattle.wire_values.specs.Reading.{list_at}
use Rattle.wire_values.specs.Fields.{IsPlaced, placed_bytes, placed_at}
use Rattle.indexmap.specs.IndexMap.{IndexMap, insert_entry}
use Rattle.indexmap.proofs.CallerLemmas.{insert_entry-new}
use Rattle.address.specs.Ids.{Address, same_address}
use Rattle.flush.specs.Flushes.{FlushModel, IsFlush, is_awaited, has_reported, report_from}
use Rattle.wire_values.specs.Lists.{is_report}
use Rattle.wire_values.proofs.FieldLaws.{placed_part}
use Rattle.wire_values.proofs.Loops.{spelled_whole}
use Rattle.view.proofs.MembersListed.{distinct-push}
use Rattle.address.proofs.Plain.{is-none}

-- the bytes that spell a report's entries are read as these entries
pub kept-held : (count : ℕ) (bytes : List ℕ) (held : List (ℕ × Entry)) → AllByRecursion IsPlaced held → length held ≡ count → bytes ≡ flat_map placed_bytes held
    → list_at placed_at count bytes ≡ Ok (held, [])
kept-held count bytes held fits n e = spelled_whole placed_at placed_bytes IsPlaced placed_part count bytes held fits n e

-- the report of an address that had not reported comes last
pub comes-last : {S : Type 0} (p : Address) (r : Report) (m : IndexMap Address Report S) → has_reported p m.entries ≡ false
    → insert_entry same_address m.entries p r ≡ m.entries ++ (p, r) ∷ []
comes-last p r m h = insert_entry-new same_address m p r (is-none (report_from p m.entries) h)

-- ---- a report more

-- who reported stands among the reporters
pub reporter-stands : (p : Address) (reports : List (Address × Report)) → stands_in p (map (λ x. x.0) reports) ≡ has_reported p reports
reporter-stands p [] = refl
reporter-stands p (x ∷ reports) = by (same_address p x.0) (reporter-stands p reports)
  where
    by : (b : Bool) → stands_in p (map (λ x. x.0) reports) ≡ has_reported p reports
        → (b || stands_in p (map (λ x. x.0) reports)) ≡ is_some (cond b (Some x.1) (report_from p reports))
    by true rest = refl
    by false rest = rest

all-push : {X : Type 0} (test : X → Bool) (xs : List X) (x : X) → list_all test xs ≡ true → test x ≡ true → list_all test (xs ++ x ∷ []) ≡ true
all-push test xs x a b = list_all-append test xs (x ∷ []) ∙ and_from (list_all test xs) (test x && true) a (and_from (test x) true b refl)

-- what holds of each flush holds with an awaited report more
pub flush-kept : (f : FlushModel) (p : Address) (r : Report) → IsFlush f → is_awaited p f ≡ true → is_report r ≡ true
    → IsFlush (record f { reports = f.reports ++ (p, r) ∷ [] })
flush-kept f p r i awaited sound =
    let parts = and_parts (stands_in p f.members) (not (has_reported p f.reports)) awaited in
    let new : stands_in p (map (λ x. x.0) f.reports) ≡ false = reporter-stands p f.reports ∙ not-true (has_reported p f.reports) parts.1 in record {
      listed = all-push (λ x. stands_in x.0 f.members) f.reports (p, r) i.listed parts.0;
      once = ap is_distinct (map-append (λ x. x.0) f.reports ((p, r) ∷ [])) ∙ distinct-push p (map (λ x. x.0) f.reports) i.once new;
      sound = all-push (λ x. is_report x.1) f.reports (p, r) i.sound sound;
    }
