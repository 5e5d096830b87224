-- Who has not reported yet to a flush: a report takes its sender off that list, and the flush is complete where it is empty.
use Rattle.std.proofs.Common.{◌≡◌, Bool, true, false, cond, not, Some, None, List, [], ◌∷◌, ◌++◌, filter, refl, sym, ap, ◌∙◌}
use Rattle.std.specs.Prelude.{◌||◌, is_some, if◌then◌else◌}
use Rattle.std.specs.List.{list_all}
use Rattle.std.proofs.lemmas.Bool.{and_from}
use Rattle.address.specs.Ids.{Address, same_address, same_view_id}
use Rattle.address.proofs.SameIds.{same_address-refl, same_address-sym, same_view_id-refl}
use Rattle.view.specs.Members.{stands_in}
use Rattle.wire_values.specs.Values.{Report}
use Rattle.flush.specs.Flushes.{FlushModel, has_reported, report_from, is_awaited}
use Rattle.membership.specs.MemberStates.{is_complete, is_expected, recording}

-- those of a list who have not reported
abbrev pub unreported : List (Address × Report) → List Address → List Address
unreported reports list = filter (λ m. not (has_reported m reports)) list

abbrev pub awaited_by : FlushModel → List Address
awaited_by f = unreported f.reports f.members

-- it is complete where nobody is awaited
none-left : (reports : List (Address × Report)) (list : List Address) → unreported reports list ≡ [] → list_all (λ m. has_reported m reports) list ≡ true
none-left reports [] e = refl
none-left reports (p ∷ list) e = by (has_reported p reports) refl e (none-left reports list)
  where
    by : (b : Bool) → has_reported p reports ≡ b → (if not b then p ∷ unreported reports list else unreported reports list) ≡ []
        → (unreported reports list ≡ [] → list_all (λ m. has_reported m reports) list ≡ true) → list_all (λ m. has_reported m reports) (p ∷ list) ≡ true
    by true e none rest = and_from (has_reported p reports) _ e (rest none)
    by false e none rest = absurd (let n : p ∷ unreported reports list ≡ [] = none in cc)

-- and not where one is
one-left : (reports : List (Address × Report)) (list : List Address) (q : Address) (rest : List Address) → unreported reports list ≡ q ∷ rest → list_all (λ m. has_reported m reports) list ≡ false
one-left reports [] q rest e = absurd cc
one-left reports (p ∷ list) q rest e = by (has_reported p reports) refl e (one-left reports list q rest)
  where
    by : (b : Bool) → has_reported p reports ≡ b → (if not b then p ∷ unreported reports list else unreported reports list) ≡ q ∷ rest
        → (unreported reports list ≡ q ∷ rest → list_all (λ m. has_reported m reports) list ≡ false) → list_all (λ m. has_reported m reports) (p ∷ list) ≡ false
    by true e some later = rw e (later some)
    by false e some later = rw e refl

pub complete-at-last : (f : FlushModel) → awaited_by f ≡ [] → is_complete f ≡ true
complete-at-last f e = none-left f.reports f.members e

pub waits-on : (f : FlushModel) (q : Address) (rest : List Address) → awaited_by f ≡ q ∷ rest → is_complete f ≡ false
waits-on f q rest e = one-left f.reports f.members q rest e

-- ---- one report more

-- who has reported after it
pub reported-more : (q p : Address) (r : Report) (reports : List (Address × Report)) → has_reported p (reports ++ (q, r) ∷ []) ≡ has_reported p reports || same_address p q
reported-more q p r [] = by (same_address p q)
  where
    by : (b : Bool) → is_some (cond b (Some r) None) ≡ false || b
    by true = refl
    by false = refl
reported-more q p r (x ∷ reports) = by (same_address p x.0) (reported-more q p r reports)
  where
    by : (b : Bool) → has_reported p (reports ++ (q, r) ∷ []) ≡ has_reported p reports || same_address p q
        → is_some (cond b (Some x.1) (report_from p (reports ++ (q, r) ∷ []))) ≡ is_some (cond b (Some x.1) (report_from p reports)) || same_address p q
    by true e = refl
    by false e = e

-- a report takes its sender off the list
pub taken-off : (q : Address) (r : Report) (reports : List (Address × Report)) (list : List Address)
    → unreported (reports ++ (q, r) ∷ []) list ≡ filter (λ m. not (same_address m q)) (unreported reports list)
taken-off q r reports [] = refl
taken-off q r reports (p ∷ list) = by (has_reported p reports) (same_address p q) (reported-more q p r reports) refl refl (taken-off q r reports list)
  where
    by : (b d : Bool) → has_reported p (reports ++ (q, r) ∷ []) ≡ has_reported p reports || same_address p q → has_reported p reports ≡ b → same_address p q ≡ d
        → unreported (reports ++ (q, r) ∷ []) list ≡ filter (λ m. not (same_address m q)) (unreported reports list)
        → unreported (reports ++ (q, r) ∷ []) (p ∷ list) ≡ filter (λ m. not (same_address m q)) (unreported reports (p ∷ list))
    by true d more e x rest = rw (more, e) rest
    by false true more e x rest = rw (more, e, x) rest
    by false false more e x rest = rw (more, e, x) (ap (λ (l : List Address). p ∷ l) rest)

-- a list whose elements differ, without its first
pub without-first : (q : Address) (rest : List Address) → stands_in q rest ≡ false → filter (λ m. not (same_address m q)) (q ∷ rest) ≡ rest
without-first q rest none = rw (same_address-refl q) (others rest none)
  where
    others : (l : List Address) → stands_in q l ≡ false → filter (λ m. not (same_address m q)) l ≡ l
    others [] e = refl
    others (p ∷ l) e = by (same_address q p) refl e (others l)
      where
        by : (b : Bool) → same_address q p ≡ b → b || stands_in q l ≡ false → (stands_in q l ≡ false → filter (λ m. not (same_address m q)) l ≡ l)
            → filter (λ m. not (same_address m q)) (p ∷ l) ≡ p ∷ l
        by true x none later = absurd (let n : true ≡ false = none in cc)
        by false x none later = rw (same_address-sym p q, x) (ap (λ (z : List Address). p ∷ z) (later none))

-- the next of those who have not reported is awaited, and its report leaves the others
pub next-report : (f : FlushModel) (q : Address) (rest : List Address) (r : Report) → awaited_by f ≡ q ∷ rest → stands_in q rest ≡ false → is_awaited q f ≡ true
    → (recording q f.proposal r f ≡ record f { reports = f.reports ++ (q, r) ∷ [] }) × (awaited_by (record f { reports = f.reports ++ (q, r) ∷ [] }) ≡ rest) × (is_expected q f.proposal f ≡ true)
next-report f q rest r e alone awaited = (
  rw (same_view_id-refl f.proposal, awaited) refl,
  taken-off q r f.reports f.members ∙ ap (filter (λ m. not (same_address m q))) e ∙ without-first q rest alone,
  and_from (same_view_id f.proposal f.proposal) (is_awaited q f) (same_view_id-refl f.proposal) awaited,
)

-- the first of those who have not reported stands in the list, and has not
pub first-awaited : (reports : List (Address × Report)) (list : List Address) (q : Address) (rest : List Address) → unreported reports list ≡ q ∷ rest
    → (stands_in q list ≡ true) × (has_reported q reports ≡ false)
first-awaited reports [] q rest e = absurd cc
first-awaited reports (p ∷ list) q rest e = by (has_reported p reports) refl e (first-awaited reports list q rest)
  where
    later : (b : Bool) → stands_in q list ≡ true → b || stands_in q list ≡ true
    later true e = refl
    later false e = e

    by : (b : Bool) → has_reported p reports ≡ b → (if not b then p ∷ unreported reports list else unreported reports list) ≡ q ∷ rest
        → (unreported reports list ≡ q ∷ rest → (stands_in q list ≡ true) × (has_reported q reports ≡ false)) → (same_address q p || stands_in q list ≡ true) × (has_reported q reports ≡ false)
    by true e some more = let x = more some in (later (same_address q p) x.0, x.1)
    by false e some more =
        let is : p ≡ q = first-same p q (unreported reports list) rest some in
        (rw (sym is, same_address-refl p) refl, ap (λ (z : Address). has_reported z reports) (sym is) ∙ e)
      where
        first-same : (a b : Address) (xs ys : List Address) → a ∷ xs ≡ b ∷ ys → a ≡ b
        first-same a b xs ys e = cc
