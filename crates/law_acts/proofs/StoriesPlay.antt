-- What the stories' steps stand on: who takes part, what is held, what a flush gathers, lists of steps one after another; and the chapters with which
-- all stories begin. All of it is concrete, so nearly all computes.
use Rattle.std.proofs.Common.{◌≡◌, ℕ, zero, suc, ◌+◌, ◌≤◌, Bool, true, false, cond, Option, Some, None, List, [], ◌∷◌, ◌++◌, map, refl, sym, ap, ◌∙◌, subst, arith, is_some, inl}
use Rattle.std.specs.Prelude.{IsSome, slice_get}
use Rattle.std.specs.Option.{ForSome}
use Rattle.std.specs.List.{Contains}
use Rattle.std.proofs.lemmas.Option.{none-some, same_Some, slice_get_within, get_or_from_slice_get}
use Rattle.address.specs.Ids.{Address, ViewId, IsAddress, same_address}
use Rattle.view.specs.Members.{stands_in}
use Rattle.wire_values.specs.Values.{Entry, held_at, Report}
use Rattle.state_transfer.specs.Meanings.{Meaning}
use Rattle.flush.specs.Cuts.{held_among, greatest_stable, IsCut}
use Rattle.flush.specs.Flushes.{report_from, group}
use Rattle.flush.proofs.ReportsKept.{reporter-stands}
use Rattle.trace_props.specs.Rules.{IsBelow}
use Rattle.law_acts.specs.Acts.{Cuts, HoldsMore, HoldsAbove, lone_view}
use Rattle.law_acts.specs.Steps.{System, Step, nothing_yet, MayRun, after_steps, stepped}
use Rattle.law_acts.specs.Stories.{one, two, three, view_of_two, view_of_three, held_first, delivered_nothing, two_reports, three_reports, empty_cuts, first_chapter, second_chapter, third_chapter, joining}

-- ---- who takes part

pub one-is : IsAddress one
one-is = record { node = omega arith; node_fits = omega arith; incarnation = omega arith; incarnation_fits = omega arith }

pub two-is : IsAddress two
two-is = record { node = omega arith; node_fits = omega arith; incarnation = omega arith; incarnation_fits = omega arith }

three-is : IsAddress three
three-is = record { node = omega arith; node_fits = omega arith; incarnation = omega arith; incarnation_fits = omega arith }

-- ---- what is there or not

-- nothing is to be shown of no value
pub for-none : {X : Type 0} (P : X → Type 0) → ForSome None P
for-none P x e = absurd (none-some x e)

pub for-some : {X : Type 0} (P : X → Type 0) (x : X) → P x → ForSome (Some x) P
for-some P x holds y e = subst P (same_Some x y e) holds

-- one step is allowed, and then the rest
infixr 5 ◌▸◌
abbrev pub ◌▸◌ : {A B : Type 0} → A → B → A × B
a ▸ b = (a, b)

-- ---- what is held

pub holds-first : (e : Entry) → HoldsMore [] 1 e (held_first e)
holds-first e = record { free = refl; now = λ k. refl }

-- nothing is stable, and nothing is let go of
below-first : (held : List (ℕ × Entry)) (k : ℕ) → held_at 0 held ≡ None → k ≤ 0 → held_at k held ≡ None
below-first held zero none low = none
below-first held (suc k) none low = absurd (omega arith)

pub keeps-all : (held : List (ℕ × Entry)) → held_at 0 held ≡ None → HoldsAbove held 0 held
keeps-all held none = record { above = λ k high. refl; below = λ k low. below-first held k none low }

pub at-least-none : (n : ℕ) → 0 ≤ n
at-least-none n = omega arith

-- what waits afterwards is a message that waited or the new one
pub all-wait : (waiting : List Entry) (k : ℕ) (e : Entry) → slice_get waiting k ≡ Some e → Contains waiting e
all-wait waiting k e at = (k, slice_get_within waiting k e at, get_or_from_slice_get waiting k e e at)

-- nothing waits afterwards
pub none-waits : (old : List Entry) (k : ℕ) (e : Entry) → slice_get [] k ≡ Some e → Contains old e
none-waits old k e at = absurd (none-some e at)

-- ---- who reported what

-- the reporters of a list are those that it names
pub all-reported : (reports : List (Address × Report)) (q : Address) → stands_in q (map (λ p. p.0) reports) ≡ true → IsSome (report_from q reports)
all-reported reports q listed = sym (reporter-stands q reports) ∙ listed

-- something holds of each report
abbrev pub Each : (Report → Type 0) → List (Address × Report) → Type 0
Each P [] = Unit {0}
Each P (x ∷ reports) = P x.1 × Each P reports

each-by : (P : Report → Type 0) (b : Bool) (x : Address × Report) (rest : Option Report) (r : Report) → P x.1 → (rest ≡ Some r → P r) → cond b (Some x.1) rest ≡ Some r → P r
each-by P true x rest r holds later e = subst P (same_Some x.1 r e) holds
each-by P false x rest r holds later e = later e

each-from : (P : Report → Type 0) (reports : List (Address × Report)) (q : Address) (r : Report) → Each P reports → report_from q reports ≡ Some r → P r
each-from P [] q r all e = absurd (none-some r e)
each-from P (x ∷ reports) q r all e = each-by P (same_address q x.0) x (report_from q reports) r all.0 (each-from P reports q r all.1) e

-- the cut of the view that a report names
abbrev pub HasCut : List (Address × Report) → Cuts → Report → Type 0
HasCut reports cuts r = ForSome r.previous (λ u. IsCut (group (Some u) reports) (cuts.base u) (cuts.items u))

pub cuts-of : (reports : List (Address × Report)) (cuts : Cuts) → Each (HasCut reports cuts) reports → (q : Address) (r : Report) (u : ViewId) → report_from q reports ≡ Some r → r.previous ≡ Some u
    → IsCut (group (Some u) reports) (cuts.base u) (cuts.items u)
cuts-of reports cuts all q r u e from = each-from (HasCut reports cuts) reports q r all e u from

-- nothing is held past what is stable
pub no-items : (reports : List Report) (b : ℕ) → greatest_stable reports ≡ b → held_among reports (b + 0 + 1) ≡ None → IsCut reports b []
no-items reports b stable end = record { base = sym stable; each = λ j e at. absurd (none-some e at); end = end }

-- ---- the flushes with which all stories begin

pub two-cuts : Each (HasCut two_reports empty_cuts) two_reports
two-cuts =
    let cut = for-some (λ u. IsCut (group (Some u) two_reports) 0 []) (lone_view one).id (no-items (delivered_nothing (lone_view one) ∷ []) 0 refl refl) in
    (cut, (for-none (λ u. IsCut (group (Some u) two_reports) 0 []), tt))

three-cuts : Each (HasCut three_reports empty_cuts) three_reports
three-cuts =
    let cut = for-some (λ u. IsCut (group (Some u) three_reports) 0 []) view_of_two.id (no-items (delivered_nothing view_of_two ∷ delivered_nothing view_of_two ∷ []) 0 refl refl) in
    (cut, (cut, (for-none (λ u. IsCut (group (Some u) three_reports) 0 []), tt)))

module _ {S : Type 0} (meaning : Meaning S) where
  abbrev pub Runs : System S → List Step → Type 0
  Runs s steps = MayRun meaning s steps

  abbrev pub After : System S → List Step → System S
  After s steps = after_steps meaning s steps

  -- two lists of steps one after the other
  pub run-then : (s : System S) (steps more : List Step) → Runs s steps → Runs (After s steps) more → Runs s (steps ++ more)
  run-then s [] more a b = b
  run-then s (x ∷ steps) more a b = (a.0, run-then (stepped meaning s x) steps more a.1 b)

  -- ---- the first chapters

  abbrev pub second_system : System S
  second_system = After nothing_yet first_chapter

  abbrev pub third_system : System S
  third_system = After second_system (second_chapter (meaning.encode meaning.opening))

  abbrev pub fourth_system : System S
  fourth_system = After third_system (third_chapter (meaning.encode meaning.opening))

  first-runs : Runs nothing_yet first_chapter
  first-runs = (one-is, refl) ▸ record { unconnected = refl; unpromised = refl; outside = refl } ▸ tt

  second-runs : meaning.decode (meaning.encode meaning.opening) ≡ Some meaning.opening → Runs second_system (second_chapter (meaning.encode meaning.opening))
  second-runs reads =
      (two-is, refl)
      ▸ refl
      ▸ tt
      ▸ record { inside = refl; own = refl; above = for-some (λ p. IsBelow p.id view_of_two.id) (lone_view one) refl; view = refl }
      ▸ record { asked = refl; listed = refl; connected = refl; above = inl (for-none (λ p. IsBelow p.id view_of_two.id)) }
      ▸ record { flush = refl; received = refl; listed = refl; new = refl }
      ▸ record { view = refl; flush = refl; all = all-reported two_reports; cut = cuts-of two_reports empty_cuts two-cuts; gives = refl }
      ▸ record { asked = refl; promised = refl; waiting = refl; fits = record { base = refl; items = refl; state = refl }; gives = refl; readable = for-some (λ bytes. IsSome (meaning.decode bytes)) (meaning.encode meaning.opening) (ap is_some reads) }
      ▸ tt

  third-runs : meaning.decode (meaning.encode meaning.opening) ≡ Some meaning.opening → Runs third_system (third_chapter (meaning.encode meaning.opening))
  third-runs reads =
      (three-is, refl)
      ▸ refl
      ▸ tt
      ▸ record { inside = refl; own = refl; above = for-some (λ p. IsBelow p.id view_of_three.id) view_of_two refl; view = refl }
      ▸ record { asked = refl; listed = refl; connected = refl; above = inl (for-some (λ p. IsBelow p.id view_of_three.id) view_of_two refl) }
      ▸ record { asked = refl; listed = refl; connected = refl; above = inl (for-none (λ p. IsBelow p.id view_of_three.id)) }
      ▸ record { flush = refl; received = refl; listed = refl; new = refl }
      ▸ record { flush = refl; received = refl; listed = refl; new = refl }
      ▸ record { view = refl; flush = refl; all = all-reported three_reports; cut = cuts-of three_reports empty_cuts three-cuts; gives = refl }
      ▸ record { asked = refl; promised = refl; waiting = refl; fits = omega arith; gives = refl; readable = for-none (λ bytes. IsSome (meaning.decode bytes)) }
      ▸ record { asked = refl; promised = refl; waiting = refl; fits = record { base = refl; items = refl; state = refl }; gives = refl; readable = for-some (λ bytes. IsSome (meaning.decode bytes)) (meaning.encode meaning.opening) (ap is_some reads) }
      ▸ tt

  -- what goes on from the three
  pub joined-then : meaning.decode (meaning.encode meaning.opening) ≡ Some meaning.opening → (more : List Step) → Runs fourth_system more → Runs nothing_yet (joining (meaning.encode meaning.opening) more)
  joined-then reads more rest =
      let rest = run-then third_system (third_chapter (meaning.encode meaning.opening)) more (third-runs reads) rest in
      let rest = run-then second_system (second_chapter (meaning.encode meaning.opening)) (third_chapter (meaning.encode meaning.opening) ++ more) (second-runs reads) rest in
      run-then nothing_yet first_chapter (second_chapter (meaning.encode meaning.opening) ++ third_chapter (meaning.encode meaning.opening) ++ more) first-runs rest
