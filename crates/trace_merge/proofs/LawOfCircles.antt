-- Where no next event may come, from each process that waits one comes to one that waits in a circle.
use Rattle.std.proofs.Common.{◌≡◌, ℕ, suc, zero, ◌+◌, ◌-◌, ◌<◌, ◌≤◌, Bool, true, false, not, cond, ◌&&◌, nat_eq, nat_lt, eqb-true, eq-eqb, List, [], ◌∷◌, map, length, find, Some, refl, sym, ap, ◌∙◌, subst, ◌⊎◌, inl, inr, ⊎_elim, arith}
use Rattle.std.specs.Prelude.{slice_get, unwrap_or}
use Rattle.std.specs.Option.{option_map_or, option_and_then}
use Rattle.std.specs.List.{list_all, position_from}
use Rattle.std.proofs.lemmas.Bool.{and_parts, cases_lt, true≢false, cond-true, cond-false, ltb-true, ltb-false}
use Rattle.std.proofs.lemmas.List.{get_or_past}
use Rattle.std.proofs.lemmas.List.Folds.{list_any-append}
use Rattle.trace_props.specs.declared.event.Event.{Event}
use Rattle.trace_merge.specs.declared.fact.Fact.{Fact}
use Rattle.trace_merge.specs.Facts.{shows, is_shown, is_free, waits_for}
use Rattle.trace_merge.specs.Merges.{own, events_at, next_at, has_next, comes_in, HaveCome, NoneIsFree}
use Rattle.trace_merge.specs.Outcomes.{WaitsForOne, WaitsFor, awaits_at, followed}
use Rattle.trace_merge.specs.Outcomes.WaitsFor.{One, More}
use Rattle.trace_merge.proofs.ElementsStand.{contains-has}
use Rattle.trace_merge.proofs.LawOfMerges.{some-next}
use Rattle.trace_merge.proofs.ProcessesShown.{or-cases, shown-of-own, comes-by}

-- ---- what is found

-- where not all fail, one is found
pub record FindsIn {X : Type 0} (p : X → Bool) (xs : List X) : Type 0 where
  pub it : X
  pub place : ℕ
  pub there : slice_get xs place ≡ Some it
  pub passes : p it ≡ true
  pub found : find p xs ≡ Some it

finds-first : {X : Type 0} (p : X → Bool) (x : X) (xs : List X) (b : Bool) → p x ≡ b → (not b && list_all (λ y. not (p y)) xs) ≡ false → (list_all (λ y. not (p y)) xs ≡ false → FindsIn p xs) → FindsIn p (x ∷ xs)
finds-first p x xs true is e later = record { it = x; place = 0; there = refl; passes = is; found = cond-true (p x) (Some x) (find p xs) is }
finds-first p x xs false is e later =
    let f = later e in
    record { it = f.it; place = suc f.place; there = f.there; passes = f.passes; found = cond-false (p x) (Some x) (find p xs) is ∙ f.found }

pub finds-in : {X : Type 0} (p : X → Bool) (xs : List X) → list_all (λ y. not (p y)) xs ≡ false → FindsIn p xs
finds-in p [] e = absurd (true≢false e)
finds-in p (x ∷ xs) e = finds-first p x xs (p x) refl e (finds-in p xs)

-- where a list among some passes a test that the empty one fails, the first that does is found, and is one of them
pub record Places (p : List Event → Bool) (i : ℕ) (left : List (List Event)) : Type 0 where
  pub n : ℕ
  pub found : position_from p i left ≡ Some (i + n)
  pub within : n < length left
  pub passes : p (events_at left n) ≡ true

module _ (p : List Event → Bool) (never : p [] ≡ false) where
  places-first : (events : List Event) (left : List (List Event)) (i k : ℕ) (b : Bool) → p events ≡ b → p (events_at (events ∷ left) k) ≡ true
      → ((j : ℕ) → p (events_at left j) ≡ true → Places p (i + 1) left) → Places p i (events ∷ left)
  places-first events left i k true is e later =
      record { n = 0; found = cond-true (p events) (Some i) (position_from p (i + 1) left) is ∙ ap Some (omega arith); within = omega arith; passes = is }
  places-first events left i zero false is e later = absurd (true≢false (sym e ∙ is))
  places-first events left i (suc k) false is e later =
      let f = later k e in
      let within : f.n < length left = f.within in
      record { n = suc f.n; found = cond-false (p events) (Some i) (position_from p (i + 1) left) is ∙ f.found ∙ ap Some (omega arith); within = omega arith; passes = f.passes }

  pub places : (left : List (List Event)) (i k : ℕ) → p (events_at left k) ≡ true → Places p i left
  places [] i k e = absurd (true≢false (sym e ∙ never))
  places (events ∷ left) i k e = places-first events left i k (p events) refl e (places left (i + 1))

-- the first that passes, of a mapped list
pub position-from-map : {X Y : Type 0} (p : Y → Bool) (f : X → Y) (xs : List X) (i : ℕ) → position_from (λ x. p (f x)) i xs ≡ position_from p i (map f xs)
position-from-map p f [] i = refl
position-from-map p f (x ∷ xs) i = ap (λ o. cond (p (f x)) (Some i) o) (position-from-map p f xs (i + 1))

-- ---- more steps than numbers

-- two steps at which a number comes
pub record Meets (s : ℕ → ℕ) (last : ℕ) : Type 0 where
  pub first : ℕ
  pub second : ℕ
  pub before : first < second
  pub within : second ≤ last
  pub same : s first ≡ s second

-- whether a number comes before a step
came-before : (s : ℕ → ℕ) (z m : ℕ) → ((i : ℕ) × (i < m) × (s i ≡ z)) ⊎ ((i : ℕ) → i < m → s i ≡ z → ⊥)
came-before s z zero = inr (λ i less same. absurd (omega (arith, less)))
came-before s z (suc m) = by (nat_eq (s m) z) refl (came-before s z m) where
  by : (b : Bool) → nat_eq (s m) z ≡ b → ((i : ℕ) × (i < m) × (s i ≡ z)) ⊎ ((i : ℕ) → i < m → s i ≡ z → ⊥) → ((i : ℕ) × (i < suc m) × (s i ≡ z)) ⊎ ((i : ℕ) → i < suc m → s i ≡ z → ⊥)
  by true is so = inl (m, omega arith, eqb-true (s m) z is)
  by false is (inl found) = inl (found.0, (let less : found.0 < m = found.1 in omega arith), found.2)
  by false is (inr none) = inr (λ i less same. at i less same (cases_lt i m))
    where
      at : (i : ℕ) → i < suc m → s i ≡ z → (i < m) ⊎ (m ≤ i) → ⊥
      at i less same (inl l) = none i l same
      at i less same (inr l) = true≢false (sym (subst (λ (j : ℕ). nat_eq (s j) z ≡ true) (omega (arith, less, l)) (eq-eqb (s i) z same)) ∙ is)

-- numbers without one of them, close together
abbrev without : ℕ → ℕ → ℕ
without z x = cond (nat_lt x z) x (x - 1)

above : (z y : ℕ) → z ≤ y → (y ≡ z → ⊥) → z < y
above z y le not = ⊎_elim (λ (l : z < y). l) (λ (l : y ≤ z). absurd (not (omega (arith, le, l)))) (cases_lt z y)

without-same : (z x y : ℕ) (a b : Bool) → nat_lt x z ≡ a → nat_lt y z ≡ b → (x ≡ z → ⊥) → (y ≡ z → ⊥) → cond a x (x - 1) ≡ cond b y (y - 1) → x ≡ y
without-same z x y true true is js not_x not_y e = e
without-same z x y true false is js not_x not_y e =
    let low : x < z = ltb-true x z is in
    let high : z < y = above z y (ltb-false y z js) not_y in
    let same : x ≡ y - 1 = e in
    absurd (omega (arith, low, high, same))
without-same z x y false true is js not_x not_y e =
    let low : y < z = ltb-true y z js in
    let high : z < x = above z x (ltb-false x z is) not_x in
    let same : x - 1 ≡ y = e in
    absurd (omega (arith, low, high, same))
without-same z x y false false is js not_x not_y e =
    let left : z < x = above z x (ltb-false x z is) not_x in
    let right : z < y = above z y (ltb-false y z js) not_y in
    let same : x - 1 ≡ y - 1 = e in
    omega (arith, left, right, same)

without-below : (z x n : ℕ) (b : Bool) → nat_lt x z ≡ b → x < suc n → z < suc n → (x ≡ z → ⊥) → cond b x (x - 1) < n
without-below z x n true is within_x within_z not_x = let low : x < z = ltb-true x z is in omega (arith, low, within_z)
without-below z x n false is within_x within_z not_x = let high : z < x = above z x (ltb-false x z is) not_x in omega (arith, high, within_x)

meets-first : (n : ℕ) (s : ℕ → ℕ) → ((i : ℕ) → i ≤ suc n → s i < suc n) → ((i : ℕ) × (i < suc n) × (s i ≡ s (suc n))) ⊎ ((i : ℕ) → i < suc n → s i ≡ s (suc n) → ⊥)
    → ((r : ℕ → ℕ) → ((i : ℕ) → i ≤ n → r i < n) → Meets r n) → Meets s (suc n)
meets-first n s below (inl found) fewer = record { first = found.0; second = suc n; before = found.1; within = omega arith; same = found.2 }
meets-first n s below (inr none) fewer =
    let z : ℕ = s (suc n) in
    let m = fewer (λ i. without z (s i))
    (λ i le. without-below z (s i) n (nat_lt (s i) z) refl (below i (omega (arith, le))) (below (suc n) (omega arith)) (none i (omega (arith, le)))) in
    let within : m.second ≤ n = m.within in
    let before : m.first < m.second = m.before in
    record {
      first = m.first;
      second = m.second;
      before = m.before;
      within = omega (arith, within);
      same = without-same z (s m.first) (s m.second) (nat_lt (s m.first) z) (nat_lt (s m.second) z) refl refl (none m.first (omega (arith, within, before))) (none m.second (omega (arith, within))) m.same;
    }

-- of more steps than there are numbers two have the same
pub meets : (n : ℕ) (s : ℕ → ℕ) → ((i : ℕ) → i ≤ n → s i < n) → Meets s n
meets zero s below = let no : s 0 < 0 = below 0 (omega arith) in absurd (omega (arith, no))
meets (suc n) s below = meets-first n s below (came-before s (s (suc n)) (suc n)) (meets n)

-- ---- each waits for one

-- by its next event, and what that waits for
pub awaits-by : (left : List (List Event)) (awaited : Fact → Bool) (k : ℕ) (e : Event) (f : Fact) → next_at left k ≡ Some e → find awaited (waits_for e) ≡ Some f
    → awaits_at left awaited k ≡ position_from (λ events. is_shown events f) 0 left
awaits-by left awaited k e f next waits =
    ap (λ o. option_and_then (λ x. option_and_then (λ g. position_from (λ events. is_shown events g) 0 left) (find awaited (waits_for x))) o) next
    ∙ ap (λ o. option_and_then (λ g. position_from (λ events. is_shown events g) 0 left) o) waits

module _ (processes left : List (List Event)) (awaited : Fact → Bool) (t : List Event) (h : HaveCome processes left awaited t) (none : NoneIsFree left awaited) where
  not-both : (b : Bool) → b ≡ true → not b ≡ true → ⊥
  not-both true is not_is = true≢false (sym not_is)
  not-both false is not_is = true≢false (sym is)

  -- what is awaited is shown by what is left of one
  left-shows : (f : Fact) → awaited f ≡ true → (k : ℕ) × (is_shown (events_at left k) f ≡ true)
  left-shows f e =
      let is : (comes_in processes f && not (is_shown t f)) ≡ true = sym (h.awaits f) ∙ e in
      let parts = and_parts (comes_in processes f) (not (is_shown t f)) is in
      let by = comes-by f processes parts.0 in (
        by.0,
        or-cases (is_shown (events_at left by.0) f ≡ true) (is_shown (own by.0 h.came) f) (is_shown (events_at left by.0) f)
            (λ own_shows. absurd (not-both (is_shown t f) (subst (λ (l : List Event). is_shown l f ≡ true) h.events (shown-of-own f by.0 h.came own_shows)) parts.1))
            (λ shows. shows)
            (sym (list_any-append (shows f) (own by.0 h.came) (events_at left by.0)) ∙ ap (λ (l : List Event). is_shown l f) (h.own_events by.0) ∙ by.1),
      )

  next-some : (events : List Event) (f : Fact) → is_shown events f ≡ true → has_next events ≡ true
  next-some [] f e = absurd (true≢false (sym e))
  next-some (x ∷ events) f e = refl

  -- one to which it is a step
  record Steps (k : ℕ) : Type 0 where
    to : ℕ
    is : awaits_at left awaited k ≡ Some to
    waits : WaitsForOne left awaited k to
    within : to < length left
    goes_on : has_next (events_at left to) ≡ true

  step-by : (k : ℕ) (e : Event) → next_at left k ≡ Some e → FindsIn awaited (waits_for e) → Steps k
  step-by k e next waits =
      let by = left-shows waits.it waits.passes in
      let at = places (λ (events : List Event). is_shown events waits.it) refl left 0 by.0 by.1 in
      record {
        to = at.n;
        is = awaits-by left awaited k e waits.it next waits.found ∙ at.found ∙ ap Some (omega arith);
        waits = record { event = e; fact = waits.it; next = next; waits = contains-has (waits_for e) waits.it (waits.place, waits.there); is_awaited = waits.passes; shown = at.passes };
        within = at.within;
        goes_on = next-some (events_at left at.n) waits.it at.passes;
      }

  step : (k : ℕ) → has_next (events_at left k) ≡ true → Steps k
  step k there =
      let first = some-next (events_at left k) there in
      step-by k first.0 first.1 (finds-in awaited (waits_for first.0) (sym (ap (λ o. option_map_or (is_free awaited) o false) first.1) ∙ none k))

  -- ---- so many steps on

  module _ (from : ℕ) (there : has_next (events_at left from) ≡ true) where
    abbrev at : ℕ → ℕ
    at n = followed left awaited from n

    record IsThere (n : ℕ) : Type 0 where
      goes_on : has_next (events_at left (at n)) ≡ true
      waits : WaitsForOne left awaited (at n) (at (suc n))
      within : at (suc n) < length left

    one-on : (n : ℕ) → has_next (events_at left (at n)) ≡ true → IsThere n × (has_next (events_at left (at (suc n))) ≡ true)
    one-on n goes_on =
        let s = step (at n) goes_on in
        let is : at (suc n) ≡ s.to = ap (λ o. unwrap_or o (at n)) s.is in (
          record {
            goes_on = goes_on;
            waits = subst (λ (k : ℕ). WaitsForOne left awaited (at n) k) (sym is) s.waits;
            within = subst (λ (k : ℕ). k < length left) (sym is) s.within;
          },
          subst (λ (k : ℕ). has_next (events_at left k) ≡ true) (sym is) s.goes_on,
        )

    goes-on : (n : ℕ) → has_next (events_at left (at n)) ≡ true
    goes-on zero = there
    goes-on (suc n) = (one-on n (goes-on n)).1

    is-there : (n : ℕ) → IsThere n
    is-there n = (one-on n (goes-on n)).0

    -- by so many steps one waits for another
    far : (n m : ℕ) → WaitsFor left awaited (at n) (at (n + suc m))
    far n zero =
        let is : suc n ≡ n + suc zero = omega arith in
        subst (λ (k : ℕ). WaitsFor left awaited (at n) (at k)) is (One (at n) (at (suc n)) ((is-there n).waits))
    far n (suc m) =
        let is : suc (n + suc m) ≡ n + suc (suc m) = omega arith in
        subst (λ (k : ℕ). WaitsFor left awaited (at n) (at k)) is (More (at n) (at (n + suc m)) (at (suc (n + suc m))) (far n m) ((is-there (n + suc m)).waits))

    -- from the same one comes to the same
    along : (i j : ℕ) → at i ≡ at j → (m : ℕ) → at (i + m) ≡ at (j + m)
    along i j same zero = let left_is : i + zero ≡ i = omega arith in let right_is : j ≡ j + zero = omega arith in ap at left_is ∙ same ∙ ap at right_is
    along i j same (suc m) =
        let left_is : i + suc m ≡ suc (i + m) = omega arith in
        let right_is : suc (j + m) ≡ j + suc m = omega arith in
        ap at left_is ∙ ap (λ (k : ℕ). unwrap_or (awaits_at left awaited k) k) (along i j same m) ∙ ap at right_is

    within-by : (b : Bool) → nat_lt from (length left) ≡ b → from < length left
    within-by true is = ltb-true from (length left) is
    within-by false is = absurd (true≢false (sym there ∙ ap has_next (get_or_past left from [] (ltb-false from (length left) is))))

    inside : (n : ℕ) → at n < length left
    inside zero = within-by (nat_lt from (length left)) refl
    inside (suc n) = (is-there n).within

    circle-by : Meets at (length left) → WaitsFor left awaited (at (length left)) (at (length left))
    circle-by m =
        let before : m.first < m.second = m.before in
        let within : m.second ≤ length left = m.within in
        let more : ℕ = m.second - m.first - 1 in
        let rest : ℕ = length left - m.first in
        let second_is : length left + suc more ≡ m.second + rest = omega (arith, before, within) in
        let first_is : m.first + rest ≡ length left = omega (arith, before, within) in
        subst (λ (k : ℕ). WaitsFor left awaited (at (length left)) k) (ap at second_is ∙ sym (along m.first m.second m.same rest) ∙ ap at first_is) (far (length left) more)

    -- as many steps on as there are processes, one waits in a circle
    pub circle : WaitsFor left awaited (at (length left)) (at (length left))
    circle = circle-by (meets (length left) at (λ i le. inside i))

    -- and has a next event
    pub circle-next : has_next (events_at left (at (length left))) ≡ true
    circle-next = goes-on (length left)

    -- so the process to which one comes
    pub circles : (k n : ℕ) → n ≡ length left → k ≡ at n → WaitsFor left awaited k k × (has_next (events_at left k) ≡ true)
    circles k n count is =
        let there : at (length left) ≡ k = sym (is ∙ ap at count) in
        (subst (λ (j : ℕ). WaitsFor left awaited j j) there circle, subst (λ (j : ℕ). has_next (events_at left j) ≡ true) there circle-next)
