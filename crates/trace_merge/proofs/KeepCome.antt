-- What is kept while traces are put together.
use Rattle.std.proofs.Common.{◌≡◌, ℕ, ◌+◌, ◌-◌, ◌<◌, suc, Bool, true, false, not, ◌&&◌, ◌||◌, nat_eq, eqb-true, eq-eqb, List, [], ◌∷◌, ◌++◌, length, take, Some, is_some, refl, sym, ap, ◌∙◌, subst, ⊎_elim, arith, ◌≤◌}
use Rattle.std.specs.Prelude.{slice_get, slice_index_or, slice_set}
use Rattle.std.specs.Borrow.{Bor}
use Rattle.std.specs.List.{sum_by}
use Rattle.std.proofs.lemmas.List.{append-nil, append_assoc, map-append, map-set, length-map, length-append, get_or-map, get_or_past, get_or-set_same, get_or-set_other}
use Rattle.std.proofs.lemmas.Bool.{cases_lt}
use Rattle.std.proofs.lemmas.List.Elements.{All-set}
use Rattle.std.proofs.lemmas.List.Sums.{sum_by-set}
use Rattle.std.proofs.lemmas.List.Folds.{list_any-append}
use Rattle.trace_props.specs.declared.event.Event.{Event}
use Rattle.trace_props.specs.Places.{EachEvent}
use Rattle.trace_props.specs.Recorded.{IsRecordable}
use Rattle.trace_props.proofs.RulesAlongLists.{EachEvent-nil, EachEvent-push}
use Rattle.trace_merge.specs.declared.fact.Fact.{Fact}
use Rattle.trace_merge.specs.Facts.{shows, is_shown, is_awaited, is_free, MayCome}
use Rattle.trace_merge.specs.Merges.{Came, event_of, own, events_at, has_next, NoneIsLeft, comes_in, starts_free, IsMerge, IsOrderedMerge, HaveCome, IsFreeAt, NoneIsFree, AreRecordable}
use Rattle.trace_merge.specs.Outcomes.{slices, slice_of, WaitsFor, AreUnordered}
use Rattle.trace_merge.proofs.ProcessesShown.{own-append, own-first, own-other, merge-shows}
use Rattle.trace_merge.proofs.LawOfMerges.{some-next, still-free, have-no-order}

-- ---- nothing has come

pub nothing-came : (processes left : List (List Event)) (awaited : Fact → Bool) (t : List Event) → left ≡ processes → t ≡ [] → ((f : Fact) → awaited f ≡ comes_in processes f)
    → HaveCome processes left awaited t
nothing-came processes left awaited t all none shown = record {
  came = [];
  events = sym none;
  own_events = λ k. ap (λ (l : List (List Event)). events_at l k) all;
  ordered = subst (EachEvent (MayCome (comes_in processes))) (sym none) (EachEvent-nil (MayCome (comes_in processes)));
  awaits = λ f. shown f ∙ and-true (comes_in processes f) ∙ ap (λ (l : List Event). comes_in processes f && not (is_shown l f)) (sym none);
}
  where
    and-true : (b : Bool) → b ≡ (b && true)
    and-true true = refl
    and-true false = refl

-- ---- the next event of a process comes

module _ (processes left : List (List Event)) (awaited after : Fact → Bool) (t : List Event) (k : ℕ) (e : Event) (behind : List Event) (within : k < length left)
    (there : events_at left k ≡ e ∷ behind) (free : is_free awaited e ≡ true) (struck : (f : Fact) → after f ≡ (awaited f && not (shows f e))) (h : HaveCome processes left awaited t) where
  abbrev one : Came
  one = record { process = k; event = e }

  own-here : (j : ℕ) → k ≡ j → own j (h.came ++ one ∷ []) ++ events_at (slice_set left k behind) j ≡ events_at processes j
  own-here j is = subst (λ (q : ℕ). own q (h.came ++ one ∷ []) ++ events_at (slice_set left k behind) q ≡ events_at processes q) is
      (ap (λ (l : List Event). l ++ events_at (slice_set left k behind) k) (own-append k h.came (one ∷ []) ∙ ap (λ (l : List Event). own k h.came ++ l) (own-first one []))
      ∙ ap (λ (l : List Event). (own k h.came ++ e ∷ []) ++ l) (get_or-set_same left k behind [] within)
      ∙ append_assoc (own k h.came) (e ∷ []) behind
      ∙ ap (λ (l : List Event). own k h.came ++ l) (sym there)
      ∙ h.own_events k)

  own-there : (j : ℕ) → nat_eq k j ≡ false → own j (h.came ++ one ∷ []) ++ events_at (slice_set left k behind) j ≡ events_at processes j
  own-there j differs =
      ap (λ (l : List Event). l ++ events_at (slice_set left k behind) j) (own-append j h.came (one ∷ []) ∙ ap (λ (l : List Event). own j h.came ++ l) (own-other j one [] differs) ∙ append-nil (own j h.came))
      ∙ ap (λ (l : List Event). own j h.came ++ l) (get_or-set_other left k j behind [] (λ (same : j ≡ k). let bad : false ≡ true = sym differs ∙ eq-eqb k j (sym same) in cc))
      ∙ h.own_events j

  own-by : (j : ℕ) (b : Bool) → nat_eq k j ≡ b → own j (h.came ++ one ∷ []) ++ events_at (slice_set left k behind) j ≡ events_at processes j
  own-by j true same = own-here j (eqb-true k j same)
  own-by j false differs = own-there j differs

  awaited-next : (c x y : Bool) → ((c && not x) && not y) ≡ (c && not (x || (y || false)))
  awaited-next false x y = refl
  awaited-next true true y = refl
  awaited-next true false true = refl
  awaited-next true false false = refl

  pub next-came : HaveCome processes (slice_set left k behind) after (t ++ e ∷ [])
  next-came = record {
    came = h.came ++ one ∷ [];
    events = map-append event_of h.came (one ∷ []) ∙ ap (λ (l : List Event). l ++ e ∷ []) h.events;
    own_events = λ j. own-by j (nat_eq k j) refl;
    ordered = EachEvent-push (MayCome (comes_in processes)) t e h.ordered (still-free awaited (is_awaited (comes_in processes) t) e (λ f a. h.awaits f ∙ a) free);
    awaits = λ f. struck f ∙ ap (λ (b : Bool). b && not (shows f e)) (h.awaits f) ∙ awaited-next (comes_in processes f) (is_shown t f) (shows f e)
        ∙ ap (λ (b : Bool). comes_in processes f && not b) (sym (list_any-append (shows f) t (e ∷ [])));
  }

-- as slices have it
pub slices-set : (items : List (Bor (List Event))) (k : ℕ) (behind : Bor (List Event)) → slices (slice_set items k behind) ≡ slice_set (slices items) k behind.now
slices-set items k behind = map-set slice_of items k behind

-- what is left may be recorded
behind-recordable : (e : Event) (behind : List Event) → IsRecordable (e ∷ behind) → IsRecordable behind
behind-recordable e behind r = λ k x at. r (suc k) x at

pub next-recordable : (left : List (List Event)) (k : ℕ) (e : Event) (behind : List Event) → k < length left → events_at left k ≡ e ∷ behind → AreRecordable left → AreRecordable (slice_set left k behind)
next-recordable left k e behind within there r = All-set IsRecordable left k behind (behind-recordable e behind (subst IsRecordable there (r k [] within))) r

-- and is less
pub next-fewer : (left : List (List Event)) (k : ℕ) (e : Event) (behind : List Event) → k < length left → events_at left k ≡ e ∷ behind → sum_by length (slice_set left k behind) < sum_by length left
next-fewer left k e behind within there =
    let sums : sum_by length (slice_set left k behind) + length (slice_index_or left k []) ≡ sum_by length left + length behind = sum_by-set length left k behind [] within in
    let long : length (slice_index_or left k []) ≡ suc (length behind) = ap length there in
    omega arith

-- ---- the same of slices

module _ (items : List (Bor (List Event))) (k : ℕ) (d behind : Bor (List Event)) (e : Event) (awaited : Fact → Bool) (free : IsFreeAt (slices items) awaited k)
    (at : d ≡ slice_index_or items k d) (split : d.now ≡ e ∷ behind.now) where
  within-slices : k < length (slices items)
  within-slices = ⊎_elim
      (λ (within : k < length (slices items)). within)
      (λ (past : length (slices items) ≤ k). absurd (let bad : false ≡ true = ap (starts_free awaited) (sym (get_or_past (slices items) k [] past)) ∙ free in cc))
      (cases_lt k (length (slices items)))

  there-slices : events_at (slices items) k ≡ e ∷ behind.now
  there-slices =
      let long : length (slices items) ≡ length items = length-map items slice_of in
      let inside : k < length (slices items) = within-slices in
      get_or-map slice_of items k d [] (omega arith) ∙ ap slice_of (sym at) ∙ split

  pub slices-come : (processes : List (List Event)) (after : Fact → Bool) (t u : List Event) → ((f : Fact) → after f ≡ (awaited f && not (shows f e))) → u ≡ t ++ e ∷ []
      → HaveCome processes (slices items) awaited t → HaveCome processes (slices (slice_set items k behind)) after u
  slices-come processes after t u struck is h =
      subst (λ (l : List (List Event)). HaveCome processes l after u) (sym (slices-set items k behind))
      (subst (HaveCome processes (slice_set (slices items) k behind.now) after) (sym is)
      (next-came processes (slices items) awaited after t k e behind.now within-slices there-slices (ap (starts_free awaited) (sym there-slices) ∙ free) struck h))

  pub slices-recordable : AreRecordable (slices items) → AreRecordable (slices (slice_set items k behind))
  slices-recordable r = subst AreRecordable (sym (slices-set items k behind)) (next-recordable (slices items) k e behind.now within-slices there-slices r)

  pub slices-fewer : sum_by length (slices (slice_set items k behind)) < sum_by length (slices items)
  slices-fewer = subst (λ (l : List (List Event)). sum_by length l < sum_by length (slices items)) (sym (slices-set items k behind))
      (next-fewer (slices items) k e behind.now within-slices there-slices)

-- ---- all came

nothing-left : (xs : List Event) → has_next xs ≡ false → xs ≡ []
nothing-left [] none = refl
nothing-left (x ∷ xs) none = absurd (let bad : true ≡ false = none in cc)

pub all-came : (processes left : List (List Event)) (awaited : Fact → Bool) (t : List Event) → HaveCome processes left awaited t → NoneIsLeft left → IsOrderedMerge processes t
all-came processes left awaited t h none = record {
  merge = whole;
  in_order = λ k e at. still-free (is_awaited (comes_in processes) (take k t)) (is_awaited (is_shown t) (take k t)) e
      (λ f a. ap (λ (b : Bool). b && not (is_shown (take k t) f)) (sym (merge-shows f processes t whole)) ∙ a) (h.ordered k e at);
}
  where
    whole : IsMerge processes t
    whole = record {
      came = h.came;
      events = h.events;
      own_events = λ k. sym (append-nil (own k h.came)) ∙ ap (λ (l : List Event). own k h.came ++ l) (sym (nothing-left (events_at left k) (none k))) ∙ h.own_events k;
    }

-- ---- the first of them

-- a slice that is there
pub slice-at : (items there : List (Bor (List Event))) (k : ℕ) (b : Bor (List Event)) → there ≡ items → k < length there → b ≡ slice_index_or there k b → events_at (slices items) k ≡ b.now
slice-at items there k b same within at =
    ap (λ (l : List (Bor (List Event))). events_at (slices l) k) (sym same) ∙ get_or-map slice_of there k b [] within ∙ ap slice_of (sym at)

-- where none of these passes, none does
pub fails : (p : List Event → Bool) → p [] ≡ false → (items : List (Bor (List Event))) → ((k : ℕ) → k < length items → p (events_at (slices items) k) ≡ false) → (k : ℕ) → p (events_at (slices items) k) ≡ false
fails p never items below k = ⊎_elim
    (below k)
    (λ (past : length items ≤ k). ap p (get_or_past (slices items) k [] (let same : length (slices items) ≡ length items = length-map items slice_of in omega arith)) ∙ never)
    (cases_lt k (length items))

-- ---- why there is no order

module _ (processes left : List (List Event)) (awaited : Fact → Bool) (t : List Event) (k : ℕ) (h : HaveCome processes left awaited t) (none : NoneIsFree left awaited) where
  seam-first : (xs ys : List Event) → slice_get (xs ++ ys) (length xs) ≡ slice_get ys 0
  seam-first [] ys = refl
  seam-first (x ∷ xs) ys = seam-first xs ys

  at-seam : (xs ys : List Event) → has_next ys ≡ true → is_some (slice_get (xs ++ ys) (length (xs ++ ys) - length ys)) ≡ true
  at-seam xs ys there =
      let long : length (xs ++ ys) ≡ length xs + length ys = length-append xs ys in
      let at : length (xs ++ ys) - length ys ≡ length xs = omega arith in
      ap (λ (n : ℕ). is_some (slice_get (xs ++ ys) n)) at ∙ ap is_some (seam-first xs ys) ∙ there

  behind : (xs ys all : List Event) (n : ℕ) → xs ++ ys ≡ all → n ≡ length all - length ys → n + length ys ≡ length all
  behind xs ys all n whole is =
      let long : length xs + length ys ≡ length all = sym (length-append xs ys) ∙ ap length whole in
      omega (arith, is, long)

  pub unordered : WaitsFor left awaited k k → has_next (events_at left k) ≡ true → (n : ℕ) → n ≡ length (events_at processes k) - length (events_at left k) → AreUnordered processes (k + 1) (n + 1)
  unordered circle there n is = record {
    have_none = let first : (x : Event) × (slice_get (events_at left k) 0 ≡ Some x) = some-next (events_at left k) there in have-no-order processes left awaited t h none k first.0 first.1;
    k = k;
    n = n;
    process_is = refl;
    event_is = refl;
    there = subst (λ (j : ℕ). is_some (slice_get (events_at processes k) j) ≡ true) (sym is)
        (subst (λ (l : List Event). is_some (slice_get l (length l - length (events_at left k))) ≡ true) (h.own_events k) (at-seam (own k h.came) (events_at left k) there));
    circle = record { left = left; awaited = awaited; t = t; come = h; none = none; behind = behind (own k h.came) (events_at left k) (events_at processes k) n (h.own_events k) is; circle = circle };
  }
