-- Where none of the next events may come, there is no order.
use Rattle.std.proofs.Common.{◌≡◌, ℕ, Bool, true, false, not, ◌&&◌, nat_eq, eqb-true, List, [], ◌∷◌, ◌++◌, map, length, take, Option, None, Some, refl, sym, ap, ◌∙◌, subst}
use Rattle.std.specs.Prelude.{slice_get}
use Rattle.std.specs.Option.{option_map_or}
use Rattle.std.specs.List.{list_all}
use Rattle.std.proofs.lemmas.List.{append_cancel_left, append-nil, append_assoc, map-append}
use Rattle.std.proofs.lemmas.Option.{none-some, same_Some}
use Rattle.std.proofs.Math.Seq.{take-append_seam}
use Rattle.trace_props.specs.declared.event.Event.{Event}
use Rattle.trace_props.proofs.ObservedGrow.{list_any-stays}
use Rattle.trace_merge.specs.declared.fact.Fact.{Fact}
use Rattle.trace_merge.specs.Facts.{shows, is_shown, is_awaited, is_free, waits_for, MayCome, IsInOrder}
use Rattle.trace_merge.specs.Merges.{Came, event_of, own, events_at, next_at, has_next, comes_in, IsMerge, HaveNoOrder, HaveCome, NoneIsFree}
use Rattle.trace_merge.proofs.ProcessesShown.{own-append, own-first, own-other, shown-of-own, shown-by-some, merge-shows}

-- ---- who waits for nothing still does when less is awaited

fewer-first : (x y p q : Bool) → (y ≡ true → x ≡ true) → (p ≡ true → q ≡ true) → (not x && p) ≡ true → (not y && q) ≡ true
fewer-first true y p q less go e = absurd (let bad : false ≡ true = e in cc)
fewer-first false true p q less go e = absurd (let bad : false ≡ true = less refl in cc)
fewer-first false false p q less go e = go e

fewer-all : (a b : Fact → Bool) (fs : List Fact) → ((f : Fact) → b f ≡ true → a f ≡ true) → list_all (λ f. not (a f)) fs ≡ true → list_all (λ f. not (b f)) fs ≡ true
fewer-all a b [] less e = refl
fewer-all a b (f ∷ fs) less e = fewer-first (a f) (b f) (list_all (λ g. not (a g)) fs) (list_all (λ g. not (b g)) fs) (less f) (fewer-all a b fs less) e

pub still-free : (a b : Fact → Bool) (e : Event) → ((f : Fact) → b f ≡ true → a f ≡ true) → is_free a e ≡ true → is_free b e ≡ true
still-free a b e less free = fewer-all a b (waits_for e) less free

-- awaited after more, awaited after less
awaited-by : (c d x y : Bool) → c ≡ d → (y ≡ true → x ≡ true) → (c && not x) ≡ true → (d && not y) ≡ true
awaited-by false d x y same shown e = absurd (let bad : false ≡ true = e in cc)
awaited-by true d true y same shown e = absurd (let bad : false ≡ true = e in cc)
awaited-by true d false true same shown e = absurd (let bad : false ≡ true = shown refl in cc)
awaited-by true d false false same shown e = ap (λ (b : Bool). b && true) (sym same)

-- ---- lists

-- where there is a next event, it is the first
pub some-next : (events : List Event) → has_next events ≡ true → (e : Event) × (slice_get events 0 ≡ Some e)
some-next [] there = absurd (let bad : false ≡ true = there in cc)
some-next (x ∷ events) there = (x, refl)

at-seam : (xs ys : List Event) (y : Event) → slice_get (xs ++ y ∷ ys) (length xs) ≡ Some y
at-seam [] ys y = refl
at-seam (x ∷ xs) ys y = at-seam xs ys y

same-first : (x y : Event) (xs ys : List Event) → x ∷ xs ≡ y ∷ ys → x ≡ y
same-first x y xs ys e = same_Some x y (ap (λ (l : List Event). slice_get l 0) e)

none-first : (xs ys : List Event) → xs ++ ys ≡ [] → slice_get xs 0 ≡ None
none-first [] ys e = refl
none-first (x ∷ xs) ys e = absurd (none-some x (sym (ap (λ (l : List Event). slice_get l 0) e)))

-- ---- no order

module _ (processes left : List (List Event)) (awaited : Fact → Bool) (t : List Event) (h : HaveCome processes left awaited t) (none : NoneIsFree left awaited) where
  module _ (u : List Event) (m : IsMerge processes u) (ordered : IsInOrder u) where
    -- of each process no more came so than could
    abbrev Within : List Came → Type 0
    Within past = (k : ℕ) → (rest : List Event) × (own k past ++ rest ≡ own k h.came)

    -- so what these show is shown
    within-shows : (past : List Came) → Within past → (f : Fact) → is_shown (map event_of past) f ≡ true → is_shown t f ≡ true
    within-shows past within f e =
        let by : (k : ℕ) × (is_shown (own k past) f ≡ true) = shown-by-some f past e in
        let own_shows : is_shown (own by.0 h.came) f ≡ true =
        subst (λ (l : List Event). is_shown l f ≡ true) ((within by.0).1) (list_any-stays (shows f) (own by.0 past) ((within by.0).0) by.1) in
        subst (λ (l : List Event). is_shown l f ≡ true) h.events (shown-of-own f by.0 h.came own_shows)

    -- who may come behind these waits for nothing
    free-there : (past : List Came) (e : Event) → Within past → MayCome (is_shown u) (map event_of past) e → is_free awaited e ≡ true
    free-there past e within may = still-free (is_awaited (is_shown u) (map event_of past)) awaited e
        (λ f a. awaited-by (comes_in processes f) (is_shown u f) (is_shown t f) (is_shown (map event_of past) f) (sym (merge-shows f processes u m)) (within-shows past within f)
        (sym (h.awaits f) ∙ a))
        may

    -- one more of a process of which all have come is one that waits
    more : (past : List Came) (c : Came) (coming : List Came) (rest : List Event) → past ++ c ∷ coming ≡ m.came → Within past → MayCome (is_shown u) (map event_of past) c.event
        → own c.process past ++ rest ≡ own c.process h.came
        → (behind : List Event) × (rest ≡ c.event ∷ behind)
    more past c coming rest whole within may own_rest =
        by-rest rest (append_cancel_left (own c.process past) (rest ++ events_at left c.process) (c.event ∷ own c.process coming)
        (sym (append_assoc (own c.process past) rest (events_at left c.process))
        ∙ ap (λ (l : List Event). l ++ events_at left c.process) own_rest
        ∙ h.own_events c.process
        ∙ sym (m.own_events c.process)
        ∙ ap (own c.process) (sym whole)
        ∙ own-append c.process past (c ∷ coming)
        ∙ ap (λ (l : List Event). own c.process past ++ l) (own-first c coming)))
      where
        waits : (o : Option Event) → o ≡ Some c.event → option_map_or (is_free awaited) o false ≡ false → ⊥
        waits o at not_free = let no : is_free awaited c.event ≡ false = sym (ap (λ (p : Option Event). option_map_or (is_free awaited) p false) at) ∙ not_free in
            let bad : false ≡ true = sym no ∙ free-there past c.event within may in cc

        by-rest : (rest : List Event) → rest ++ events_at left c.process ≡ c.event ∷ own c.process coming → (behind : List Event) × (rest ≡ c.event ∷ behind)
        by-rest [] e = absurd (waits (next_at left c.process) (ap (λ (l : List Event). slice_get l 0) e) (none c.process))
        by-rest (x ∷ rest) e = (rest, ap (λ (y : Event). y ∷ rest) (same-first x c.event (rest ++ events_at left c.process) (own c.process coming) e))

    -- and still no more came than could
    next-within : (past : List Came) (c : Came) (coming : List Came) → past ++ c ∷ coming ≡ m.came → Within past → MayCome (is_shown u) (map event_of past) c.event → Within (past ++ c ∷ [])
    next-within past c coming whole within may k = by (nat_eq c.process k) refl
      where
        here : (j : ℕ) → c.process ≡ j → (rest : List Event) × (own j (past ++ c ∷ []) ++ rest ≡ own j h.came)
        here j is =
            let found : (behind : List Event) × ((within c.process).0 ≡ c.event ∷ behind) = more past c coming ((within c.process).0) whole within may ((within c.process).1) in
            let own_is : own c.process (past ++ c ∷ []) ++ found.0 ≡ own c.process h.came =
            ap (λ (l : List Event). l ++ found.0) (own-append c.process past (c ∷ []) ∙ ap (λ (l : List Event). own c.process past ++ l) (own-first c []))
            ∙ append_assoc (own c.process past) (c.event ∷ []) found.0
            ∙ ap (λ (l : List Event). own c.process past ++ l) (sym found.1)
            ∙ (within c.process).1 in
            subst (λ (q : ℕ). (rest : List Event) × (own q (past ++ c ∷ []) ++ rest ≡ own q h.came)) is (found.0, own_is)

        by : (b : Bool) → nat_eq c.process k ≡ b → (rest : List Event) × (own k (past ++ c ∷ []) ++ rest ≡ own k h.came)
        by true e = here k (eqb-true c.process k e)
        by false e = (
          (within k).0,
          ap (λ (l : List Event). l ++ (within k).0) (own-append k past (c ∷ []) ∙ ap (λ (l : List Event). own k past ++ l) (own-other k c [] e) ∙ append-nil (own k past)) ∙ (within k).1,
        )

    -- it stands there in the merge
    may-there : (past : List Came) (c : Came) (coming : List Came) → past ++ c ∷ coming ≡ m.came → MayCome (is_shown u) (map event_of past) c.event
    may-there past c coming whole =
        let is : map event_of past ++ c.event ∷ map event_of coming ≡ u = sym (map-append event_of past (c ∷ coming)) ∙ ap (map event_of) whole ∙ m.events in
        subst (λ (l : List Event). MayCome (is_shown u) l c.event) (ap (take (length (map event_of past))) (sym is) ∙ take-append_seam (map event_of past) (c.event ∷ map event_of coming))
        (ordered (length (map event_of past)) c.event (ap (λ (l : List Event). slice_get l (length (map event_of past))) (sym is) ∙ at-seam (map event_of past) (map event_of coming) c.event))

    goes : (past coming : List Came) → past ++ coming ≡ m.came → Within past → Within m.came
    goes past [] whole within = subst Within (sym (append-nil past) ∙ whole) within
    goes past (c ∷ coming) whole within =
        goes (past ++ c ∷ []) coming (append_assoc past (c ∷ []) coming ∙ whole) (next-within past c coming whole within (may-there past c coming whole))

    none-left : (k : ℕ) → next_at left k ≡ None
    none-left k =
        let within : (rest : List Event) × (own k m.came ++ rest ≡ own k h.came) = goes [] m.came refl (λ j. (own j h.came, refl)) k in
        none-first (events_at left k) within.0
        (append_cancel_left (own k h.came) (events_at left k ++ within.0) []
        (sym (append_assoc (own k h.came) (events_at left k) within.0)
        ∙ ap (λ (l : List Event). l ++ within.0) (h.own_events k ∙ sym (m.own_events k))
        ∙ within.1
        ∙ sym (append-nil (own k h.came))))

  pub have-no-order : (k : ℕ) (e : Event) → next_at left k ≡ Some e → HaveNoOrder processes
  have-no-order k e there u o = none-some e (sym (none-left u o.merge o.in_order k) ∙ there)
