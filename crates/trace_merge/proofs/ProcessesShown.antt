-- What came of each process, and what is shown by it.
use Rattle.std.proofs.Common.{◌≡◌, ℕ, suc, zero, Bool, true, false, cond, nat_eq, eq-eqb, ◌||◌, List, [], ◌∷◌, ◌++◌, map, refl, sym, ap, ◌∙◌, subst}
use Rattle.std.specs.List.{filter}
use Rattle.std.proofs.lemmas.Bool.{or_left, or_right}
use Rattle.std.proofs.lemmas.List.{map-append}
use Rattle.std.proofs.lemmas.List.Elements.{filter-append}
use Rattle.trace_props.specs.declared.event.Event.{Event}
use Rattle.trace_merge.specs.declared.fact.Fact.{Fact}
use Rattle.trace_merge.specs.Facts.{shows, is_shown}
use Rattle.trace_merge.specs.Merges.{Came, event_of, own, events_at, comes_in, IsMerge}

-- ---- truth values

pub or-cases : (P : Type 0) (a b : Bool) → (a ≡ true → P) → (b ≡ true → P) → (a || b) ≡ true → P
or-cases P true b left right e = left refl
or-cases P false b left right e = right e

-- two that are true together are the same
pub same-truth : (a b : Bool) → (a ≡ true → b ≡ true) → (b ≡ true → a ≡ true) → a ≡ b
same-truth true b to from = sym (to refl)
same-truth false true to from = from refl
same-truth false false to from = refl

-- ---- what came of a process

pub own-append : (k : ℕ) (xs ys : List Came) → own k (xs ++ ys) ≡ own k xs ++ own k ys
own-append k xs ys =
    ap (map event_of) (filter-append (λ (c : Came). nat_eq c.process k) xs ys)
    ∙ map-append event_of (filter (λ (c : Came). nat_eq c.process k) xs) (filter (λ (c : Came). nat_eq c.process k) ys)

-- one more of it, or of another
pub own-first : (c : Came) (xs : List Came) → own c.process (c ∷ xs) ≡ c.event ∷ own c.process xs
own-first c xs = ap (λ (b : Bool). map event_of (cond b (c ∷ filter (λ (d : Came). nat_eq d.process c.process) xs) (filter (λ (d : Came). nat_eq d.process c.process) xs))) (eq-eqb c.process c.process refl)

pub own-other : (k : ℕ) (c : Came) (xs : List Came) → nat_eq c.process k ≡ false → own k (c ∷ xs) ≡ own k xs
own-other k c xs e = ap (λ (b : Bool). map event_of (cond b (c ∷ filter (λ (d : Came). nat_eq d.process k) xs) (filter (λ (d : Came). nat_eq d.process k) xs))) e

-- ---- what is shown

module _ (f : Fact) where
  -- by what came of a process, then by what came
  shown-by-first : (b : Bool) (c : Came) (events rest : List Event) → (is_shown events f ≡ true → is_shown rest f ≡ true) → is_shown (cond b (c.event ∷ events) events) f ≡ true
      → is_shown (c.event ∷ rest) f ≡ true
  shown-by-first true c events rest go e = or-cases (is_shown (c.event ∷ rest) f ≡ true) (shows f c.event) (is_shown events f)
      (λ here. or_left (shows f c.event) (is_shown rest f) here) (λ there. or_right (shows f c.event) (is_shown rest f) (go there)) e
  shown-by-first false c events rest go e = or_right (shows f c.event) (is_shown rest f) (go e)

  map-cond : (b : Bool) (c : Came) (xs : List Came) → map event_of (cond b (c ∷ xs) xs) ≡ cond b (c.event ∷ map event_of xs) (map event_of xs)
  map-cond true c xs = refl
  map-cond false c xs = refl

  pub shown-of-own : (k : ℕ) (came : List Came) → is_shown (own k came) f ≡ true → is_shown (map event_of came) f ≡ true
  shown-of-own k [] e = e
  shown-of-own k (c ∷ came) e =
      shown-by-first (nat_eq c.process k) c (own k came) (map event_of came) (shown-of-own k came)
      (subst (λ (l : List Event). is_shown l f ≡ true) (map-cond (nat_eq c.process k) c (filter (λ (d : Came). nat_eq d.process k) came)) e)

  -- by what came, then by what came of some process
  own-has : (k : ℕ) (b : Bool) (c : Came) (xs : List Came) → is_shown (map event_of xs) f ≡ true → is_shown (map event_of (cond b (c ∷ xs) xs)) f ≡ true
  own-has k true c xs e = or_right (shows f c.event) (is_shown (map event_of xs) f) e
  own-has k false c xs e = e

  pub shown-by-some : (came : List Came) → is_shown (map event_of came) f ≡ true → (k : ℕ) × (is_shown (own k came) f ≡ true)
  shown-by-some [] e = absurd (let bad : false ≡ true = e in cc)
  shown-by-some (c ∷ came) e = or-cases ((k : ℕ) × (is_shown (own k (c ∷ came)) f ≡ true)) (shows f c.event) (is_shown (map event_of came) f)
      (λ here. (c.process, subst (λ (l : List Event). is_shown l f ≡ true) (sym (own-first c came)) (or_left (shows f c.event) (is_shown (own c.process came) f) here)))
      (λ there. let found : (k : ℕ) × (is_shown (own k came) f ≡ true) = shown-by-some came there in
      (found.0, own-has found.0 (nat_eq c.process found.0) c (filter (λ (d : Came). nat_eq d.process found.0) came) found.1))
      e

  -- by some process, and the same
  pub comes-of : (processes : List (List Event)) (k : ℕ) → is_shown (events_at processes k) f ≡ true → comes_in processes f ≡ true
  comes-of [] k e = e
  comes-of (events ∷ processes) zero e = or_left (is_shown events f) (comes_in processes f) e
  comes-of (events ∷ processes) (suc k) e = or_right (is_shown events f) (comes_in processes f) (comes-of processes k e)

  pub comes-by : (processes : List (List Event)) → comes_in processes f ≡ true → (k : ℕ) × (is_shown (events_at processes k) f ≡ true)
  comes-by [] e = absurd (let bad : false ≡ true = e in cc)
  comes-by (events ∷ processes) e = or-cases ((k : ℕ) × (is_shown (events_at (events ∷ processes) k) f ≡ true)) (is_shown events f) (comes_in processes f)
      (λ here. (0, here))
      (λ there. let found : (k : ℕ) × (is_shown (events_at processes k) f ≡ true) = comes-by processes there in (suc found.0, found.1))
      e

  -- a merge shows what its processes do
  pub merge-shows : (processes : List (List Event)) (t : List Event) → IsMerge processes t → is_shown t f ≡ comes_in processes f
  merge-shows processes t m = same-truth (is_shown t f) (comes_in processes f)
      (λ e. let found : (k : ℕ) × (is_shown (own k m.came) f ≡ true) = shown-by-some m.came (subst (λ (l : List Event). is_shown l f ≡ true) (sym m.events) e) in
      comes-of processes found.0 (subst (λ (l : List Event). is_shown l f ≡ true) (m.own_events found.0) found.1))
      (λ e. let found : (k : ℕ) × (is_shown (events_at processes k) f ≡ true) = comes-by processes e in
      subst (λ (l : List Event). is_shown l f ≡ true) m.events
      (shown-of-own found.0 m.came (subst (λ (l : List Event). is_shown l f ≡ true) (sym (m.own_events found.0)) found.1)))
