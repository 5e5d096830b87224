-- Each merge of traces that are apart has the same events of each member, in the same order.
use Rattle.std.proofs.Common.{◌≡◌, ℕ, suc, zero, Bool, true, false, nat_eq, eqb-true, eq-eqb, List, [], ◌∷◌, ◌++◌, map, take, drop, Some, slice_get, sym, refl, ap, ◌∙◌, subst}
use Rattle.std.specs.List.{filter}
use Rattle.std.proofs.lemmas.Bool.{cond-true, cond-false, true≢false}
use Rattle.std.proofs.lemmas.List.Elements.{filter-append}
use Rattle.std.proofs.lemmas.Option.{none-some, same_Some}
use Rattle.address.specs.Ids.{Address}
use Rattle.address.proofs.SameIds.{same_address-true, same_address-refl}
use Rattle.trace_props.specs.declared.event.Event.{Event}
use Rattle.trace_props.specs.Observed.{member_of}
use Rattle.trace_merge.specs.Merges.{Came, event_of, own, events_at, IsMerge}
use Rattle.trace_merge.proofs.ProcessesShown.{own-first, own-other}
use Rattle.trace_merge.specs.Apart.{AreApart, AreReordered}
use Rattle.trace_merge.proofs.ElementsStand.{Has, contains-has, Found, filter-has, filter-found, kept-at, map-found, map-has}
use Rattle.trace_merge.proofs.MembersOwnTraces.{is_of, happened_to}

-- WHAT CAME OF A MEMBER

module _ (p : Address) (k : ℕ) where
  of-first : (c : Came) (rest : List Came) (b : Bool) → is_of p c.event ≡ b → (is_of p c.event ≡ true → c.process ≡ k)
      → happened_to p (map event_of rest) ≡ happened_to p (own k rest) → happened_to p (map event_of (c ∷ rest)) ≡ happened_to p (own k (c ∷ rest))
  of-first c rest true e of_k r =
      cond-true (is_of p c.event) (c.event ∷ happened_to p (map event_of rest)) (happened_to p (map event_of rest)) e
      ∙ ap (λ (l : List Event). c.event ∷ l) r
      ∙ sym (cond-true (is_of p c.event) (c.event ∷ happened_to p (own k rest)) (happened_to p (own k rest)) e)
      ∙ ap (happened_to p) (sym (subst (λ (n : ℕ). own n (c ∷ rest) ≡ c.event ∷ own n rest) (of_k e) (own-first c rest)))
  of-first c rest false e of_k r =
      cond-false (is_of p c.event) (c.event ∷ happened_to p (map event_of rest)) (happened_to p (map event_of rest)) e ∙ r ∙ sym (by (nat_eq c.process k) refl)
    where
      by : (b : Bool) → nat_eq c.process k ≡ b → happened_to p (own k (c ∷ rest)) ≡ happened_to p (own k rest)
      by true same =
          ap (happened_to p) (subst (λ (n : ℕ). own n (c ∷ rest) ≡ c.event ∷ own n rest) (eqb-true c.process k same) (own-first c rest))
          ∙ cond-false (is_of p c.event) (c.event ∷ happened_to p (own k rest)) (happened_to p (own k rest)) e
      by false other = ap (happened_to p) (own-other k c rest other)

  -- where all that came of a member came of one process, that is what happened to it
  own-of : (came : List Came) → ((c : Came) → Has came c → is_of p c.event ≡ true → c.process ≡ k) → happened_to p (map event_of came) ≡ happened_to p (own k came)
  own-of [] of_k = refl
  own-of (c ∷ rest) of_k = of-first c rest (is_of p c.event) refl (of_k c (0, refl)) (own-of rest (λ d there. of_k d (suc there.0, there.1)))

-- EACH MERGE

module _ (processes : List (List Event)) where
  module _ (t : List Event) (m : IsMerge processes t) where
    -- what came is of its process
    of-process : (c : Came) → Has m.came c → Has (events_at processes c.process) c.event
    of-process c there =
        let kept = filter-has (λ (d : Came). nat_eq d.process c.process) m.came c there.0 there.1 (eq-eqb c.process c.process refl) in
        (kept.0, ap (λ (l : List Event). slice_get l kept.0) (sym (m.own_events c.process)) ∙ map-has event_of (filter (λ (d : Came). nat_eq d.process c.process) m.came) c kept.0 kept.1)

    -- what is of a process came
    process-came : (j : ℕ) (e : Event) → Has (events_at processes j) e → Has t e
    process-came j e there =
        let own_there : slice_get (own j m.came) there.0 ≡ Some e = ap (λ (l : List Event). slice_get l there.0) (m.own_events j) ∙ there.1 in
        let found = map-found event_of (filter (λ (d : Came). nat_eq d.process j) m.came) e there.0 own_there in
        let came = (filter-found (λ (d : Came). nat_eq d.process j) m.came found.it found.there.0 found.there.1).0 in
        (came.0, ap (λ (l : List Event). slice_get l came.0) (sym m.events) ∙ map-has event_of m.came found.it came.0 came.1 ∙ ap Some found.is)

    came-of : (e : Event) → Has t e → Found m.came (λ c. c.event ≡ e)
    came-of e there = map-found event_of m.came e there.0 (ap (λ (l : List Event). slice_get l there.0) m.events ∙ there.1)

  -- all of a member is of one process
  abbrev IsOf : Address → ℕ → Type 0
  IsOf p k = (j : ℕ) (e : Event) → Has (events_at processes j) e → is_of p e ≡ true → j ≡ k

  merge-of : (p : Address) (k : ℕ) (t : List Event) → IsMerge processes t → IsOf p k → happened_to p t ≡ happened_to p (events_at processes k)
  merge-of p k t m of_k =
      ap (happened_to p) (sym m.events) ∙ own-of p k m.came (λ c there e. of_k c.process c.event (of-process t m c there) e) ∙ ap (happened_to p) (m.own_events k)

  one-process : AreApart processes → (p : Address) (t : List Event) → IsMerge processes t → (own_events : List Event) → happened_to p t ≡ own_events → (k : ℕ) × IsOf p k
  one-process apart p t m [] none = (
    0,
    λ j e there is.
        let came = process-came t m j e there in
        let kept = filter-has (is_of p) t e came.0 came.1 is in
        absurd (none-some e (ap (λ (l : List Event). slice_get l kept.0) (sym none) ∙ kept.1)),
  )
  one-process apart p t m (x ∷ rest) some =
      let kept = filter-found (is_of p) t x 0 (ap (λ (l : List Event). slice_get l 0) some) in
      let found = came-of t m x kept.0 in
      let here : is_of p found.it.event ≡ true = ap (is_of p) found.is ∙ kept.1 in (
        found.it.process,
        λ j e there is.
            apart j found.it.process e found.it.event (contains-has (events_at processes j) e there)
            (contains-has (events_at processes found.it.process) found.it.event (of-process t m found.it found.there))
            (same_address-true (member_of e) p is ∙ sym (same_address-true (member_of found.it.event) p here)),
      )

  -- the same happened to each member in each merge
  pub merges-same : AreApart processes → (t u : List Event) → IsMerge processes t → IsMerge processes u → (p : Address) → happened_to p t ≡ happened_to p u
  merges-same apart t u m n p =
      let of_one = one-process apart p t m (happened_to p t) refl in
      merge-of p of_one.0 t m of_one.1 ∙ sym (merge-of p of_one.0 u n of_one.1)

-- THE TRACES IN ANOTHER ORDER

module _ (to from : ℕ → ℕ) (back : (k : ℕ) → from (to k) ≡ k) (forth : (k : ℕ) → to (from k) ≡ k) where
  -- what came, with other numbers of its process
  renumbered : Came → Came
  renumbered c = record { process = to c.process; event = c.event }

  renumbered-events : (came : List Came) → map event_of (map renumbered came) ≡ map event_of came
  unfolding renumbered
  renumbered-events [] = refl
  renumbered-events (c ∷ came) = ap (λ (l : List Event). c.event ∷ l) (renumbered-events came)

  own-renumbered-by : (k : ℕ) (c : Came) (came : List Came) (b : Bool) → nat_eq c.process (from k) ≡ b → own k (map renumbered came) ≡ own (from k) came
      → own k (map renumbered (c ∷ came)) ≡ own (from k) (c ∷ came)
  unfolding renumbered
  own-renumbered-by k c came true e so_far =
      let here : c.process ≡ from k = eqb-true c.process (from k) e in
      let there : to c.process ≡ k = ap to here ∙ forth k in
      subst (λ (n : ℕ). own n (map renumbered (c ∷ came)) ≡ c.event ∷ own n (map renumbered came)) there (own-first (renumbered c) (map renumbered came))
      ∙ ap (λ (l : List Event). c.event ∷ l) so_far
      ∙ sym (subst (λ (n : ℕ). own n (c ∷ came) ≡ c.event ∷ own n came) here (own-first c came))
  own-renumbered-by k c came false e so_far = own-other k (renumbered c) (map renumbered came) (not-there (nat_eq (to c.process) k) refl) ∙ so_far ∙ sym (own-other (from k) c came e)
    where
      not-there : (b : Bool) → nat_eq (to c.process) k ≡ b → nat_eq (to c.process) k ≡ false
      not-there false is = is
      not-there true is =
          let here : c.process ≡ from k = sym (back c.process) ∙ ap from (eqb-true (to c.process) k is) in
          absurd (true≢false (sym (eq-eqb c.process (from k) here) ∙ e))

  own-renumbered : (k : ℕ) (came : List Came) → own k (map renumbered came) ≡ own (from k) came
  own-renumbered k [] = refl
  own-renumbered k (c ∷ came) = own-renumbered-by k c came (nat_eq c.process (from k)) refl (own-renumbered k came)

-- a merge of the traces in one order is one of them in the other
pub merge-reordered : (processes others : List (List Event)) (u : List Event) → AreReordered processes others → IsMerge others u → IsMerge processes u
merge-reordered processes others u r m = record {
  came = map (renumbered r.to r.from r.back r.forth) m.came;
  events = renumbered-events r.to r.from r.back r.forth m.came ∙ m.events;
  own_events = λ k. own-renumbered r.to r.from r.back r.forth k m.came ∙ m.own_events (r.from k) ∙ r.same (r.from k) ∙ ap (events_at processes) (r.forth k);
}

-- THE SAME PLACE

-- an event that stands in another list at a place stands in this one, behind the same events of its member
pub record StandsToo (t u : List Event) (k : ℕ) (e : Event) : Type 0 where
  pub place : ℕ
  pub stands : slice_get t place ≡ Some e
  pub past : happened_to (member_of e) (take place t) ≡ happened_to (member_of e) (take k u)

-- a list, at one of its places
split-at : {X : Type 0} (xs : List X) (k : ℕ) (x : X) → slice_get xs k ≡ Some x → xs ≡ take k xs ++ x ∷ drop (suc k) xs
split-at [] k x e = absurd (none-some x e)
split-at {X} (y ∷ xs) zero x e = ap (λ (z : X). z ∷ xs) (same_Some y x e)
split-at {X} (y ∷ xs) (suc k) x e = ap (λ (l : List X). y ∷ l) (split-at xs k x e)

pub stands-too : (t u : List Event) → ((p : Address) → happened_to p t ≡ happened_to p u) → (k : ℕ) (e : Event) → slice_get u k ≡ Some e → StandsToo t u k e
stands-too t u same k e s =
    let p : Address = member_of e in
    let kept = kept-at (is_of p) t (happened_to p (take k u)) e (happened_to p (drop (suc k) u))
    (same p
    ∙ ap (happened_to p) (split-at u k e s)
    ∙ filter-append (is_of p) (take k u) (e ∷ drop (suc k) u)
    ∙ ap (λ (l : List Event). happened_to p (take k u) ++ l) (cond-true (is_of p e) (e ∷ happened_to p (drop (suc k) u)) (happened_to p (drop (suc k) u)) (same_address-refl p))) in
    record { place = kept.place; stands = kept.stands; past = kept.before }
