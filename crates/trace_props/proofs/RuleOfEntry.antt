-- State of entry: it goes one event further exactly when who enters is the view's coordinator, or has the state with which that one entered.
use Rattle.std.proofs.Common.{◌≡◌, ℕ, ◌+◌, ◌<◌, Bool, true, false, ◌&&◌, cond, List, [], ◌∷◌, ◌++◌, length, take, Option, Some, None, MatchOption, option_and_then, sym, refl, ap, ◌∙◌, subst, arith}
use Rattle.std.specs.Option.{option_or}
use Rattle.std.specs.List.{position_from}
use Rattle.std.proofs.lemmas.Bool.{cond-true, cond-false, and_from}
use Rattle.std.proofs.lemmas.List.{take-append-le, take_all, length_push}
use Rattle.std.proofs.lemmas.List.Sums.{fold-append}
use Rattle.std.proofs.lemmas.Iterator.Adapters.{position_from-zero}
use Rattle.std.proofs.lemmas.Option.{none-some, same_Some}
use Rattle.address.specs.Ids.{Address, ViewId, same_address, same_view_id}
use Rattle.state_transfer.specs.Meanings.{Meaning}
use Rattle.trace_props.specs.declared.event.Event.{Event}
use Rattle.trace_props.specs.declared.event.Event.TheVariants.{Installed}
use Rattle.trace_props.specs.declared.event.Install.{Install}
use Rattle.trace_props.specs.State.{state_after, state_of, installs, entry_state, EntersAlike, EntersWithState}
use Rattle.trace_props.specs.Agreeing.{MayEnter}
use Rattle.trace_props.proofs.RulesAlongLists.{EachEvent-push, EachEvent-last}
use Rattle.address.proofs.SameIds.{same_address-true, same_view_id-refl}

-- THE FIRST PLACE THAT PASSES

-- a place that was found stays, and lies within the list
pub record PlaceOf {X : Type 0} (p : X → Bool) (i : ℕ) (xs : List X) (k : ℕ) : Type 0 where
  pub within : k < i + length xs
  pub stays : (ys : List X) → position_from p i (xs ++ ys) ≡ Some k

place-test : {X : Type 0} (p : X → Bool) (i : ℕ) (x : X) (xs : List X) (k : ℕ) (b : Bool) → p x ≡ b → cond b (Some i) (position_from p (i + 1) xs) ≡ Some k
    → (position_from p (i + 1) xs ≡ Some k → PlaceOf p (i + 1) xs k) → PlaceOf p i (x ∷ xs) k
place-test p i x xs k true e s later =
    let same : i ≡ k = same_Some i k s in
    record { within = omega arith; stays = λ ys. cond-true (p x) (Some i) (position_from p (i + 1) (xs ++ ys)) e ∙ s }
place-test p i x xs k false e s later =
    let at = later s in
    let within : k < i + 1 + length xs = at.within in
    record { within = omega arith; stays = λ ys. cond-false (p x) (Some i) (position_from p (i + 1) (xs ++ ys)) e ∙ at.stays ys }

place-found : {X : Type 0} (p : X → Bool) (i : ℕ) (xs : List X) (k : ℕ) → position_from p i xs ≡ Some k → PlaceOf p i xs k
place-found p i [] k e = absurd (none-some k e)
place-found p i (x ∷ xs) k e = place-test p i x xs k (p x) refl e (place-found p (i + 1) xs k)

-- where none passes, the new element is the first or none still passes
none-test : {X : Type 0} (p : X → Bool) (i : ℕ) (x : X) (xs : List X) (y : X) (b : Bool) → p x ≡ b → cond b (Some i) (position_from p (i + 1) xs) ≡ None
    → (position_from p (i + 1) xs ≡ None → position_from p (i + 1) (xs ++ y ∷ []) ≡ cond (p y) (Some (i + 1 + length xs)) None)
    → cond (p x) (Some i) (position_from p (i + 1) (xs ++ y ∷ [])) ≡ cond (p y) (Some (i + length (x ∷ xs))) None
none-test p i x xs y true e s later = absurd (none-some i (sym s))
none-test p i x xs y false e s later =
    let same : i + 1 + length xs ≡ i + length (x ∷ xs) = omega arith in
    cond-false (p x) (Some i) (position_from p (i + 1) (xs ++ y ∷ [])) e ∙ later s ∙ ap (λ n. cond (p y) (Some n) None) same

none-found : {X : Type 0} (p : X → Bool) (i : ℕ) (xs : List X) (y : X) → position_from p i xs ≡ None → position_from p i (xs ++ y ∷ []) ≡ cond (p y) (Some (i + length xs)) None
none-found p i [] y e = ap (λ n. cond (p y) (Some n) None) (omega arith)
none-found p i (x ∷ xs) y e = none-test p i x xs y (p x) refl e (none-found p (i + 1) xs y)

-- THE STATE

-- the newest event changes the state of before
pub state_of-push : {S : Type 0} (meaning : Meaning S) (p : Address) (t : List Event) (h : Event)
    → state_of meaning p (t ++ h ∷ []) ≡ state_after meaning p (state_of meaning p t) h
state_of-push meaning p t h = fold-append (state_after meaning p) meaning.opening t (h ∷ [])

-- the state after the entry that stands at a place, or none
abbrev entry_at : {S : Type 0} → Meaning S → ViewId → List Event → Option ℕ → Option S
entry_at meaning v t o = option_and_then (λ k. Some (state_of meaning v.creator (take (k + 1) t))) o

-- what was the state of entry stays it
pub entry_state-stays : {S : Type 0} (meaning : Meaning S) (v : ViewId) (t u : List Event) (k : ℕ)
    → position_from (installs v.creator v) 0 t ≡ Some k → entry_state meaning v (t ++ u) ≡ entry_state meaning v t
entry_state-stays meaning v t u k e =
    let at = place-found (installs v.creator v) 0 t k e in
    let within : k < 0 + length t = at.within in
    ap (entry_at meaning v (t ++ u)) (position_from-zero (installs v.creator v) (t ++ u) ∙ at.stays u)
    ∙ ap (λ l. Some (state_of meaning v.creator l)) (take-append-le (k + 1) t u (omega arith))
    ∙ sym (ap (entry_at meaning v t) (position_from-zero (installs v.creator v) t ∙ e))

-- where there is none, the newest event is the entry or there still is none
pub entry_state-new : {S : Type 0} (meaning : Meaning S) (v : ViewId) (t : List Event) (h : Event)
    → position_from (installs v.creator v) 0 t ≡ None
    → entry_state meaning v (t ++ h ∷ []) ≡ cond (installs v.creator v h) (Some (state_of meaning v.creator (t ++ h ∷ []))) None
entry_state-new meaning v t h e =
    ap (entry_at meaning v (t ++ h ∷ [])) (position_from-zero (installs v.creator v) (t ++ h ∷ []) ∙ none-found (installs v.creator v) 0 t h e)
    ∙ entry-cond meaning v t h (installs v.creator v h)
  where
    entry-cond : {S : Type 0} (meaning : Meaning S) (v : ViewId) (t : List Event) (h : Event) (b : Bool)
        → entry_at meaning v (t ++ h ∷ []) (cond b (Some (0 + length t)) None) ≡ cond b (Some (state_of meaning v.creator (t ++ h ∷ []))) None
    entry-cond meaning v t h true =
        ap (λ l. Some (state_of meaning v.creator l)) (take_all (0 + length t + 1) (t ++ h ∷ []) (omega (arith, length_push t h)))
    entry-cond meaning v t h false = refl

-- nothing is known of a state of entry that no place has
pub entry_state-none : {S : Type 0} (meaning : Meaning S) (v : ViewId) (t : List Event) → position_from (installs v.creator v) 0 t ≡ None → entry_state meaning v t ≡ None
entry_state-none meaning v t e = ap (entry_at meaning v t) (position_from-zero (installs v.creator v) t ∙ e)

pub entry_state-some : {S : Type 0} (meaning : Meaning S) (v : ViewId) (t : List Event) (k : ℕ)
    → position_from (installs v.creator v) 0 t ≡ Some k → entry_state meaning v t ≡ Some (state_of meaning v.creator (take (k + 1) t))
entry_state-some meaning v t k e = ap (entry_at meaning v t) (position_from-zero (installs v.creator v) t ∙ e)

-- THE RULE

abbrev EntryMatches : {S : Type 0} → Meaning S → List Event → Install → Type 0
EntryMatches meaning t i =
    MatchOption (entry_state meaning i.view.id t)
    (same_address i.member i.view.id.creator ≡ true)
    (λ s. s ≡ state_of meaning i.member (t ++ Installed i ∷ []))

abbrev EntryEquals : {S : Type 0} → Meaning S → List Event → Install → Type 0
EntryEquals meaning t i =
    entry_state meaning i.view.id (t ++ Installed i ∷ []) ≡ Some (state_of meaning i.member (t ++ Installed i ∷ []))

matches-equals : {S : Type 0} (meaning : Meaning S) (t : List Event) (i : Install) (o : Option ℕ)
    → position_from (installs i.view.id.creator i.view.id) 0 t ≡ o → EntryMatches meaning t i → EntryEquals meaning t i
matches-equals {S} meaning t i None e m =
    let first : same_address i.member i.view.id.creator ≡ true = subst (λ (o : Option S). MatchOption o (same_address i.member i.view.id.creator ≡ true) (λ s. s ≡ state_of meaning i.member (t ++ Installed i ∷ []))) (entry_state-none meaning i.view.id t e) m in
    entry_state-new meaning i.view.id t (Installed i) e
    ∙ cond-true (installs i.view.id.creator i.view.id (Installed i)) (Some (state_of meaning i.view.id.creator (t ++ Installed i ∷ []))) None
    (and_from (same_address i.member i.view.id.creator) (same_view_id i.view.id i.view.id) first (same_view_id-refl i.view.id))
    ∙ ap (λ p. Some (state_of meaning p (t ++ Installed i ∷ []))) (sym (same_address-true i.member i.view.id.creator first))
matches-equals {S} meaning t i (Some k) e m =
    entry_state-stays meaning i.view.id t (Installed i ∷ []) k e
    ∙ entry_state-some meaning i.view.id t k e
    ∙ ap Some (subst (λ (o : Option S). MatchOption o (same_address i.member i.view.id.creator ≡ true) (λ s. s ≡ state_of meaning i.member (t ++ Installed i ∷ []))) (entry_state-some meaning i.view.id t k e) m)

first-test : {S : Type 0} (x : S) (y : S) (a b : Bool) → cond (a && b) (Some x) None ≡ Some y → a ≡ true
first-test x y true b e = refl
first-test x y false b e = absurd (none-some y e)

equals-matches : {S : Type 0} (meaning : Meaning S) (t : List Event) (i : Install) (o : Option ℕ)
    → position_from (installs i.view.id.creator i.view.id) 0 t ≡ o → EntryEquals meaning t i → EntryMatches meaning t i
equals-matches {S} meaning t i None e m =
    subst (λ (o : Option S). MatchOption o (same_address i.member i.view.id.creator ≡ true) (λ s. s ≡ state_of meaning i.member (t ++ Installed i ∷ []))) (sym (entry_state-none meaning i.view.id t e))
    (first-test (state_of meaning i.view.id.creator (t ++ Installed i ∷ [])) (state_of meaning i.member (t ++ Installed i ∷ []))
    (same_address i.member i.view.id.creator) (same_view_id i.view.id i.view.id) (sym (entry_state-new meaning i.view.id t (Installed i) e) ∙ m))
equals-matches {S} meaning t i (Some k) e m =
    subst (λ (o : Option S). MatchOption o (same_address i.member i.view.id.creator ≡ true) (λ s. s ≡ state_of meaning i.member (t ++ Installed i ∷ []))) (sym (entry_state-some meaning i.view.id t k e))
    (same_Some (state_of meaning i.view.id.creator (take (k + 1) t)) (state_of meaning i.member (t ++ Installed i ∷ []))
    (sym (entry_state-some meaning i.view.id t k e) ∙ sym (entry_state-stays meaning i.view.id t (Installed i ∷ []) k e) ∙ m))

-- who may enter enters alike
alike-from : {S : Type 0} (meaning : Meaning S) (t : List Event) (h : Event) → MayEnter meaning t h → EntersAlike meaning t h
alike-from meaning t (Installed i) m = (m.0, matches-equals meaning t i (position_from (installs i.view.id.creator i.view.id) 0 t) refl m.1)
alike-from meaning t h m = tt

-- state of entry goes one event further
pub enters-push : {S : Type 0} (meaning : Meaning S) (t : List Event) (h : Event)
    → EntersWithState meaning t → MayEnter meaning t h → EntersWithState meaning (t ++ h ∷ [])
enters-push meaning t h r m = EachEvent-push (EntersAlike meaning) t h r (alike-from meaning t h m)

may-from : {S : Type 0} (meaning : Meaning S) (t : List Event) (h : Event) → EntersAlike meaning t h → MayEnter meaning t h
may-from meaning t (Installed i) m = (m.0, equals-matches meaning t i (position_from (installs i.view.id.creator i.view.id) 0 t) refl m.1)
may-from meaning t h m = tt

-- what happens under the rule may enter
pub enters-needed : {S : Type 0} (meaning : Meaning S) (t : List Event) (h : Event) → EntersWithState meaning (t ++ h ∷ []) → MayEnter meaning t h
enters-needed meaning t h r = may-from meaning t h (EachEvent-last (EntersAlike meaning) t h r)

-- THE STATE OF ENTRY, ONE EVENT FURTHER

entry-by : {S : Type 0} (meaning : Meaning S) (v : ViewId) (t : List Event) (h : Event) (o : Option ℕ)
    → position_from (installs v.creator v) 0 t ≡ o
    → entry_state meaning v (t ++ h ∷ []) ≡ option_or (entry_state meaning v t) (cond (installs v.creator v h) (Some (state_of meaning v.creator (t ++ h ∷ []))) None)
entry-by meaning v t h None e =
    entry_state-new meaning v t h e
    ∙ ap (λ o. option_or o (cond (installs v.creator v h) (Some (state_of meaning v.creator (t ++ h ∷ []))) None)) (sym (entry_state-none meaning v t e))
entry-by meaning v t h (Some k) e =
    entry_state-stays meaning v t (h ∷ []) k e
    ∙ entry_state-some meaning v t k e
    ∙ ap (λ o. option_or o (cond (installs v.creator v h) (Some (state_of meaning v.creator (t ++ h ∷ []))) None)) (sym (entry_state-some meaning v t k e))

-- the first install of a view by its coordinator makes the state of entry
pub entry_state-push : {S : Type 0} (meaning : Meaning S) (v : ViewId) (t : List Event) (h : Event)
    → entry_state meaning v (t ++ h ∷ []) ≡ option_or (entry_state meaning v t) (cond (installs v.creator v h) (Some (state_of meaning v.creator (t ++ h ∷ []))) None)
entry_state-push meaning v t h = entry-by meaning v t h (position_from (installs v.creator v) 0 t) refl
