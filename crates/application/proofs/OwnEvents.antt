-- What each event makes of a service, all make of it; and each answer is given by one event.
use Rattle.std.proofs.Common.{◌≡◌, ◌⊎◌, inl, inr, ℕ, zero, suc, ◌<◌, Bool, true, false, List, [], ◌∷◌, ◌++◌, take, fold, Some, if◌then◌else◌, refl, sym, ap, subst, ◌∙◌, append_assoc, arith}
use Rattle.std.specs.List.{Contains, slice_get}
use Rattle.std.proofs.lemmas.List.{append-nil}
use Rattle.std.proofs.lemmas.List.Elements.{Contains-append_cases, Contains-append_left, Contains-append_right}
use Rattle.address.specs.Ids.{Address, same_address}
use Rattle.trace_props.specs.declared.event.Event.{Event}
use Rattle.trace_props.specs.declared.event.Event.TheVariants.{Started, Sent, Delivered, Blocked, Installed, Left, Crashed}
use Rattle.trace_props.specs.declared.event.Delivery.{Delivery}
use Rattle.trace_props.specs.declared.event.Install.{Install}
use Rattle.application.specs.Services.{of_own, answers_given}

pub nothing-stands : {A : Type 0} (a : A) → Contains [] a → ⊥
nothing-stands a c = let none : c.0 < 0 = c.1 in omega arith

-- what holds of own deliveries, of own installs and of all other events holds of each event
pub by-own : {X Y : Type 0} (Q : Event → X → Y → Type 0) (own : Address) (f : Delivery → X) (g : Install → X) (o : X) (f' : Delivery → Y) (g' : Install → Y) (o' : Y)
    → ((d : Delivery) → same_address d.member own ≡ true → Q (Delivered d) (f d) (f' d))
    → ((i : Install) → same_address i.member own ≡ true → Q (Installed i) (g i) (g' i))
    → ((h : Event) → Q h o o')
    → (h : Event) → Q h (of_own own f g o h) (of_own own f' g' o' h)
by-own Q own f g o f' g' o' delivery install other (Started p) = other (Started p)
by-own Q own f g o f' g' o' delivery install other (Sent m) = other (Sent m)
by-own Q own f g o f' g' o' delivery install other (Delivered d) = by (same_address d.member own) refl where
  by : (b : Bool) → same_address d.member own ≡ b → Q (Delivered d) (if b then f d else o) (if b then f' d else o')
  by true e = delivery d e
  by false e = other (Delivered d)
by-own Q own f g o f' g' o' delivery install other (Blocked p) = other (Blocked p)
by-own Q own f g o f' g' o' delivery install other (Installed i) = by (same_address i.member own) refl where
  by : (b : Bool) → same_address i.member own ≡ b → Q (Installed i) (if b then g i else o) (if b then g' i else o')
  by true e = install i e
  by false e = other (Installed i)
by-own Q own f g o f' g' o' delivery install other (Left p) = other (Left p)
by-own Q own f g o f' g' o' delivery install other (Crashed p) = other (Crashed p)

module _ {K : Type 0} where
  -- what each event keeps, all keep
  pub kept-all : (heard : K → Event → K) (P : K → Type 0) → ((s : K) (h : Event) → P s → P (heard s h)) → (s : K) (t : List Event) → P s → P (fold heard s t)
  kept-all heard P one s [] p = p
  kept-all heard P one s (h ∷ t) p = kept-all heard P one (heard s h) t (one s h p)

  -- the event at a place is heard next
  pub next-heard : (heard : K → Event → K) (s : K) (t : List Event) (k : ℕ) (h : Event) → slice_get t k ≡ Some h → fold heard s (take (suc k) t) ≡ heard (fold heard s (take k t)) h
  next-heard heard s [] k h e = absurd cc
  next-heard heard s (g ∷ t) zero h e = ap (heard s) (same-event g h e) where
    same-event : (x y : Event) → Some x ≡ Some y → x ≡ y
    same-event x y e = cc
  next-heard heard s (g ∷ t) (suc k) h e = next-heard heard (heard s g) t k h e

module _ {K A : Type 0} where
  -- what was answered stays
  pub answers-stay : (heard : K → Event → K) (by : K → Event → List A) (answers : K → List A) → ((s : K) (h : Event) → answers (heard s h) ≡ answers s ++ by s h)
      → (s : K) (t : List Event) → answers (fold heard s t) ≡ answers s ++ answers_given heard by s t
  answers-stay heard by answers one s [] = sym (append-nil (answers s))
  answers-stay heard by answers one s (h ∷ t) =
      answers-stay heard by answers one (heard s h) t
      ∙ ap (λ (l : List A). l ++ answers_given heard by (heard s h) t) (one s h)
      ∙ append_assoc (answers s) (by s h) (answers_given heard by (heard s h) t)

  abbrev pub GivenAt : (K → Event → K) → (K → Event → List A) → K → List Event → A → Type 0
  GivenAt heard by s t a = (k : ℕ) × (h : Event) × (slice_get t k ≡ Some h) × Contains (by (fold heard s (take k t)) h) a

  pub given : (heard : K → Event → K) (by : K → Event → List A) (s : K) (t : List Event) (a : A) → Contains (answers_given heard by s t) a → GivenAt heard by s t a
  given heard by s [] a c = absurd (nothing-stands a c)
  given heard by s (h ∷ t) a c = at (Contains-append_cases (by s h) (answers_given heard by (heard s h) t) a c) (given heard by (heard s h) t a) where
    at : Contains (by s h) a ⊎ Contains (answers_given heard by (heard s h) t) a → (Contains (answers_given heard by (heard s h) t) a → GivenAt heard by (heard s h) t a) → GivenAt heard by s (h ∷ t) a
    at (inl here) rest = (zero, h, refl, here)
    at (inr later) rest = let more = rest later in (suc more.0, more.1, more.2, more.3)

  pub gives : (heard : K → Event → K) (by : K → Event → List A) (s : K) (t : List Event) (k : ℕ) (h : Event) (a : A) → slice_get t k ≡ Some h
      → Contains (by (fold heard s (take k t)) h) a → Contains (answers_given heard by s t) a
  gives heard by s [] k h a e c = absurd cc
  gives heard by s (g ∷ t) zero h a e c =
      Contains-append_left (by s g) (answers_given heard by (heard s g) t) a (subst (λ (x : Event). Contains (by s x) a) (sym (same-event g h e)) c) where
        same-event : (x y : Event) → Some x ≡ Some y → x ≡ y
        same-event x y e = cc
  gives heard by s (g ∷ t) (suc k) h a e c = Contains-append_right (by s g) (answers_given heard by (heard s g) t) a (gives heard by (heard s g) t k h a e c)
