-- What happens at the nets of frames, among all that processes do.
use Rattle.std.proofs.Common.{◌≡◌, ◌<◌, ℕ, zero, suc, List, [], ◌∷◌, take, refl, sym, ap, ◌∙◌, Option, Some, None, arith}
use Rattle.std.specs.Prelude.{slice_get, filter_map}
use Rattle.std.specs.List.{cons_option}
use Rattle.std.proofs.lemmas.Option.{none-some, same_Some}
use Rattle.address.specs.Ids.{Address}
use Rattle.udp_net.specs.Logs.{NetEvent, Offered}
use Rattle.law_processes.specs.Deployments.{WasPutOut}
use Rattle.law_runners.specs.Items.{OfNet, OfMember, net_events}
use Rattle.law_runners.specs.Merged.{items_of, all_offered, bytes_offered}
use Rattle.law_runners.specs.Sealed.{Acted, Deed, Above, Below, HasDone, done_in}

-- ---- a list of which some is left out

-- an element stands at its place, and before it what was before it
pub record StandsAt {A B : Type 0} (f : A → Option B) (xs : List A) (k : ℕ) (y : B) : Type 0 where
  pub place : ℕ
  pub x : A
  pub at : slice_get xs place ≡ Some x
  pub is : f x ≡ Some y
  pub before : take k (filter_map f xs) ≡ filter_map f (take place xs)

module _ {A B : Type 0} (f : A → Option B) where
  by-first : (x : A) (xs : List A) (o : Option B) → f x ≡ o → (k : ℕ) (y : B) → ((j : ℕ) → slice_get (filter_map f xs) j ≡ Some y → StandsAt f xs j y)
      → slice_get (filter_map f (x ∷ xs)) k ≡ Some y → StandsAt f (x ∷ xs) k y
  by-first x xs None e k y rest at =
      let same : filter_map f (x ∷ xs) ≡ filter_map f xs = ap (λ (o : Option B). cons_option o (filter_map f xs)) e in
      let s = rest k (ap (λ (l : List B). slice_get l k) (sym same) ∙ at) in
      record {
        place = suc s.place;
        x = s.x;
        at = s.at;
        is = s.is;
        before = ap (take k) same ∙ s.before ∙ sym (ap (λ (o : Option B). cons_option o (filter_map f (take s.place xs))) e);
      }
  by-first x xs (Some z) e zero y rest at =
      record { place = 0; x = x; at = refl; is = e ∙ sym (ap (λ (o : Option B). slice_get (cons_option o (filter_map f xs)) 0) e) ∙ at; before = refl }
  by-first x xs (Some z) e (suc k) y rest at =
      let same : filter_map f (x ∷ xs) ≡ z ∷ filter_map f xs = ap (λ (o : Option B). cons_option o (filter_map f xs)) e in
      let s = rest k (ap (λ (l : List B). slice_get l (suc k)) (sym same) ∙ at) in
      record {
        place = suc s.place;
        x = s.x;
        at = s.at;
        is = s.is;
        before = ap (take (suc k)) same ∙ ap (λ (l : List B). z ∷ l) s.before ∙ sym (ap (λ (o : Option B). cons_option o (filter_map f (take s.place xs))) e);
      }

  pub stands-at : (xs : List A) (k : ℕ) (y : B) → slice_get (filter_map f xs) k ≡ Some y → StandsAt f xs k y
  stands-at [] k y at = absurd (none-some y at)
  stands-at (x ∷ xs) k y at = by-first x xs (f x) refl k y (λ j there. stands-at xs j y there) at

  has-by : (x : A) (xs : List A) (o : Option B) → f x ≡ o → (y : B) → (k : ℕ) × (slice_get (filter_map f xs) k ≡ Some y) → (k : ℕ) × (slice_get (filter_map f (x ∷ xs)) k ≡ Some y)
  has-by x xs None e y h = (h.0, ap (λ (o : Option B). slice_get (cons_option o (filter_map f xs)) h.0) e ∙ h.1)
  has-by x xs (Some z) e y h = (suc h.0, ap (λ (o : Option B). slice_get (cons_option o (filter_map f xs)) (suc h.0)) e ∙ h.1)

  pub has : (xs : List A) (k : ℕ) (x : A) (y : B) → slice_get xs k ≡ Some x → f x ≡ Some y → (j : ℕ) × (slice_get (filter_map f xs) j ≡ Some y)
  has [] k x y at is = absurd (none-some x at)
  has (z ∷ xs) zero x y at is = (0, ap (λ (o : Option B). slice_get (cons_option o (filter_map f xs)) 0) (ap f (same_Some z x at) ∙ is))
  has (z ∷ xs) (suc k) x y at is = has-by z xs (f z) refl y (has xs k x y at is)

-- ---- what happens at the nets of frames

module _ {S : Type 0} where
  abbrev pub event_in : Deed S → Option NetEvent
  event_in (Above (OfNet event)) = Some event
  event_in (Above (OfMember step)) = None
  event_in (Below event) = None

  abbrev pub event_of : Acted S → Option NetEvent
  event_of x = event_in x.deed

  abbrev events_above : List (Acted S) → List NetEvent
  events_above all = net_events (items_of (done_in all))

  one-more : (p : Address) (d : Deed S) (all : List (Acted S)) → events_above all ≡ filter_map event_of all
      → events_above (record { by = p; deed = d } ∷ all) ≡ filter_map event_of (record { by = p; deed = d } ∷ all)
  one-more p (Above (OfNet event)) all e = ap (λ (l : List NetEvent). event ∷ l) e
  one-more p (Above (OfMember step)) all e = e
  one-more p (Below event) all e = e

  pub above-are : (all : List (Acted S)) → events_above all ≡ filter_map event_of all
  above-are [] = refl
  above-are (x ∷ all) = one-more x.by x.deed all (above-are all)

  -- what was given there
  given-in : (d : Deed S) (event : NetEvent) → event_in d ≡ Some event → d ≡ Above (OfNet event)
  given-in (Above (OfNet other)) event e = ap (λ (x : NetEvent). Above (OfNet x)) (same_Some other event e)
  given-in (Above (OfMember step)) event e = absurd (none-some event e)
  given-in (Below other) event e = absurd (none-some event e)

  pub given-by : (x : Acted S) (event : NetEvent) → event_of x ≡ Some event → x ≡ record { by = x.by; deed = Above (OfNet event) }
  given-by x event e = ap (λ (d : Deed S). record { by = x.by; deed = d }) (given-in x.deed event e)

  -- a packet that was sent was offered there
  pub sent-above : (all : List (Acted S)) (p : Address) (packet : List ℕ) → (node : ℕ) × HasDone all p (Above (OfNet (Offered (record { node = node; bytes = packet })))) → WasPutOut (all_offered (filter_map event_of all)) packet
  sent-above all p packet sent =
      let event = has event_of all sent.1.0 (record { by = p; deed = Above (OfNet (Offered (record { node = sent.0; bytes = packet }))) }) (Offered (record { node = sent.0; bytes = packet })) sent.1.1 refl in
      has bytes_offered (filter_map event_of all) event.0 (Offered (record { node = sent.0; bytes = packet })) packet event.1 refl

-- ---- beginnings of a list

module _ {A : Type 0} where
  pub within-take : (n : ℕ) (xs : List A) (k : ℕ) (x : A) → slice_get (take n xs) k ≡ Some x → k < n
  within-take zero xs k x at = absurd (none-some x at)
  within-take (suc n) [] k x at = absurd (none-some x at)
  within-take (suc n) (y ∷ xs) zero x at = omega arith
  within-take (suc n) (y ∷ xs) (suc k) x at = omega (arith, within-take n xs k x at)

  pub at-take : (n : ℕ) (xs : List A) (k : ℕ) (x : A) → k < n → slice_get xs k ≡ Some x → slice_get (take n xs) k ≡ Some x
  at-take zero xs k x lt at = absurd (omega (arith, lt))
  at-take (suc n) [] k x lt at = absurd (none-some x at)
  at-take (suc n) (y ∷ xs) zero x lt at = at
  at-take (suc n) (y ∷ xs) (suc k) x lt at = at-take n xs k x (omega (arith, lt)) at
