-- The service follows its member; each answer says what happened, and each own delivery answers the ticket that waits for it.
use Rattle.std.proofs.Common.{◌≡◌, ◌⊎◌, inl, inr, ℕ, ◌++◌, true, List, [], ◌∷◌, map, take, Option, None, Some, fold, refl, sym, ap, ◌∙◌}
use Rattle.std.specs.List.{Contains, slice_get}
use Rattle.std.proofs.lemmas.List.{append-nil}
use Rattle.std.proofs.lemmas.List.Elements.{Contains-append_cases, Contains-append_left, Contains-append_right, Contains-push, Contains-push_cases}
use Rattle.address.specs.Ids.{Address, same_address}
use Rattle.trace_props.specs.declared.event.Event.{Event}
use Rattle.trace_props.specs.declared.event.Event.TheVariants.{Delivered, Installed}
use Rattle.trace_props.specs.declared.event.Delivery.{Delivery}
use Rattle.trace_props.specs.declared.event.Install.{Install}
use Rattle.replicated_map.specs.Entries.{MapState}
use Rattle.replicated_map.specs.Meanings.{map_meaning}
use Rattle.replicated_map.specs.Outcomes.{outcome_at}
use Rattle.application.specs.declared.waiting.Waiting.{Waiting}
use Rattle.application.specs.Waits.{ticket_of}
use Rattle.application.specs.Places.{next_place, place_after}
use Rattle.application.specs.Followed.{Followed, Follows, after_delivery, after_event, after_install, due}
use Rattle.application.proofs.OwnEvents.{nothing-stands, by-own, given, gives, answers-stay as stay}
use Rattle.application.proofs.EventsFollowed.{due-own, service-follows}
use Rattle.replicated_map.specs.declared.waiting.Answer.{Answer}
use Rattle.replicated_map.specs.declared.waiting.Fate.{Fate}
use Rattle.replicated_map.specs.declared.waiting.Fate.TheVariants as fate
use Rattle.replicated_map.specs.Serving.{Serving, heard, delivered, installed, answer_of, answered, fate_of, back}
use Rattle.replicated_map.specs.Answers.{heard_all, answers_by, answers_to, IsDeliveredAt, IsHandedBackAt, IsTrueAnswer}

-- ---- what it knows, and what stays

abbrev given_by : Serving → Delivery → List Answer
given_by s d = answered (due d s.followed) (fate_of d s)

followed-one : (s : Serving) (h : Event) → (heard s h).followed ≡ after_event map_meaning s.followed h
followed-one s h = by-own (λ h (x : Serving) (f : Followed MapState). x.followed ≡ f) s.followed.own (λ d. delivered d s) (λ i. installed i s) s
    (λ d. after_delivery map_meaning d s.followed) (λ i. after_install map_meaning i s.followed) s.followed (λ d e. refl) (λ i e. refl) (λ h. refl) h

pub follows : (s : Serving) (t : List Event) → Follows map_meaning s.followed (heard_all s t).followed t
follows s t = service-follows map_meaning heard (λ (x : Serving). x.followed) followed-one s t

answers-one : (s : Serving) (h : Event) → (heard s h).answers ≡ s.answers ++ answers_by s h
answers-one s h = by-own (λ h (x : Serving) (l : List Answer). x.answers ≡ s.answers ++ l) s.followed.own (λ d. delivered d s) (λ i. installed i s) s
    (given_by s) (λ i. map back s.followed.waiting) [] (λ d e. refl) (λ i e. refl) (λ h. sym (append-nil s.answers)) h

pub answers-stay : (s : Serving) (t : List Event) → (heard_all s t).answers ≡ s.answers ++ answers_to s t
answers-stay s t = stay heard answers_by (λ (x : Serving). x.answers) answers-one s t

-- ---- what an event says to whom

-- the one answer to a ticket that waits
one-answer : (o : Option ℕ) (f : Fate) (a : Answer) → Contains (answered o f) a → (o ≡ Some a.ticket) × (a.fate ≡ f)
one-answer None f a c = absurd (nothing-stands a c)
one-answer (Some n) f a c = by (Contains-push_cases [] (answer_of n f) a c) where
  by : Contains [] a ⊎ (answer_of n f ≡ a) → (Some n ≡ Some a.ticket) × (a.fate ≡ f)
  by (inl none) = absurd (nothing-stands a none)
  by (inr same) = (ap (λ (x : Answer). Some x.ticket) same, sym (ap (λ (x : Answer). x.fate) same))

-- each answer to those that wait as the view ends
one-back : (ws : List Waiting) (a : Answer) → Contains (map back ws) a → (w : Waiting) × Contains ws w × (w.ticket ≡ a.ticket) × (a.fate ≡ fate.HandedBack)
one-back [] a c = absurd (nothing-stands a c)
one-back (w ∷ ws) a c = by (Contains-append_cases (back w ∷ []) (map back ws) a c) (one-back ws a) where
  first : Contains [] a ⊎ (back w ≡ a) → (v : Waiting) × Contains (w ∷ ws) v × (v.ticket ≡ a.ticket) × (a.fate ≡ fate.HandedBack)
  first (inl none) = absurd (nothing-stands a none)
  first (inr same) = (w, Contains-append_left (w ∷ []) ws w (Contains-push [] w), ap (λ (x : Answer). x.ticket) same, sym (ap (λ (x : Answer). x.fate) same))

  by : Contains (back w ∷ []) a ⊎ Contains (map back ws) a → (Contains (map back ws) a → (v : Waiting) × Contains ws v × (v.ticket ≡ a.ticket) × (a.fate ≡ fate.HandedBack))
      → (v : Waiting) × Contains (w ∷ ws) v × (v.ticket ≡ a.ticket) × (a.fate ≡ fate.HandedBack)
  by (inl one) rest = first (Contains-push_cases [] (back w) a one)
  by (inr more) rest = let v = rest more in (v.0, Contains-append_right (w ∷ []) ws v.0 v.1, v.2, v.3)

-- ---- the law

at-own : (s : Serving) (t : List Event) (p : Address) → same_address p (heard_all s t).followed.own ≡ true → same_address p s.followed.own ≡ true
at-own s t p e = ap (λ (q : Address). same_address p q) (sym (follows s t).own) ∙ e

true-delivery : (s : Serving) (t : List Event) (k : ℕ) (d : Delivery) (a : Answer) → slice_get t k ≡ Some (Delivered d) → same_address d.member (heard_all s (take k t)).followed.own ≡ true
    → Contains (given_by (heard_all s (take k t)) d) a → IsDeliveredAt s t k d a
true-delivery s t k d a e here c =
    let u = heard_all s (take k t) in
    let one = one-answer (due d u.followed) (fate_of d u) a c in
    let own = due-own d u.followed a.ticket one.0 in
    let past = follows s (take k t) in
    let placed : fate_of d u ≡ fate.Delivered d.view (next_place (fold (place_after s.followed.own) s.followed.place (take k t))) (outcome_at u.followed.copy d.message.payload)
    = ap (λ (n : ℕ). fate.Delivered d.view (next_place n) (outcome_at u.followed.copy d.message.payload)) past.place in
    let stated = ap (λ (c : MapState). fate.Delivered d.view (next_place (fold (place_after s.followed.own) s.followed.place (take k t))) (outcome_at c d.message.payload)) past.copy in
    record { event = e; here = at-own s (take k t) d.member here; own = at-own s (take k t) d.message.sender own.0; waits = own.1; fate = one.1 ∙ placed ∙ stated }

true-install : (s : Serving) (t : List Event) (k : ℕ) (i : Install) (a : Answer) → slice_get t k ≡ Some (Installed i) → same_address i.member (heard_all s (take k t)).followed.own ≡ true
    → Contains (map back (heard_all s (take k t)).followed.waiting) a → IsHandedBackAt s t k i a
true-install s t k i a e here c =
    let one = one-back (heard_all s (take k t)).followed.waiting a c in
    record { event = e; here = at-own s (take k t) i.member here; waits = (one.0, one.1, one.2); fate = one.3 }

pub true-answers : (s : Serving) (t : List Event) (a : Answer) → Contains (answers_to s t) a → IsTrueAnswer s t a
true-answers s t a c = let g = given heard answers_by s t a c in at g.0 g.1 g.2 g.3 where
  at : (k : ℕ) (h : Event) → slice_get t k ≡ Some h → Contains (answers_by (heard_all s (take k t)) h) a → IsTrueAnswer s t a
  at k h =
      let u = heard_all s (take k t) in
      by-own (λ h (l m : List Answer). slice_get t k ≡ Some h → Contains l a → IsTrueAnswer s t a) u.followed.own (given_by u) (λ i. map back u.followed.waiting) []
      (given_by u) (λ i. map back u.followed.waiting) []
      (λ d here e c. inl (k, d, true-delivery s t k d a e here c)) (λ i here e c. inr (k, i, true-install s t k i a e here c)) (λ h e c. absurd (nothing-stands a c)) h

own-answer : (u : Serving) (d : Delivery) (ticket : ℕ) → same_address d.member u.followed.own ≡ true → same_address d.message.sender u.followed.own ≡ true
    → ticket_of d.message.number u.followed.waiting ≡ Some ticket → Contains (answers_by u (Delivered d)) (answer_of ticket (fate_of d u))
own-answer u d ticket here own waits = rw (here, own, waits) (Contains-push [] (answer_of ticket (fate_of d u)))

pub each-delivery : (s : Serving) (t : List Event) (k ticket : ℕ) (d : Delivery) → slice_get t k ≡ Some (Delivered d) → same_address d.member s.followed.own ≡ true
    → same_address d.message.sender s.followed.own ≡ true → ticket_of d.message.number (heard_all s (take k t)).followed.waiting ≡ Some ticket
    → Contains (answers_to s t) (answer_of ticket (fate_of d (heard_all s (take k t))))
each-delivery s t k ticket d e here own waits =
    let u = heard_all s (take k t) in
    let same = (follows s (take k t)).own in
    let there : same_address d.member u.followed.own ≡ true = ap (λ (q : Address). same_address d.member q) same ∙ here in
    let mine : same_address d.message.sender u.followed.own ≡ true = ap (λ (q : Address). same_address d.message.sender q) same ∙ own in
    gives heard answers_by s t k (Delivered d) (answer_of ticket (fate_of d u)) e (own-answer u d ticket there mine waits)
