-- Copies agree: the clauses of `ReplicasAgree`, one after the other.
use Rattle.std.proofs.Common.{◌≡◌, ℕ, ◌+◌, ◌<◌, ◌≤◌, Bool, true, false, List, [], ◌∷◌, ◌++◌, length, take, drop, Some, slice_get, sym, refl, ap, ◌∙◌, subst, ⊎_elim, length-append, take-take, take_all, add-one, arith}
use Rattle.std.proofs.lemmas.Bool.{cases_lt}
use Rattle.std.proofs.lemmas.List.{take-append-le, take_at, length-take, take-append-drop}
use Rattle.std.proofs.lemmas.List.Elements.{filter_map-append}
use Rattle.std.proofs.lemmas.List.Sums.{fold-append}
use Rattle.std.proofs.lemmas.Option.{none-some, same_Some, slice_get_within}
use Rattle.address.specs.Ids.{Address, ViewId}
use Rattle.state_transfer.specs.Meanings.{Meaning}
use Rattle.trace_props.specs.declared.event.Event.{Event}
use Rattle.trace_props.specs.declared.event.Event.TheVariants.{Started, Sent, Delivered, Blocked, Installed, Left, Crashed}
use Rattle.trace_props.specs.declared.event.Install.{Install}
use Rattle.trace_props.specs.declared.event.Message.{Message}
use Rattle.trace_props.specs.Places.{EachPlace}
use Rattle.trace_props.specs.Observed.{delivered_message, delivered_in, current_view}
use Rattle.trace_props.specs.Rules.{MayStand, IsWellPlaced, EntersAbove, HasRisingViews}
use Rattle.trace_props.specs.State.{state_of, entry_state, EntersAlike}
use Rattle.trace_props.specs.Synchrony.{KeepsRules, IsVirtuallySynchronous}
use Rattle.trace_props.proofs.RulesAlongLists.{slice_get-push, EachEvent-before, EachEvent-last, EachPlace-whole, take-next}
use Rattle.trace_props.proofs.DeliveredGrow.{is_delivery_to, is_delivery_to-true, delivered_in-still, delivered_in-miss}
use Rattle.trace_props.proofs.InstallsOfRisingViews.{by_pushes, views-before, gone}
use Rattle.law_processes.specs.Replicas.{after_all, HasDelivered, WentThrough, ReplicasAgree}
use Rattle.law_processes.proofs.StatesAreMade.{Grounds, state-made, entry-later}
use Rattle.law_processes.proofs.CountsArePassed.{reaches}
use Rattle.law_processes.proofs.CoordinatorsCount.{stood, coordinator-was-in}

-- WHO HAS LEFT A VIEW DELIVERS NOTHING MORE THERE

LeftList : List Event → Type 0
LeftList t = IsWellPlaced t → HasRisingViews t → (j : ℕ) (e : Install) → slice_get t j ≡ Some (Installed e) → (v : ViewId) → e.previous ≡ Some v → delivered_in e.member v t ≡ delivered_in e.member v (take j t)

gone-quiet : (t : List Event) (h : Event) (p : Address) (v : ViewId) → MayStand t h → (current_view p t ≡ Some v → ⊥) → delivered_in p v (t ++ h ∷ []) ≡ delivered_in p v t
gone-quiet t (Started q) p v stands not = delivered_in-still p v t (Started q) refl
gone-quiet t (Sent s) p v stands not = delivered_in-still p v t (Sent s) refl
gone-quiet t (Delivered d) p v stands not = by (is_delivery_to p v d) refl where
  by : (b : Bool) → is_delivery_to p v d ≡ b → delivered_in p v (t ++ Delivered d ∷ []) ≡ delivered_in p v t
  by false e = delivered_in-miss p v t d e
  by true e = let same = is_delivery_to-true p v d e in absurd (not (ap (λ q. current_view q t) (sym same.0) ∙ stands.1 ∙ ap Some same.1))
gone-quiet t (Blocked q) p v stands not = delivered_in-still p v t (Blocked q) refl
gone-quiet t (Installed i) p v stands not = delivered_in-still p v t (Installed i) refl
gone-quiet t (Left q) p v stands not = delivered_in-still p v t (Left q) refl
gone-quiet t (Crashed q) p v stands not = delivered_in-still p v t (Crashed q) refl

left-push : (t : List Event) (h : Event) → LeftList t → LeftList (t ++ h ∷ [])
unfolding LeftList
left-push t h r = λ placed views j e s v came.
    ⊎_elim
    (λ (a : slice_get t j ≡ Some (Installed e)).
    let within : j < length t = slice_get_within t j (Installed e) a in
    let before = views-before t h views in
    gone-quiet t h e.member v (EachEvent-last MayStand t h placed) (λ here. gone t before j e a v came here)
    ∙ r (EachEvent-before MayStand t h placed) before j e a v came
    ∙ ap (delivered_in e.member v) (sym (take-append-le j t (h ∷ []) (omega arith))))
    (λ (b : (j ≡ length t) × (h ≡ Installed e)).
    ap (λ (x : Event). delivered_in e.member v (t ++ x ∷ [])) b.1
    ∙ delivered_in-still e.member v t (Installed e) refl
    ∙ ap (delivered_in e.member v) (sym (take_at t (h ∷ []) j (sym b.0))))
    (slice_get-push t h j (Installed e) s)

left-list : (t : List Event) → LeftList t
unfolding LeftList
left-list t = by_pushes LeftList (λ placed views j e s. absurd (none-some (Installed e) s)) left-push t

-- THE CLAUSES

module _ {S : Type 0} (meaning : Meaning S) (t : List Event) (keeps : IsVirtuallySynchronous meaning t) where
  whole : KeepsRules meaning t
  whole = EachPlace-whole (KeepsRules meaning) t keeps

  abbrev At : ℕ → List Event
  At k = take k t

  grounds-whole : Grounds meaning t
  grounds-whole = record { placed = whole.ordered.placed; views = whole.ordered.views; state = whole.state }

  grounds-at : (k : ℕ) → Grounds meaning (take k t)
  grounds-at k = let r : KeepsRules meaning (take k t) = keeps k in record { placed = r.ordered.placed; views = r.ordered.views; state = r.state }

  -- a member's list at a place is a beginning of the one of the view's coordinator
  list-at : (k : ℕ) (p : Address) (v : ViewId) (n : ℕ) → HasDelivered p v n (take k t) → delivered_in p v (take k t) ≡ take n (delivered_in v.creator v t)
  list-at k p v n d =
      let front = delivered_in p v (take k t) in
      let back = delivered_in p v (drop k t) in
      let all : delivered_in p v t ≡ front ++ back = ap (delivered_in p v) (sym (take-append-drop k t)) ∙ filter_map-append (delivered_message p v) (take k t) (drop k t) in
      let order : delivered_in p v t ≡ take (length (delivered_in p v t)) (delivered_in v.creator v t) = whole.ordered.order p v in
      let long : length (front ++ back) ≡ length (delivered_in p v t) = ap length (sym all) in
      let many : length front ≡ n = d.many in
      let few : n ≤ length (delivered_in p v t) = omega (arith, long, many, length-append front back) in
      sym (take_at front back n many) ∙ ap (take n) (sym all) ∙ ap (take n) order ∙ take-take n (length (delivered_in p v t)) (delivered_in v.creator v t) few

  entry-whole : (k : ℕ) (v : ViewId) (s : S) → entry_state meaning v (take k t) ≡ Some s → entry_state meaning v t ≡ Some s
  entry-whole k v s e = ap (entry_state meaning v) (sym (take-append-drop k t)) ∙ entry-later meaning v (take k t) (drop k t) s e

  same-entry : (j k : ℕ) (v : ViewId) (x y : S) → entry_state meaning v (take j t) ≡ Some x → entry_state meaning v (take k t) ≡ Some y → x ≡ y
  same-entry j k v x y a b = same_Some x y (sym (entry-whole j v x a) ∙ entry-whole k v y b)

  agree-whenever : (j k : ℕ) (p q : Address) (v : ViewId) (n : ℕ) → HasDelivered p v n (take j t) → HasDelivered q v n (take k t) → state_of meaning p (take j t) ≡ state_of meaning q (take k t)
  agree-whenever j k p q v n a b =
      let one = state-made meaning (take j t) (grounds-at j) p v a.view in
      let two = state-made meaning (take k t) (grounds-at k) q v b.view in
      let entry : one.entry ≡ two.entry = same-entry j k v one.entry two.entry one.entered two.entered in
      let lists : delivered_in p v (take j t) ≡ delivered_in q v (take k t) = list-at j p v n a ∙ sym (list-at k q v n b) in
      one.made ∙ ap (λ (s : S). after_all meaning s (delivered_in p v (take j t))) entry ∙ ap (after_all meaning two.entry) lists ∙ sym two.made

  all-of : take (length t) t ≡ t
  all-of = take_all (length t) t (omega arith)

  now : (p : Address) (v : ViewId) (n : ℕ) → HasDelivered p v n t → HasDelivered p v n (take (length t) t)
  now p v n d = subst (λ (s : List Event). HasDelivered p v n s) (sym all-of) d

  agree-level : (p q : Address) (v : ViewId) (n : ℕ) → HasDelivered p v n t → HasDelivered q v n t → state_of meaning p t ≡ state_of meaning q t
  agree-level p q v n a b =
      ap (state_of meaning p) (sym all-of) ∙ agree-whenever (length t) (length t) p q v n (now p v n a) (now q v n b) ∙ ap (state_of meaning q) all-of

  agree-behind : (p q : Address) (v : ViewId) (m n : ℕ) → m ≤ n → HasDelivered p v m t → HasDelivered q v n t → WentThrough meaning q v m (state_of meaning p t) t
  agree-behind p q v m n le a b =
      let was = reaches t whole.ordered.placed whole.ordered.views q v m n le b in
      record {
        place = was.place;
        within = was.within;
        there = was.there;
        state = agree-whenever was.place (length t) q p v m was.there (now p v m a) ∙ ap (state_of meaning p) all-of;
      }

  -- the view's coordinator went through each state of a member of the view
  agree-followed : (p : Address) (v : ViewId) (n : ℕ) → HasDelivered p v n t → WentThrough meaning v.creator v n (state_of meaning p t) t
  agree-followed p v n a =
      let lead = delivered_in v.creator v t in
      let made = state-made meaning t grounds-whole p v a.view in
      let mine : delivered_in p v t ≡ take n lead = ap (delivered_in p v) (sym all-of) ∙ list-at (length t) p v n (now p v n a) in
      let long : length (take n lead) ≡ n = ap length (sym mine) ∙ a.many in
      let few : n ≤ length lead = omega (arith, long, length-take n lead) in
      let was = stood t whole.ordered.placed whole.ordered.views v.creator v n (coordinator-was-in meaning v t made.entry made.entered) few in
      record {
        place = was.place;
        within = was.within;
        there = was.there;
        state = agree-whenever was.place (length t) v.creator p v n was.there (now p v n a) ∙ ap (state_of meaning p) all-of;
      }

  agree-lacking : (p q : Address) (v : ViewId) (m n : ℕ) → m ≤ n → HasDelivered p v m t → HasDelivered q v n t → state_of meaning q t ≡ after_all meaning (state_of meaning p t) (drop m (delivered_in q v t))
  agree-lacking p q v m n le a b =
      let one = state-made meaning t grounds-whole p v a.view in
      let two = state-made meaning t grounds-whole q v b.view in
      let entry : two.entry ≡ one.entry = same_Some two.entry one.entry (sym two.entered ∙ one.entered) in
      let mine : delivered_in p v t ≡ take m (delivered_in v.creator v t) = ap (delivered_in p v) (sym all-of) ∙ list-at (length t) p v m (now p v m a) in
      let theirs : delivered_in q v t ≡ take n (delivered_in v.creator v t) = ap (delivered_in q v) (sym all-of) ∙ list-at (length t) q v n (now q v n b) in
      let front : take m (delivered_in q v t) ≡ delivered_in p v t = ap (take m) theirs ∙ take-take m n (delivered_in v.creator v t) le ∙ sym mine in
      let apply_one = λ (x : S) (c : Message). meaning.apply x c.sender c.payload in
      two.made
      ∙ ap (λ (s : S). after_all meaning s (delivered_in q v t)) entry
      ∙ ap (after_all meaning one.entry) (sym (take-append-drop m (delivered_in q v t)))
      ∙ fold-append apply_one one.entry (take m (delivered_in q v t)) (drop m (delivered_in q v t))
      ∙ ap (λ (l : List Message). after_all meaning (after_all meaning one.entry l) (drop m (delivered_in q v t))) front
      ∙ ap (λ (s : S). after_all meaning s (drop m (delivered_in q v t))) (sym one.made)

  came-from : (j : ℕ) (e : Install) (v : ViewId) → slice_get t j ≡ Some (Installed e) → e.previous ≡ Some v → current_view e.member (take j t) ≡ Some v
  came-from j e v s came =
      let above : EntersAbove (take j t) e = whole.ordered.views.rises j (Installed e) s in
      sym above.previous ∙ came

  left-there : (j : ℕ) (e : Install) (v : ViewId) → slice_get t j ≡ Some (Installed e) → e.previous ≡ Some v → delivered_in e.member v t ≡ delivered_in e.member v (take j t)
  unfolding LeftList
  left-there j e v s came = left-list t whole.ordered.placed whole.ordered.views j e s v came

  agree-leaving : (j k : ℕ) (e f : Install) → slice_get t j ≡ Some (Installed e) → slice_get t k ≡ Some (Installed f) → e.view.id ≡ f.view.id → (v : ViewId) → e.previous ≡ Some v → f.previous ≡ Some v
      → state_of meaning e.member (take j t) ≡ state_of meaning f.member (take k t)
  agree-leaving j k e f a b next v left right =
      let same : delivered_in e.member v t ≡ delivered_in f.member v t = whole.same_next j k e f a b next v left right in
      let lists : delivered_in f.member v (take k t) ≡ delivered_in e.member v (take j t) = sym (left-there k f v b right) ∙ sym same ∙ left-there j e v a left in
      agree-whenever j k e.member f.member v (length (delivered_in e.member v (take j t)))
      (record { view = came-from j e v a left; many = refl })
      (record { view = came-from k f v b right; many = ap length lists })

  one-further : (j : ℕ) (h : Event) → slice_get t j ≡ Some h → take (j + 1) t ≡ take j t ++ h ∷ []
  one-further j h s = ap (λ n. take n t) (add-one j) ∙ take-next j t h s

  entered-with : (j : ℕ) (e : Install) → slice_get t j ≡ Some (Installed e) → entry_state meaning e.view.id t ≡ Some (state_of meaning e.member (take (j + 1) t))
  entered-with j e s =
      let alike : EntersAlike meaning (take j t) (Installed e) = whole.state j (Installed e) s in
      let here : entry_state meaning e.view.id (take (j + 1) t) ≡ Some (state_of meaning e.member (take (j + 1) t)) =
      subst (λ (u : List Event). entry_state meaning e.view.id u ≡ Some (state_of meaning e.member u)) (sym (one-further j (Installed e) s)) alike.1 in
      entry-whole (j + 1) e.view.id (state_of meaning e.member (take (j + 1) t)) here

  agree-entering : (j k : ℕ) (e f : Install) → slice_get t j ≡ Some (Installed e) → slice_get t k ≡ Some (Installed f) → e.view.id ≡ f.view.id
      → state_of meaning e.member (take (j + 1) t) ≡ state_of meaning f.member (take (k + 1) t)
  agree-entering j k e f a b same =
      same_Some (state_of meaning e.member (take (j + 1) t)) (state_of meaning f.member (take (k + 1) t))
      (sym (entered-with j e a) ∙ ap (λ (v : ViewId). entry_state meaning v t) same ∙ entered-with k f b)

  -- at the end of a virtually synchronous trace copies agree
  pub agree-whole : ReplicasAgree meaning t
  agree-whole = record {
    level = agree-level;
    whenever = agree-whenever;
    followed = agree-followed;
    behind = agree-behind;
    lacking = agree-lacking;
    leaving = agree-leaving;
    entering = agree-entering;
  }

-- a beginning of a virtually synchronous trace is one
synchronous-take : {S : Type 0} (meaning : Meaning S) (t : List Event) (k : ℕ) → IsVirtuallySynchronous meaning t → IsVirtuallySynchronous meaning (take k t)
synchronous-take meaning t k keeps j =
    ⊎_elim
    (λ (l : k < j). subst (KeepsRules meaning) (sym (take_all j (take k t) (omega (arith, length-take k t)))) (keeps k))
    (λ (l : j ≤ k). subst (KeepsRules meaning) (sym (take-take j k t l)) (keeps j))
    (cases_lt k j)

-- and so at each of its places
pub agree-each : {S : Type 0} (meaning : Meaning S) (t : List Event) → IsVirtuallySynchronous meaning t → EachPlace (ReplicasAgree meaning) t
agree-each meaning t keeps k = agree-whole meaning (take k t) (synchronous-take meaning t k keeps)
