-- How a member's state is made: by what it delivered in its current view, from the state of entry of that view.
use Rattle.std.proofs.Common.{◌≡◌, ℕ, Bool, true, false, List, [], ◌∷◌, ◌++◌, Option, Some, None, sym, refl, ap, ◌∙◌, subst}
use Rattle.std.specs.Option.{ForSome}
use Rattle.std.specs.List.{position_from}
use Rattle.std.proofs.lemmas.Bool.{and_left, and_from, cond-true, cond-false}
use Rattle.std.proofs.lemmas.List.Sums.{fold-append}
use Rattle.std.proofs.lemmas.Option.{none-some, same_Some}
use Rattle.address.specs.Ids.{Address, ViewId, same_address, same_view_id}
use Rattle.state_transfer.specs.Meanings.{Meaning}
use Rattle.trace_props.specs.declared.event.Event.{Event}
use Rattle.trace_props.specs.declared.event.Event.TheVariants.{Started, Sent, Delivered, Blocked, Installed, Left, Crashed}
use Rattle.trace_props.specs.declared.event.Install.{Install}
use Rattle.trace_props.specs.declared.event.Delivery.{Delivery}
use Rattle.trace_props.specs.declared.event.Message.{Message}
use Rattle.trace_props.specs.Observed.{delivered_message, delivered_in, current_view, view_after}
use Rattle.trace_props.specs.Rules.{IsBelow, MayStand, IsWellPlaced, RisesAt, EntersAbove, HasRisingViews}
use Rattle.trace_props.specs.State.{state_after, state_of, installs, entry_state, EntersAlike, EntersWithState}
use Rattle.trace_props.proofs.RulesAlongLists.{EachEvent-before, EachEvent-last}
use Rattle.address.proofs.SameIds.{same_address-true, same_view_id-refl}
use Rattle.trace_props.proofs.ObservedGrow.{current_view-push}
use Rattle.trace_props.proofs.DeliveredGrow.{is_delivery_to, is_delivery_to-true, delivered_in-still, delivered_in-miss, delivered_in-hit}
use Rattle.trace_props.proofs.InstallsOfRisingViews.{by_pushes, views-before, IsBelow-irreflexive, IsBelow-trans}
use Rattle.trace_props.proofs.RuleOfEntry.{state_of-push, entry_state-stays, entry_state-none}
use Rattle.law_processes.specs.Replicas.{after_all}

-- NOTHING IS DELIVERED IN A VIEW AHEAD

-- the current view is below another, or there is none
abbrev pub IsAhead : Address → List Event → ViewId → Type 0
IsAhead p t v = ForSome (current_view p t) (λ w. IsBelow w v)

NothingAhead : Address → List Event → Type 0
NothingAhead p t = IsWellPlaced t → HasRisingViews t → (v : ViewId) → IsAhead p t v → delivered_in p v t ≡ []

ahead-still : (p : Address) (t : List Event) (h : Event) → view_after p (current_view p t) h ≡ current_view p t → ((v : ViewId) → delivered_message p v h ≡ None) → NothingAhead p t → NothingAhead p (t ++ h ∷ [])
unfolding NothingAhead
ahead-still p t h same none r = λ placed views v ahead.
    delivered_in-still p v t h (none v)
    ∙ r (EachEvent-before MayStand t h placed) (views-before t h views) v (subst (λ (o : Option ViewId). ForSome o (λ w. IsBelow w v)) (current_view-push p t h ∙ same) ahead)

ahead-delivered : (p : Address) (t : List Event) (d : Delivery) (v : ViewId) (b : Bool) → is_delivery_to p v d ≡ b → MayStand t (Delivered d) → IsAhead p t v → delivered_in p v t ≡ [] → delivered_in p v (t ++ Delivered d ∷ []) ≡ []
ahead-delivered p t d v false e stands ahead so = delivered_in-miss p v t d e ∙ so
ahead-delivered p t d v true e stands ahead so =
    let same = is_delivery_to-true p v d e in
    let here : current_view p t ≡ Some v = ap (λ q. current_view q t) (sym same.0) ∙ stands.1 ∙ ap Some same.1 in
    absurd (IsBelow-irreflexive v (ahead v here))

ahead-install : (p : Address) (t : List Event) (i : Install) (v : ViewId) (b : Bool) → same_address i.member p ≡ b → EntersAbove t i → IsAhead p (t ++ Installed i ∷ []) v → IsAhead p t v
ahead-install p t i v false e above ahead =
    subst (λ (o : Option ViewId). ForSome o (λ w. IsBelow w v)) (current_view-push p t (Installed i) ∙ cond-false (same_address i.member p) (Some i.view.id) (current_view p t) e) ahead
ahead-install p t i v true e above ahead = λ w s.
    let now : current_view p (t ++ Installed i ∷ []) ≡ Some i.view.id = current_view-push p t (Installed i) ∙ cond-true (same_address i.member p) (Some i.view.id) (current_view p t) e in
    let same : i.member ≡ p = same_address-true i.member p e in
    IsBelow-trans w i.view.id v (above.rises w (above.previous ∙ ap (λ q. current_view q t) same ∙ s)) (ahead i.view.id now)

ahead-push : (p : Address) (t : List Event) (h : Event) → NothingAhead p t → NothingAhead p (t ++ h ∷ [])
unfolding NothingAhead
ahead-push p t (Started q) r = ahead-still p t (Started q) refl (λ v. refl) r
ahead-push p t (Sent s) r = ahead-still p t (Sent s) refl (λ v. refl) r
ahead-push p t (Delivered d) r = λ placed views v ahead.
    let was : IsAhead p t v = subst (λ (o : Option ViewId). ForSome o (λ w. IsBelow w v)) (current_view-push p t (Delivered d)) ahead in
    ahead-delivered p t d v (is_delivery_to p v d) refl (EachEvent-last MayStand t (Delivered d) placed) was
    (r (EachEvent-before MayStand t (Delivered d) placed) (views-before t (Delivered d) views) v was)
ahead-push p t (Blocked q) r = ahead-still p t (Blocked q) refl (λ v. refl) r
ahead-push p t (Installed i) r = λ placed views v ahead.
    delivered_in-still p v t (Installed i) refl
    ∙ r (EachEvent-before MayStand t (Installed i) placed) (views-before t (Installed i) views) v
    (ahead-install p t i v (same_address i.member p) refl (EachEvent-last RisesAt t (Installed i) views.rises) ahead)
ahead-push p t (Left q) r = ahead-still p t (Left q) refl (λ v. refl) r
ahead-push p t (Crashed q) r = ahead-still p t (Crashed q) refl (λ v. refl) r

-- a member has delivered nothing in a view above its current one
pub nothing-ahead : (p : Address) (t : List Event) → IsWellPlaced t → HasRisingViews t → (v : ViewId) → IsAhead p t v → delivered_in p v t ≡ []
unfolding NothingAhead
nothing-ahead p t = by_pushes (NothingAhead p) (λ placed views v ahead. refl) (ahead-push p) t

-- HOW A STATE IS MADE

module _ {S : Type 0} (meaning : Meaning S) where
  -- a state of entry that is known stays
  pub entry-later : (v : ViewId) (t u : List Event) (s : S) → entry_state meaning v t ≡ Some s → entry_state meaning v (t ++ u) ≡ Some s
  entry-later v t u s is = by (position_from (installs v.creator v) 0 t) refl where
    by : (o : Option ℕ) → position_from (installs v.creator v) 0 t ≡ o → entry_state meaning v (t ++ u) ≡ Some s
    by None e = absurd (none-some s (sym (entry_state-none meaning v t e) ∙ is))
    by (Some k) e = entry_state-stays meaning v t u k e ∙ is

  -- a member's state is made of the state of entry by what it delivered in its view
  pub record IsMade (p : Address) (v : ViewId) (t : List Event) : Type 0 where
    pub entry : S
    pub entered : entry_state meaning v t ≡ Some entry
    pub made : state_of meaning p t ≡ after_all meaning entry (delivered_in p v t)

  -- the rules that it takes
  pub record Grounds (t : List Event) : Type 0 where
    pub placed : IsWellPlaced t
    pub views : HasRisingViews t
    pub state : EntersWithState meaning t

  grounds-before : (t : List Event) (h : Event) → Grounds (t ++ h ∷ []) → Grounds t
  grounds-before t h r = record {
    placed = EachEvent-before MayStand t h r.placed;
    views = views-before t h r.views;
    state = EachEvent-before (EntersAlike meaning) t h r.state;
  }

  made-still : (p : Address) (v : ViewId) (t : List Event) (h : Event) → delivered_message p v h ≡ None → state_after meaning p (state_of meaning p t) h ≡ state_of meaning p t → IsMade p v t → IsMade p v (t ++ h ∷ [])
  made-still p v t h none same m = record {
    entry = m.entry;
    entered = entry-later v t (h ∷ []) m.entry m.entered;
    made = state_of-push meaning p t h ∙ same ∙ m.made ∙ ap (after_all meaning m.entry) (sym (delivered_in-still p v t h none));
  }

  made-delivered : (p : Address) (v : ViewId) (t : List Event) (d : Delivery) (b : Bool) → same_address d.member p ≡ b → MayStand t (Delivered d) → current_view p t ≡ Some v → IsMade p v t → IsMade p v (t ++ Delivered d ∷ [])
  made-delivered p v t d false e stands here m =
      made-still p v t (Delivered d) (cond-false (is_delivery_to p v d) (Some d.message) None (and_left (same_address d.member p) (same_view_id d.view v) e))
      (cond-false (same_address d.member p) (meaning.apply (state_of meaning p t) d.message.sender d.message.payload) (state_of meaning p t) e) m
  made-delivered p v t d true e stands here m =
      let same : d.member ≡ p = same_address-true d.member p e in
      let in_view : d.view ≡ v = same_Some d.view v (sym stands.1 ∙ ap (λ q. current_view q t) same ∙ here) in
      let hit : is_delivery_to p v d ≡ true = and_from (same_address d.member p) (same_view_id d.view v) e (subst (λ (w : ViewId). same_view_id d.view w ≡ true) in_view (same_view_id-refl d.view)) in
      record {
        entry = m.entry;
        entered = entry-later v t (Delivered d ∷ []) m.entry m.entered;
        made =
            state_of-push meaning p t (Delivered d)
            ∙ cond-true (same_address d.member p) (meaning.apply (state_of meaning p t) d.message.sender d.message.payload) (state_of meaning p t) e
            ∙ ap (λ (s : S). meaning.apply s d.message.sender d.message.payload) m.made
            ∙ sym (fold-append (λ (x : S) (n : Message). meaning.apply x n.sender n.payload) m.entry (delivered_in p v t) (d.message ∷ []))
            ∙ ap (after_all meaning m.entry) (sym (delivered_in-hit p v t d hit));
      }

  -- who enters a view begins there with its state of entry
  made-entered : (t : List Event) (i : Install) → Grounds (t ++ Installed i ∷ []) → IsMade i.member i.view.id (t ++ Installed i ∷ [])
  made-entered t i g =
      let above : EntersAbove t i = EachEvent-last RisesAt t (Installed i) g.views.rises in
      let alike = EachEvent-last (EntersAlike meaning) t (Installed i) g.state in
      let was = grounds-before t (Installed i) g in
      let none : delivered_in i.member i.view.id t ≡ [] = nothing-ahead i.member t was.placed was.views i.view.id (λ w s. above.rises w (above.previous ∙ s)) in
      let s = state_of meaning i.member (t ++ Installed i ∷ []) in
      record { entry = s; entered = alike.1; made = ap (after_all meaning s) (sym (delivered_in-still i.member i.view.id t (Installed i) refl ∙ none)) }

  made-install : (p : Address) (v : ViewId) (t : List Event) (i : Install) (b : Bool) → same_address i.member p ≡ b → Grounds (t ++ Installed i ∷ []) → current_view p (t ++ Installed i ∷ []) ≡ Some v
      → (current_view p t ≡ Some v → IsMade p v t) → IsMade p v (t ++ Installed i ∷ [])
  made-install p v t i false e g here m =
      made-still p v t (Installed i) refl (cond-false (same_address i.member p) _ (state_of meaning p t) e)
      (m (sym (cond-false (same_address i.member p) (Some i.view.id) (current_view p t) e) ∙ sym (current_view-push p t (Installed i)) ∙ here))
  made-install p v t i true e g here m =
      let same : i.member ≡ p = same_address-true i.member p e in
      let in_view : i.view.id ≡ v = same_Some i.view.id v (sym (cond-true (same_address i.member p) (Some i.view.id) (current_view p t) e) ∙ sym (current_view-push p t (Installed i)) ∙ here) in
      subst (λ (q : Address). IsMade q v (t ++ Installed i ∷ [])) same (subst (λ (w : ViewId). IsMade i.member w (t ++ Installed i ∷ [])) in_view (made-entered t i g))

  Made : List Event → Type 0
  Made t = Grounds t → (p : Address) (v : ViewId) → current_view p t ≡ Some v → IsMade p v t

  made-quiet : (t : List Event) (h : Event) → ((p : Address) → view_after p (current_view p t) h ≡ current_view p t) → ((p : Address) (v : ViewId) → delivered_message p v h ≡ None)
      → ((p : Address) → state_after meaning p (state_of meaning p t) h ≡ state_of meaning p t) → Made t → Made (t ++ h ∷ [])
  unfolding Made
  made-quiet t h same none still r = λ g p v here.
      made-still p v t h (none p v) (still p) (r (grounds-before t h g) p v (sym (same p) ∙ sym (current_view-push p t h) ∙ here))

  made-push : (t : List Event) (h : Event) → Made t → Made (t ++ h ∷ [])
  unfolding Made
  made-push t (Started q) r = made-quiet t (Started q) (λ p. refl) (λ p v. refl) (λ p. refl) r
  made-push t (Sent s) r = made-quiet t (Sent s) (λ p. refl) (λ p v. refl) (λ p. refl) r
  made-push t (Delivered d) r = λ g p v here.
      let was : current_view p t ≡ Some v = sym (current_view-push p t (Delivered d)) ∙ here in
      made-delivered p v t d (same_address d.member p) refl (EachEvent-last MayStand t (Delivered d) g.placed) was (r (grounds-before t (Delivered d) g) p v was)
  made-push t (Blocked q) r = made-quiet t (Blocked q) (λ p. refl) (λ p v. refl) (λ p. refl) r
  made-push t (Installed i) r = λ g p v here.
      made-install p v t i (same_address i.member p) refl g here (λ was. r (grounds-before t (Installed i) g) p v was)
  made-push t (Left q) r = made-quiet t (Left q) (λ p. refl) (λ p v. refl) (λ p. refl) r
  made-push t (Crashed q) r = made-quiet t (Crashed q) (λ p. refl) (λ p v. refl) (λ p. refl) r

  -- so is each state of a member with a view
  pub state-made : (t : List Event) → Grounds t → (p : Address) (v : ViewId) → current_view p t ≡ Some v → IsMade p v t
  unfolding Made
  state-made t = by_pushes Made (λ g p v here. absurd (none-some v here)) made-push t
