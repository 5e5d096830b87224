-- What a trace says of a member is said by what happened to that member alone.
use Rattle.std.proofs.Common.{◌≡◌, Bool, true, false, ◌&&◌, ◌||◌, List, [], ◌∷◌, ◌++◌, fold, filter_map, Option, None, sym, refl, ap, ◌∙◌}
use Rattle.std.specs.List.{filter, list_any}
use Rattle.std.proofs.lemmas.Bool.{cond-true, cond-false}
use Rattle.std.proofs.lemmas.List.{append-nil}
use Rattle.std.proofs.lemmas.List.Sums.{fold-append}
use Rattle.std.proofs.lemmas.List.Folds.{list_any-append}
use Rattle.std.proofs.lemmas.List.Elements.{filter-append, filter_map-append}
use Rattle.address.specs.Ids.{Address, ViewId, same_address}
use Rattle.state_transfer.specs.Meanings.{Meaning}
use Rattle.trace_props.specs.declared.event.Event.{Event}
use Rattle.trace_props.specs.declared.event.Event.TheVariants.{Delivered, Installed}
use Rattle.trace_props.specs.Observed.{member_of, is_start, is_end, has_started, has_ended, view_after, current_view, block_after, is_blocked, delivered_message, delivered_in, said, sent_in}
use Rattle.trace_props.specs.State.{state_after, state_of}
use Rattle.trace_props.proofs.ObservedGrow.{has_started-other, has_ended-other, current_view-other, is_blocked-other}
use Rattle.trace_props.proofs.DeliveredGrow.{delivered_in-other, sent_in-other}
use Rattle.trace_props.proofs.InstallsOfRisingViews.{by_pushes}
use Rattle.trace_props.proofs.RuleOfEntry.{state_of-push}

-- whether an event happens to a member
abbrev pub is_of : Address → Event → Bool
is_of p h = same_address (member_of h) p

-- what happened to a member, in order
abbrev pub happened_to : Address → List Event → List Event
happened_to p t = filter (is_of p) t

-- one more event of it, or of another
own-more : (p : Address) (t : List Event) (h : Event) → is_of p h ≡ true → happened_to p (t ++ h ∷ []) ≡ happened_to p t ++ h ∷ []
own-more p t h e = filter-append (is_of p) t (h ∷ []) ∙ ap (λ (l : List Event). happened_to p t ++ l) (cond-true (is_of p h) (h ∷ []) [] e)

own-still : (p : Address) (t : List Event) (h : Event) → is_of p h ≡ false → happened_to p (t ++ h ∷ []) ≡ happened_to p t
own-still p t h e =
    filter-append (is_of p) t (h ∷ []) ∙ ap (λ (l : List Event). happened_to p t ++ l) (cond-false (is_of p h) (h ∷ []) [] e) ∙ append-nil (happened_to p t)

-- what other members' events leave, and what goes on in one way from the same, is what it is of the member's own events
module _ {X : Type 0} (p : Address) (O : List Event → X)
    (other : (t : List Event) (h : Event) → is_of p h ≡ false → O (t ++ h ∷ []) ≡ O t)
    (goes : (s t : List Event) (h : Event) → O s ≡ O t → O (s ++ h ∷ []) ≡ O (t ++ h ∷ [])) where
  abbrev Enough : List Event → Type 0
  Enough t = O t ≡ O (happened_to p t)

  enough-push : (t : List Event) (h : Event) (b : Bool) → is_of p h ≡ b → Enough t → Enough (t ++ h ∷ [])
  enough-push t h false e so_far = other t h e ∙ so_far ∙ ap O (sym (own-still p t h e))
  enough-push t h true e so_far = goes t (happened_to p t) h so_far ∙ ap O (sym (own-more p t h e))

  own-enough : (t : List Event) → Enough t
  own-enough t = by_pushes Enough refl (λ u h so_far. enough-push u h (is_of p h) refl so_far) t

  pub same-own : (t u : List Event) → happened_to p t ≡ happened_to p u → O t ≡ O u
  same-own t u e = own-enough t ∙ ap O e ∙ sym (own-enough u)

fold-goes : {A : Type 0} (f : A → Event → A) (a : A) (s t : List Event) (h : Event) → fold f a s ≡ fold f a t → fold f a (s ++ h ∷ []) ≡ fold f a (t ++ h ∷ [])
fold-goes f a s t h e = fold-append f a s (h ∷ []) ∙ ap (λ x. f x h) e ∙ sym (fold-append f a t (h ∷ []))

any-goes : (f : Event → Bool) (s t : List Event) (h : Event) → list_any f s ≡ list_any f t → list_any f (s ++ h ∷ []) ≡ list_any f (t ++ h ∷ [])
any-goes f s t h e = list_any-append f s (h ∷ []) ∙ ap (λ b. b || list_any f (h ∷ [])) e ∙ sym (list_any-append f t (h ∷ []))

map-goes : {Y : Type 0} (f : Event → Option Y) (s t : List Event) (h : Event) → filter_map f s ≡ filter_map f t → filter_map f (s ++ h ∷ []) ≡ filter_map f (t ++ h ∷ [])
map-goes {Y} f s t h e = filter_map-append f s (h ∷ []) ∙ ap (λ (l : List Y). l ++ filter_map f (h ∷ [])) e ∙ sym (filter_map-append f t (h ∷ []))

module _ (p : Address) (t u : List Event) (same : happened_to p t ≡ happened_to p u) where
  -- whether it has started, and whether it has ended
  pub has_started-own : has_started p t ≡ has_started p u
  has_started-own = same-own p (has_started p) (has_started-other p) (any-goes (λ h. same_address (member_of h) p && is_start h)) t u same

  pub has_ended-own : has_ended p t ≡ has_ended p u
  has_ended-own = same-own p (has_ended p) (has_ended-other p) (any-goes (λ h. same_address (member_of h) p && is_end h)) t u same

  -- its view, and whether it is blocked
  pub current_view-own : current_view p t ≡ current_view p u
  current_view-own = same-own p (current_view p) (current_view-other p) (fold-goes (view_after p) None) t u same

  pub is_blocked-own : is_blocked p t ≡ is_blocked p u
  is_blocked-own = same-own p (is_blocked p) (is_blocked-other p) (fold-goes (block_after p) false) t u same

  -- what it delivered, and what it sent
  pub delivered_in-own : (v : ViewId) → delivered_in p v t ≡ delivered_in p v u
  delivered_in-own v = same-own p (delivered_in p v) (delivered_in-other p v) (map-goes (delivered_message p v)) t u same

  pub sent_in-own : (v : ViewId) → sent_in p v t ≡ sent_in p v u
  sent_in-own v = same-own p (sent_in p v) (sent_in-other p v) (map-goes (said p v)) t u same

-- THE STATE

module _ {S : Type 0} (meaning : Meaning S) (p : Address) where
  -- what happens to another leaves the state
  state-other : (s : S) (h : Event) → is_of p h ≡ false → state_after meaning p s h ≡ s
  state-other s (Delivered d) e = cond-false (same_address d.member p) (meaning.apply s d.message.sender d.message.payload) s e
  state-other s (Installed i) e = cond-false (same_address i.member p) _ s e
  state-other s h e = refl

  pub state_of-still : (t : List Event) (h : Event) → is_of p h ≡ false → state_of meaning p (t ++ h ∷ []) ≡ state_of meaning p t
  state_of-still t h e = state_of-push meaning p t h ∙ state-other (state_of meaning p t) h e

  -- from the same state it goes on to the same
  pub state_of-goes : (s t : List Event) (h : Event) → state_of meaning p s ≡ state_of meaning p t → state_of meaning p (s ++ h ∷ []) ≡ state_of meaning p (t ++ h ∷ [])
  state_of-goes = fold-goes (state_after meaning p) meaning.opening

  -- so a member's state is of its own events
  pub state_of-own : (t u : List Event) → happened_to p t ≡ happened_to p u → state_of meaning p t ≡ state_of meaning p u
  state_of-own t u same = same-own p (state_of meaning p) state_of-still state_of-goes t u same
