-- The state of entry of a view: what is of its coordinator's own events, and known exactly where that one has installed the view.
use Rattle.std.proofs.Common.{◌≡◌, ℕ, Bool, true, false, cond, List, [], ◌∷◌, ◌++◌, length, Option, Some, None, slice_get, sym, refl, ap, ◌∙◌, ⊎_elim}
use Rattle.std.specs.Option.{option_or}
use Rattle.std.proofs.lemmas.Bool.{cond-false, and_left, true≢false}
use Rattle.std.proofs.lemmas.List.{append-nil, append_assoc}
use Rattle.std.proofs.lemmas.Option.{none-some}
use Rattle.address.specs.Ids.{Address, ViewId, same_address, same_view_id}
use Rattle.state_transfer.specs.Meanings.{Meaning}
use Rattle.trace_props.specs.declared.event.Event.{Event}
use Rattle.trace_props.specs.declared.event.Event.TheVariants.{Installed}
use Rattle.trace_props.specs.State.{state_of, installs, entry_state}
use Rattle.trace_props.proofs.RulesAlongLists.{slice_get-push, slice_get-before, slice_get-last}
use Rattle.trace_props.proofs.InstallsOfRisingViews.{by_pushes}
use Rattle.trace_props.proofs.RuleOfEntry.{entry_state-push}
use Rattle.address.proofs.Plain.{option_or-none}
use Rattle.trace_merge.proofs.ElementsStand.{Found}
use Rattle.trace_merge.proofs.MembersOwnTraces.{is_of, happened_to, same-own, state_of-goes, state_of-still}

-- another's event is no install of this member's
installs-other : (p : Address) (v : ViewId) (h : Event) → is_of p h ≡ false → installs p v h ≡ false
installs-other p v (Installed i) e = and_left (same_address i.member p) (same_view_id i.view.id v) e
installs-other p v h e = refl

module _ {S : Type 0} (meaning : Meaning S) (v : ViewId) where
  -- what the newest event adds
  abbrev added : List Event → Event → Option S
  added t h = cond (installs v.creator v h) (Some (state_of meaning v.creator (t ++ h ∷ []))) None

  -- the state of entry and the coordinator's state, together
  abbrev Known : List Event → Option S × S
  Known t = (entry_state meaning v t, state_of meaning v.creator t)

  known : (t u : List Event) → entry_state meaning v t ≡ entry_state meaning v u → state_of meaning v.creator t ≡ state_of meaning v.creator u → Known t ≡ Known u
  known t u entry state = ap (λ (o : Option S). (o, state_of meaning v.creator t)) entry ∙ ap (λ (s : S). (entry_state meaning v u, s)) state

  known-other : (t : List Event) (h : Event) → is_of v.creator h ≡ false → Known (t ++ h ∷ []) ≡ Known t
  known-other t h e =
      known (t ++ h ∷ []) t
      (entry_state-push meaning v t h
      ∙ ap (option_or (entry_state meaning v t)) (cond-false (installs v.creator v h) (Some (state_of meaning v.creator (t ++ h ∷ []))) None (installs-other v.creator v h e))
      ∙ option_or-none (entry_state meaning v t))
      (state_of-still meaning v.creator t h e)

  known-goes : (s t : List Event) (h : Event) → Known s ≡ Known t → Known (s ++ h ∷ []) ≡ Known (t ++ h ∷ [])
  known-goes s t h e =
      let states : state_of meaning v.creator (s ++ h ∷ []) ≡ state_of meaning v.creator (t ++ h ∷ []) = state_of-goes meaning v.creator s t h (ap (λ (x : Option S × S). x.1) e) in
      known (s ++ h ∷ []) (t ++ h ∷ [])
      (entry_state-push meaning v s h
      ∙ ap (λ (o : Option S). option_or o (added s h)) (ap (λ (x : Option S × S). x.0) e)
      ∙ ap (λ (x : S). option_or (entry_state meaning v t) (cond (installs v.creator v h) (Some x) None)) states
      ∙ sym (entry_state-push meaning v t h))
      states

  -- the state of entry is of the coordinator's own events
  pub entry_state-own : (t u : List Event) → happened_to v.creator t ≡ happened_to v.creator u → entry_state meaning v t ≡ entry_state meaning v u
  entry_state-own t u same = ap (λ (x : Option S × S). x.0) (same-own v.creator Known known-other known-goes t u same)

  -- KNOWN EXACTLY WHERE THE COORDINATOR HAS INSTALLED THE VIEW

  abbrev HasInstalled : List Event → Type 0
  HasInstalled t = Found t (λ h. installs v.creator v h ≡ true)

  later : (t : List Event) (h : Event) → HasInstalled t → HasInstalled (t ++ h ∷ [])
  later t h found = record { it = found.it; there = (found.there.0, slice_get-before t (h ∷ []) found.there.0 found.it found.there.1); is = found.is }

  installed-push : (t : List Event) (h : Event) (s : S) (o : Option S) (b : Bool) → entry_state meaning v t ≡ o → installs v.creator v h ≡ b
      → option_or o (cond b (Some (state_of meaning v.creator (t ++ h ∷ []))) None) ≡ Some s → ((x : S) → entry_state meaning v t ≡ Some x → HasInstalled t) → HasInstalled (t ++ h ∷ [])
  installed-push t h s (Some x) b before is e r = later t h (r x before)
  installed-push t h s None true before is e r = record { it = h; there = (length t, slice_get-last t h); is = is }
  installed-push t h s None false before is e r = absurd (none-some s e)

  pub installed-found : (t : List Event) (s : S) → entry_state meaning v t ≡ Some s → HasInstalled t
  installed-found t =
      by_pushes (λ t. (s : S) → entry_state meaning v t ≡ Some s → HasInstalled t) (λ s e. absurd (none-some s e))
      (λ t h r s e. installed-push t h s (entry_state meaning v t) (installs v.creator v h) refl refl (sym (entry_state-push meaning v t h) ∙ e) r)
      t

  unknown-before : (o c : Option S) → option_or o c ≡ None → o ≡ None
  unknown-before None c e = refl
  unknown-before (Some s) c e = e

  unknown-new : (o : Option S) (b : Bool) (x : S) → option_or o (cond b (Some x) None) ≡ None → b ≡ true → ⊥
  unknown-new None true x e is = none-some x (sym e)
  unknown-new None false x e is = true≢false (sym is)
  unknown-new (Some s) b x e is = none-some s (sym e)

  abbrev IsKnown : List Event → Type 0
  IsKnown t = (k : ℕ) (h : Event) → slice_get t k ≡ Some h → installs v.creator v h ≡ true → entry_state meaning v t ≡ None → ⊥

  known-push : (t : List Event) (h : Event) → IsKnown t → IsKnown (t ++ h ∷ [])
  known-push t h r k x s is unknown =
      let none = sym (entry_state-push meaning v t h) ∙ unknown in
      ⊎_elim
      (λ (a : slice_get t k ≡ Some x). r k x a is (unknown-before (entry_state meaning v t) (added t h) none))
      (λ (b : (k ≡ length t) × (h ≡ x)). unknown-new (entry_state meaning v t) (installs v.creator v h) (state_of meaning v.creator (t ++ h ∷ [])) none (ap (installs v.creator v) b.1 ∙ is))
      (slice_get-push t h k x s)

  pub installed-known : (t : List Event) → IsKnown t
  installed-known t = by_pushes IsKnown (λ k h s. absurd (none-some h s)) known-push t

  -- what is known stays
  known-stays : (t : List Event) (h : Event) (s : S) → entry_state meaning v t ≡ Some s → entry_state meaning v (t ++ h ∷ []) ≡ Some s
  known-stays t h s e = entry_state-push meaning v t h ∙ ap (λ (o : Option S). option_or o (added t h)) e

  pub entry_state-later : (whole t : List Event) (s : S) (rest : List Event) → t ++ rest ≡ whole → entry_state meaning v t ≡ Some s → entry_state meaning v whole ≡ Some s
  entry_state-later whole t s rest is e =
      ap (entry_state meaning v) (sym is)
      ∙ by_pushes (λ l. entry_state meaning v (t ++ l) ≡ Some s) (ap (entry_state meaning v) (append-nil t) ∙ e)
      (λ l h so_far. ap (entry_state meaning v) (sym (append_assoc t l (h ∷ []))) ∙ known-stays (t ++ l) h s so_far)
      rest
