-- The states that are kept after an install, and whether it enters its view with the right one.
use Rattle.std.proofs.Common.{◌≡◌, ℕ, Bool, true, false, ◌&&◌, cond, List, [], ◌∷◌, ◌++◌, Option, Some, None, IsSome, unwrap_or, option_map, option_and_then, MatchOption, MatchBool, sym, refl, ap, ◌∙◌, subst}
use Rattle.std.specs.Option.{ForSome, option_or}
use Rattle.std.specs.Str.{bytes_eq}
use Rattle.std.proofs.lemmas.Bool.{and_right, and_parts, true≢false}
use Rattle.std.proofs.lemmas.Option.{none-some, same_Some}
use Rattle.std.proofs.lemmas.Slice.Eq.{bytes_eq-Decides}
use Rattle.address.specs.Ids.{Address, ViewId, same_address, same_view_id}
use Rattle.state_transfer.specs.Meanings.{Meaning}
use Rattle.trace_props.specs.declared.event.Event.{Event}
use Rattle.trace_props.specs.declared.event.Event.TheVariants.{Installed}
use Rattle.trace_props.specs.declared.event.Install.{Install}
use Rattle.trace_props.specs.State.{state_of, installs, entry_state}
use Rattle.trace_props.specs.Agreeing.{MayEnter}
use Rattle.trace_rules.specs.Copies.{KnowsStates, EntersWith}
use Rattle.address.proofs.SameIds.{same_address-true, same_view_id-true}
use Rattle.trace_props.proofs.RuleOfEntry.{state_of-push, entry_state-push}
use Rattle.address.proofs.Plain.{option_or-none}
use Rattle.trace_rules.proofs.KeepStates.{changed-state, taken-is, delivered-is, same-bytes}

module _ {S : Type 0} (meaning : Meaning S)
    (decodes : (bytes : List ℕ) (s : S) → meaning.decode bytes ≡ Some s → meaning.is_state s) (reads_back : (s : S) → meaning.is_state s → meaning.decode (meaning.encode s) ≡ Some s) where
  -- the state of a member after the install
  abbrev next_state : Address → List Event → Install → S
  next_state p t i = state_of meaning p (t ++ Installed i ∷ [])

  -- the states that are kept are those of the members, each one that a receiver can be in
  record HasStates (n : Address → Option S) (t : List Event) (i : Install) : Type 0 where
    known : (q : Address) → unwrap_or (n q) meaning.opening ≡ next_state q t i
    are : (q : Address) → meaning.is_state (next_state q t i)

  has-states : (m n : Address → Option S) (e : ViewId → Option (List ℕ)) (t : List Event) (i : Install)
      → ((q : Address) → unwrap_or (n q) meaning.opening ≡ cond (same_address i.member q) (unwrap_or (option_and_then meaning.decode i.given) (unwrap_or (m i.member) meaning.opening)) (unwrap_or (m q) meaning.opening))
      → KnowsStates meaning m e t → HasStates n t i
  has-states m n e t i updates r = record {
    known = λ q. updates q ∙ changed-state meaning m t (Installed i) i.member q (λ s. unwrap_or (option_and_then meaning.decode i.given) s) (same_address i.member q) refl refl r.states_known;
    are = λ q. subst meaning.is_state (sym (state_of-push meaning q t (Installed i)))
        (delivered-is meaning (state_of meaning q t) (unwrap_or (option_and_then meaning.decode i.given) (state_of meaning q t)) (same_address i.member q)
        (taken-is meaning decodes i.given (state_of meaning q t) (r.are_states q)) (r.are_states q));
  }

  or-is : (o : Option S) (b : Bool) (x : S) → ((s : S) → o ≡ Some s → meaning.is_state s) → meaning.is_state x → (s : S) → option_or o (cond b (Some x) None) ≡ Some s → meaning.is_state s
  or-is None true x f a s e = subst meaning.is_state (same_Some x s e) a
  or-is None false x f a s e = absurd (none-some s e)
  or-is (Some y) b x f a s e = f s e

  -- all is known once the states of entry are
  all-known : (m n : Address → Option S) (e f : ViewId → Option (List ℕ)) (t : List Event) (i : Install) → KnowsStates meaning m e t → HasStates n t i
      → ((w : ViewId) → f w ≡ option_map meaning.encode (option_or (entry_state meaning w t) (cond (installs w.creator w (Installed i)) (Some (next_state w.creator t i)) None)))
      → KnowsStates meaning n f (t ++ Installed i ∷ [])
  all-known m n e f t i r states entering = record {
    states_known = states.known;
    are_states = states.are;
    entering_known = λ w. entering w ∙ ap (option_map meaning.encode) (sym (entry_state-push meaning w t (Installed i)));
    are_entered = λ w s x. or-is (entry_state meaning w t) (installs w.creator w (Installed i)) (next_state w.creator t i) (r.are_entered w) (states.are w.creator) s
        (sym (entry_state-push meaning w t (Installed i)) ∙ x);
  }

  -- WHERE THE VIEW WAS ENTERED BEFORE

  kept-entry : (t : List Event) (i : Install) (s : S) (w : ViewId) (b : Bool) → (b ≡ true → i.view.id ≡ w) → entry_state meaning i.view.id t ≡ Some s
      → entry_state meaning w t ≡ option_or (entry_state meaning w t) (cond b (Some (next_state w.creator t i)) None)
  kept-entry t i s w true same e =
      let there : entry_state meaning w t ≡ Some s = ap (λ v. entry_state meaning v t) (sym (same refl)) ∙ e in
      there ∙ ap (λ o. option_or o (Some (next_state w.creator t i))) (sym there)
  kept-entry t i s w false same e = sym (option_or-none (entry_state meaning w t))

  entered-before : (m n : Address → Option S) (e f : ViewId → Option (List ℕ)) (t : List Event) (i : Install) (s : S) (bytes : List ℕ) (ok : Bool)
      → KnowsStates meaning m e t → HasStates n t i → ForSome i.given (λ g. IsSome (meaning.decode g)) → bytes ≡ meaning.encode (next_state i.member t i)
      → entry_state meaning i.view.id t ≡ Some s → ok ≡ bytes_eq (meaning.encode s) bytes → ((w : ViewId) → f w ≡ e w)
      → MatchBool ok (MayEnter meaning t (Installed i) × KnowsStates meaning n f (t ++ Installed i ∷ [])) (MayEnter meaning t (Installed i) → ⊥)
  entered-before m n e f t i s bytes true r states given is there test same = (
    (
      given,
      subst (λ (o : Option S). MatchOption o (same_address i.member i.view.id.creator ≡ true) (λ x. x ≡ next_state i.member t i)) (sym there)
          (same-bytes meaning reads_back s (next_state i.member t i) (r.are_entered i.view.id s there) (states.are i.member) ((bytes_eq-Decides (meaning.encode s) bytes).0 (sym test) ∙ is)),
    ),
    all-known m n e f t i r states
        (λ w. same w ∙ r.entering_known w
        ∙ ap (option_map meaning.encode) (kept-entry t i s w (installs w.creator w (Installed i)) (λ x. same_view_id-true i.view.id w (and_parts (same_address i.member w.creator) (same_view_id i.view.id w) x).1) there)),
  )
  entered-before m n e f t i s bytes false r states given is there test same = λ may.
      let equal : s ≡ next_state i.member t i = subst (λ (o : Option S). MatchOption o (same_address i.member i.view.id.creator ≡ true) (λ x. x ≡ next_state i.member t i)) there may.1 in
      true≢false (sym ((bytes_eq-Decides (meaning.encode s) bytes).1 (ap meaning.encode equal ∙ sym is)) ∙ sym test)

  -- WHERE IT WAS NOT

  new-entry : (m : Address → Option S) (e : ViewId → Option (List ℕ)) (t : List Event) (i : Install) (bytes : List ℕ) (w : ViewId) (b : Bool) → same_view_id i.view.id w ≡ b
      → KnowsStates meaning m e t → bytes ≡ meaning.encode (next_state i.member t i) → entry_state meaning i.view.id t ≡ None → same_address i.member i.view.id.creator ≡ true
      → cond b (Some bytes) (e w) ≡ option_map meaning.encode (option_or (entry_state meaning w t) (cond (same_address i.member w.creator && b) (Some (next_state w.creator t i)) None))
  new-entry m e t i bytes w true same r is none first =
      let view : i.view.id ≡ w = same_view_id-true i.view.id w same in
      let member : i.member ≡ w.creator = same_address-true i.member i.view.id.creator first ∙ ap (λ v. v.creator) view in
      ap Some (is ∙ ap (λ p. meaning.encode (next_state p t i)) member)
      ∙ ap (λ b. option_map meaning.encode (option_or None (cond (b && true) (Some (next_state w.creator t i)) None))) (sym (ap (λ v. same_address i.member v.creator) (sym view) ∙ first))
      ∙ ap (λ o. option_map meaning.encode (option_or o (cond (same_address i.member w.creator && true) (Some (next_state w.creator t i)) None))) (sym (ap (λ v. entry_state meaning v t) (sym view) ∙ none))
  new-entry m e t i bytes w false apart r is none first =
      r.entering_known w
      ∙ ap (option_map meaning.encode) (sym (option_or-none (entry_state meaning w t)))
      ∙ ap (λ b. option_map meaning.encode (option_or (entry_state meaning w t) (cond b (Some (next_state w.creator t i)) None))) (sym (and_right (same_address i.member w.creator) false refl))

  entered-first : (m n : Address → Option S) (e f : ViewId → Option (List ℕ)) (t : List Event) (i : Install) (bytes : List ℕ) (first : Bool)
      → KnowsStates meaning m e t → HasStates n t i → ForSome i.given (λ g. IsSome (meaning.decode g)) → bytes ≡ meaning.encode (next_state i.member t i)
      → entry_state meaning i.view.id t ≡ None → first ≡ same_address i.member i.view.id.creator → ((w : ViewId) → f w ≡ cond (first && same_view_id i.view.id w) (Some bytes) (e w))
      → MatchBool first (MayEnter meaning t (Installed i) × KnowsStates meaning n f (t ++ Installed i ∷ [])) (MayEnter meaning t (Installed i) → ⊥)
  entered-first m n e f t i bytes true r states given is none test updates = (
    (given, subst (λ (o : Option S). MatchOption o (same_address i.member i.view.id.creator ≡ true) (λ x. x ≡ next_state i.member t i)) (sym none) (sym test)),
    all-known m n e f t i r states (λ w. updates w ∙ new-entry m e t i bytes w (same_view_id i.view.id w) refl r is none (sym test)),
  )
  entered-first m n e f t i bytes false r states given is none test updates = λ may.
      true≢false (sym (subst (λ (o : Option S). MatchOption o (same_address i.member i.view.id.creator ≡ true) (λ x. x ≡ next_state i.member t i)) none may.1) ∙ sym test)

  entered-by : (m n : Address → Option S) (e f : ViewId → Option (List ℕ)) (t : List Event) (i : Install) (bytes : List ℕ) (first ok : Bool) (o : Option S) → entry_state meaning i.view.id t ≡ o
      → KnowsStates meaning m e t → HasStates n t i → ForSome i.given (λ g. IsSome (meaning.decode g)) → bytes ≡ meaning.encode (next_state i.member t i)
      → first ≡ same_address i.member i.view.id.creator
      → MatchOption (option_map meaning.encode o) ((ok ≡ first) × ((w : ViewId) → f w ≡ cond (first && same_view_id i.view.id w) (Some bytes) (e w))) (λ x. (ok ≡ bytes_eq x bytes) × ((w : ViewId) → f w ≡ e w))
      → MatchBool ok (MayEnter meaning t (Installed i) × KnowsStates meaning n f (t ++ Installed i ∷ [])) (MayEnter meaning t (Installed i) → ⊥)
  entered-by m n e f t i bytes first ok None there r states given is test enters =
      subst (λ (b : Bool). MatchBool b (MayEnter meaning t (Installed i) × KnowsStates meaning n f (t ++ Installed i ∷ [])) (MayEnter meaning t (Installed i) → ⊥)) (sym enters.0)
      (entered-first m n e f t i bytes first r states given is there test enters.1)
  entered-by m n e f t i bytes first ok (Some s) there r states given is test enters = entered-before m n e f t i s bytes ok r states given is there enters.0 enters.1

  -- an install enters its view alike exactly if its bytes are those of the entry, or are the first
  pub install-known : (m n : Address → Option S) (e f : ViewId → Option (List ℕ)) (t : List Event) (i : Install) (bytes : List ℕ) (first ok : Bool)
      → ((q : Address) → unwrap_or (n q) meaning.opening ≡ cond (same_address i.member q) (unwrap_or (option_and_then meaning.decode i.given) (unwrap_or (m i.member) meaning.opening)) (unwrap_or (m q) meaning.opening))
      → ForSome i.given (λ g. IsSome (meaning.decode g)) → bytes ≡ meaning.encode (unwrap_or (n i.member) meaning.opening) → first ≡ same_address i.member i.view.id.creator
      → EntersWith e f i.view.id first bytes ok → KnowsStates meaning m e t
      → MatchBool ok (MayEnter meaning t (Installed i) × KnowsStates meaning n f (t ++ Installed i ∷ [])) (MayEnter meaning t (Installed i) → ⊥)
  install-known m n e f t i bytes first ok updates given is test enters r =
      let states = has-states m n e t i updates r in
      entered-by m n e f t i bytes first ok (entry_state meaning i.view.id t) refl r states given (is ∙ ap meaning.encode (states.known i.member)) test
      (subst (λ (o : Option (List ℕ)). MatchOption o ((ok ≡ first) × ((w : ViewId) → f w ≡ cond (first && same_view_id i.view.id w) (Some bytes) (e w))) (λ x. (ok ≡ bytes_eq x bytes) × ((w : ViewId) → f w ≡ e w))) (r.entering_known i.view.id) enters)
