-- The states that are kept, one event further.
use Rattle.std.proofs.Common.{◌≡◌, ℕ, ◌≤◌, Bool, true, false, cond, List, [], ◌∷◌, ◌++◌, length, Option, Some, None, unwrap_or, option_map, option_and_then, sym, refl, ap, ◌∙◌, subst}
use Rattle.std.specs.Option.{option_or}
use Rattle.std.proofs.lemmas.Bool.{cond-true, cond-false}
use Rattle.std.proofs.lemmas.Option.{same_Some}
use Rattle.address.specs.Ids.{Address, ViewId, IsAddress, same_address}
use Rattle.state_transfer.specs.Meanings.{Meaning}
use Rattle.address.specs.declared.limits.TheConstants.{PAYLOAD}
use Rattle.trace_props.specs.declared.event.Event.{Event}
use Rattle.trace_props.specs.declared.event.Event.TheVariants.{Delivered, Installed}
use Rattle.trace_props.specs.declared.event.Install.{Install}
use Rattle.trace_props.specs.declared.event.Delivery.{Delivery}
use Rattle.trace_props.specs.State.{state_after, state_of, installs, entry_state}
use Rattle.trace_props.specs.Agreeing.{MayEnter}
use Rattle.trace_rules.specs.Copies.{KnowsStates}
use Rattle.address.proofs.SameIds.{same_address-true}
use Rattle.trace_props.proofs.RuleOfEntry.{state_of-push, entry_state-push}
use Rattle.address.proofs.Plain.{option_or-none}

-- THE STATE OF ENTRY

-- what installs nothing makes none
entry_state-still : {S : Type 0} (meaning : Meaning S) (v : ViewId) (t : List Event) (h : Event)
    → installs v.creator v h ≡ false → entry_state meaning v (t ++ h ∷ []) ≡ entry_state meaning v t
entry_state-still meaning v t h e =
    entry_state-push meaning v t h
    ∙ ap (λ b. option_or (entry_state meaning v t) (cond b (Some (state_of meaning v.creator (t ++ h ∷ []))) None)) e
    ∙ option_or-none (entry_state meaning v t)

-- WHERE NO STATE CHANGES

-- what changes no state and enters no view leaves all as it is
knows-still : {S : Type 0} (meaning : Meaning S)
    (m : Address → Option S) (e : ViewId → Option (List ℕ)) (t : List Event) (h : Event)
    → ((p : Address) → state_after meaning p (state_of meaning p t) h ≡ state_of meaning p t) → ((v : ViewId) → installs v.creator v h ≡ false)
    → KnowsStates meaning m e t → KnowsStates meaning m e (t ++ h ∷ [])
knows-still meaning m e t h same none r = record {
  states_known = λ p. r.states_known p ∙ sym (same p) ∙ sym (state_of-push meaning p t h);
  are_states = λ p. subst meaning.is_state (sym (same p) ∙ sym (state_of-push meaning p t h)) (r.are_states p);
  entering_known = λ v. r.entering_known v ∙ ap (option_map meaning.encode) (sym (entry_state-still meaning v t h (none v)));
  are_entered = λ v s x. r.are_entered v s (sym (entry_state-still meaning v t h (none v)) ∙ x);
}

-- an event that delivers nothing and installs nothing
pub nothing-known : {S : Type 0} (meaning : Meaning S) (m : Address → Option S) (e : ViewId → Option (List ℕ)) (t : List Event) (h : Event)
    → ((d : Delivery) → h ≡ Delivered d → ⊥) → ((i : Install) → h ≡ Installed i → ⊥) → KnowsStates meaning m e t → MayEnter meaning t h × KnowsStates meaning m e (t ++ h ∷ [])
nothing-known meaning m e t (Delivered d) a b r = absurd (a d refl)
nothing-known meaning m e t (Installed i) a b r = absurd (b i refl)
nothing-known meaning m e t h a b r = (tt, knows-still meaning m e t h (λ p. refl) (λ v. refl) r)

-- A MESSAGE

-- the state of one member after an event that changes that of another, or its own
pub changed-state : {S : Type 0} (meaning : Meaning S) (m : Address → Option S) (t : List Event) (h : Event) (p q : Address) (f : S → S) (b : Bool) → same_address p q ≡ b
    → state_after meaning q (state_of meaning q t) h ≡ cond (same_address p q) (f (state_of meaning q t)) (state_of meaning q t) → ((p : Address) → unwrap_or (m p) meaning.opening ≡ state_of meaning p t)
    → cond b (f (unwrap_or (m p) meaning.opening)) (unwrap_or (m q) meaning.opening) ≡ state_of meaning q (t ++ h ∷ [])
changed-state meaning m t h p q f true same after r =
    ap f (r p ∙ ap (λ x. state_of meaning x t) (same_address-true p q same)) ∙ sym (cond-true (same_address p q) (f (state_of meaning q t)) (state_of meaning q t) same) ∙ sym after ∙ sym (state_of-push meaning q t h)
changed-state meaning m t h p q f false apart after r =
    r q ∙ sym (cond-false (same_address p q) (f (state_of meaning q t)) (state_of meaning q t) apart) ∙ sym after ∙ sym (state_of-push meaning q t h)

pub delivered-is : {S : Type 0} (meaning : Meaning S) (s x : S) (b : Bool) → meaning.is_state x → meaning.is_state s → meaning.is_state (cond b x s)
delivered-is meaning s x true a c = a
delivered-is meaning s x false a c = c

-- a message that is delivered is applied; its payload was lent
pub message-heard : {S : Type 0} (meaning : Meaning S)
    (applies : (s : S) (from : Address) (payload : List ℕ) → meaning.is_state s → IsAddress from → length payload ≤ PAYLOAD → meaning.is_state (meaning.apply s from payload))
    (m n : Address → Option S) (e : ViewId → Option (List ℕ)) (t : List Event) (d : Delivery) (payload : List ℕ) → IsAddress d.message.sender → length d.message.payload ≤ PAYLOAD → payload ≡ d.message.payload
    → ((q : Address) → unwrap_or (n q) meaning.opening ≡ cond (same_address d.member q) (meaning.apply (unwrap_or (m d.member) meaning.opening) d.message.sender payload) (unwrap_or (m q) meaning.opening))
    → KnowsStates meaning m e t → KnowsStates meaning n e (t ++ Delivered d ∷ [])
message-heard meaning applies m n e t d payload from short lent updates r = record {
  states_known = λ q.
      updates q ∙ ap (λ x. cond (same_address d.member q) (meaning.apply (unwrap_or (m d.member) meaning.opening) d.message.sender x) (unwrap_or (m q) meaning.opening)) lent
      ∙ changed-state meaning m t (Delivered d) d.member q (λ s. meaning.apply s d.message.sender d.message.payload) (same_address d.member q) refl refl r.states_known;
  are_states = λ q. subst meaning.is_state (sym (state_of-push meaning q t (Delivered d)))
      (delivered-is meaning (state_of meaning q t) (meaning.apply (state_of meaning q t) d.message.sender d.message.payload) (same_address d.member q)
      (applies (state_of meaning q t) d.message.sender d.message.payload (r.are_states q) from short) (r.are_states q));
  entering_known = λ v. r.entering_known v ∙ ap (option_map meaning.encode) (sym (entry_state-still meaning v t (Delivered d) refl));
  are_entered = λ v s x. r.are_entered v s (sym (entry_state-still meaning v t (Delivered d) refl) ∙ x);
}

-- AN INSTALL

given-is : {S : Type 0} (meaning : Meaning S) (decodes : (bytes : List ℕ) (s : S) → meaning.decode bytes ≡ Some s → meaning.is_state s) (given : List ℕ) (o : Option S) (s : S) → meaning.decode given ≡ o → meaning.is_state s → meaning.is_state (unwrap_or o s)
given-is meaning decodes given None s e a = a
given-is meaning decodes given (Some x) s e a = decodes given x e

pub taken-is : {S : Type 0} (meaning : Meaning S) (decodes : (bytes : List ℕ) (s : S) → meaning.decode bytes ≡ Some s → meaning.is_state s) (given : Option (List ℕ)) (s : S) → meaning.is_state s → meaning.is_state (unwrap_or (option_and_then meaning.decode given) s)
taken-is meaning decodes None s a = a
taken-is meaning decodes (Some g) s a = given-is meaning decodes g (meaning.decode g) s refl a

-- equal bytes are of equal states
pub same-bytes : {S : Type 0} (meaning : Meaning S) (reads_back : (s : S) → meaning.is_state s → meaning.decode (meaning.encode s) ≡ Some s) (s x : S) → meaning.is_state s → meaning.is_state x → meaning.encode s ≡ meaning.encode x → s ≡ x
same-bytes meaning reads_back s x a b e = same_Some s x (sym (reads_back s a) ∙ ap meaning.decode e ∙ reads_back x b)
