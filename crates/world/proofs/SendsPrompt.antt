-- The table of events, for a running member that is to send.
use Rattle.std.proofs.Common.{◌≡◌, ℕ, ◌+◌, ◌<◌, Bool, true, false, not, cond, Option, Some, None, List, [], ◌∷◌, length, nat_le, nat_lt, drop, is_some, refl, sym, ap, ◌∙◌, subst, arith, inl, inr}
use Rattle.std.specs.List.{list_all, Contains}
use Rattle.std.specs.Option.{IsSomeAnd}
use Rattle.std.proofs.lemmas.Bool.Decides.{nat_tests}
use Rattle.std.proofs.lemmas.Option.{none-some, same_Some}
use Rattle.address.specs.Ids.{Address, ViewId, same_address}
use Rattle.view.specs.Members.{View}
use Rattle.address.specs.declared.limits.TheConstants.{GREATEST_NUMBER, PAYLOAD, WINDOW, OUTSTANDING}
use Rattle.state_transfer.specs.Meanings.{Meaning}
use Rattle.trace_props.specs.declared.event.Event.{Event}
use Rattle.trace_props.specs.declared.event.Event.TheVariants.{Delivered, Crashed}
use Rattle.trace_props.specs.declared.event.Event.TheVariants as event
use Rattle.trace_props.specs.Observed.{is_blocked, current_view, sent_in, delivered_in}
use Rattle.law_acts.specs.Cores.{Core, is_frozen}
use Rattle.member.specs.Members.{MemberModel, send_refusal}
use Rattle.member.specs.Handling as member
use Rattle.world_model.specs.declared.Answer.TheVariants.{Sent, Refused}
use Rattle.address.specs.declared.refusal.Refusal.{Refusal}
use Rattle.address.specs.declared.refusal.Refusal.TheVariants.{Memory}
use Rattle.address.specs.declared.refusal.Refusal.TheVariants as refusal
use Rattle.world_model.specs.Histories.{History}
use Rattle.world_model.specs.Faithful.{AnswersSend, IsPrompt, SendsNext, outstanding}
use Rattle.world.specs.NodeStates.{answer_to}
use Rattle.law_processes.proofs.ActsAreOwn.{EachOwn}
use Rattle.world.proofs.OwnEventsQuiet.{own-quiet}
use Rattle.world.proofs.AnswersByTable.{free-of, quiet-all}
use Rattle.world.proofs.MembersAtNodes

-- what may be sent: no test refuses it
pub record MaySend {S : Type 0} (c : Core S) (payload : List ℕ) : Type 0 where
  pub inside : not (is_some c.view) ≡ false
  pub long : nat_lt PAYLOAD (length payload) ≡ false
  pub frozen : is_frozen c.view c.installed ≡ false
  pub busy : nat_le OUTSTANDING (length c.view_state.outstanding) ≡ false
  pub used : nat_le GREATEST_NUMBER c.view_state.sent ≡ false

pub may-send : {S : Type 0} (c : Core S) (payload : List ℕ) → send_refusal c payload ≡ None → MaySend c payload
may-send c payload e =
    let a = free-of (not (is_some c.view)) refusal.NotConnected _ e in
    let b = free-of (nat_lt PAYLOAD (length payload)) refusal.TooLong _ a.1 in
    let d = free-of (is_frozen c.view c.installed) refusal.Blocked _ b.1 in
    let f = free-of (nat_le OUTSTANDING (length c.view_state.outstanding)) refusal.Busy _ d.1 in
    let g = free-of (nat_le GREATEST_NUMBER c.view_state.sent) refusal.Exhausted None f.1 in
    record { inside = a.0; long = b.0; frozen = d.0; busy = f.0; used = g.0 }

unused : (k n : ℕ) → n ≡ k → nat_le GREATEST_NUMBER k ≡ false → nat_lt n GREATEST_NUMBER ≡ true
unused k n e test = subst (λ (j : ℕ). nat_lt j GREATEST_NUMBER ≡ true) (sym e) (grind (arith, nat_tests))

used-up : (k n : ℕ) → n ≡ k → nat_le GREATEST_NUMBER k ≡ true → nat_lt n GREATEST_NUMBER ≡ false
used-up k n e test = subst (λ (j : ℕ). nat_lt j GREATEST_NUMBER ≡ false) (sym e) (grind (arith, nat_tests))

module _ {S : Type 0} (meaning : Meaning S) (h : History) (n : ℕ) (m : MemberModel S) (c : Core S) (x : MembersAtNodes.Runs meaning h n m c) (payload : List ℕ) where
  me-is : c.me ≡ m.address
  me-is = x.fact.standing.itself

  block-is : (b : Bool) → is_frozen c.view c.installed ≡ b → is_blocked m.address h.trace ≡ b
  block-is b e = x.fact.standing.block ∙ e

  -- ---- in a view

  module _ (v : View) (inside : c.view ≡ Some v) where
    current : current_view m.address h.trace ≡ Some v.id
    current = MembersAtNodes.view-is meaning h n m c x (Some v) inside

    count : length (sent_in m.address v.id h.trace) ≡ c.view_state.sent
    count = MembersAtNodes.sent-count meaning h n m c x v inside

    busy-is : (b : Bool) → nat_le OUTSTANDING (length c.view_state.outstanding) ≡ b → nat_le OUTSTANDING (outstanding m.address v.id h.trace) ≡ b
    busy-is b e = ap (nat_le OUTSTANDING) (MembersAtNodes.outstanding-is meaning h n m c x v inside) ∙ e

    lost-in : MaySend c payload → AnswersSend payload m.address h (Refused Memory) (Crashed m.address ∷ [])
    lost-in may = rw (current, may.long, block-is false may.frozen, busy-is false may.busy, unused c.view_state.sent _ count may.used) (inr (refl, refl))

    abbrev sent-event : ℕ → Address → Event
    sent-event k p = event.Sent (record { member = p; view = v.id; message = record { number = k; payload = payload } })

    taken-in : (s : List Event) → MaySend c payload → EachOwn m.address s → s ≡ sent-event (c.view_state.sent + 1) c.me ∷ drop 1 s → list_all member.is_quiet (drop 1 s) ≡ true
        → AnswersSend payload m.address h (Sent (c.view_state.sent + 1)) s
    taken-in s may own first quiet =
        let next : SendsNext m.address v.id payload h.trace (Sent (c.view_state.sent + 1)) s = record {
          number = ap (λ k. Sent (k + 1)) (sym count);
          first = first ∙ ap (λ p. sent-event (c.view_state.sent + 1) p ∷ drop 1 s) me-is ∙ ap (λ k. sent-event (k + 1) m.address ∷ drop 1 s) (sym count);
          quiet = own-quiet m.address (drop 1 s) (own-rest s own) (quiet-all (drop 1 s) quiet);
        } in
        rw (current, may.long, block-is false may.frozen, busy-is false may.busy, unused c.view_state.sent _ count may.used) (inl next)
      where
        own-rest : (t : List Event) → EachOwn m.address t → EachOwn m.address (drop 1 t)
        own-rest [] o = tt
        own-rest (y ∷ t) o = o.1

    not-in : (err : Refusal) (b1 b2 b3 b4 : Bool) → nat_lt PAYLOAD (length payload) ≡ b1 → is_frozen c.view c.installed ≡ b2 → nat_le OUTSTANDING (length c.view_state.outstanding) ≡ b3
        → nat_le GREATEST_NUMBER c.view_state.sent ≡ b4
        → cond b1 (Some refusal.TooLong) (cond b2 (Some refusal.Blocked) (cond b3 (Some refusal.Busy) (cond b4 (Some refusal.Exhausted) None))) ≡ Some err
        → AnswersSend payload m.address h (Refused err) []
    not-in err true b2 b3 b4 t1 t2 t3 t4 e = rw (current, t1) (ap (λ (r : Refusal). Refused r) (sym (same_Some refusal.TooLong err e)), refl)
    not-in err false true b3 b4 t1 t2 t3 t4 e = rw (current, t1, block-is true t2) (ap (λ (r : Refusal). Refused r) (sym (same_Some refusal.Blocked err e)), refl)
    not-in err false false true b4 t1 t2 t3 t4 e = rw (current, t1, block-is false t2, busy-is true t3) (ap (λ (r : Refusal). Refused r) (sym (same_Some refusal.Busy err e)), refl)
    not-in err false false false true t1 t2 t3 t4 e =
        rw (current, t1, block-is false t2, busy-is false t3, used-up c.view_state.sent _ count t4) (ap (λ (r : Refusal). Refused r) (sym (same_Some refusal.Exhausted err e)), refl)
    not-in err false false false false t1 t2 t3 t4 e = absurd (none-some err e)

    near : (k : ℕ) → k ≡ c.view_state.delivered → k < WINDOW → c.view_state.delivered < c.view_state.stable + WINDOW
    near k e low = omega arith

    counted : (k : ℕ) → k ≡ c.view_state.delivered → k < WINDOW → c.view_state.delivered < GREATEST_NUMBER
    counted k e low = omega arith

    -- a message that is delivered where it is sent is delivered promptly, whoever is asked for as the node's member and its view
    prompt-in : (s : List Event)
        → (same_address c.me v.id.creator ≡ true → c.view_state.delivered < c.view_state.stable + WINDOW → c.view_state.delivered < GREATEST_NUMBER
        → Contains s (Delivered (record { member = c.me; view = v.id; message = record { sender = c.me; number = c.view_state.sent + 1; payload = payload } })))
        → IsPrompt n payload h.trace (Sent (c.view_state.sent + 1)) s
    prompt-in s promptly q last w view first short =
        let is : q ≡ m.address = same_Some q m.address (sym last ∙ x.last) in
        let own : q ≡ c.me = is ∙ sym me-is in
        let same : w ≡ v.id = same_Some w v.id (sym view ∙ ap (λ p. current_view p h.trace) is ∙ current) in
        let k : length (delivered_in q w h.trace) ≡ c.view_state.delivered =
        ap (λ p. length (delivered_in p w h.trace)) is ∙ ap (λ u. length (delivered_in m.address u h.trace)) same ∙ MembersAtNodes.count-delivered meaning h n m c x v inside in
        let at : same_address c.me v.id.creator ≡ true =
        ap (λ p. same_address p v.id.creator) (sym own) ∙ ap (λ (u : ViewId). same_address q u.creator) (sym same) ∙ first in
        subst (λ (p : Address). Contains s (Delivered (record { member = p; view = w; message = record { sender = p; number = c.view_state.sent + 1; payload = payload } }))) (sym own)
        (subst (λ (u : ViewId). Contains s (Delivered (record { member = c.me; view = u; message = record { sender = c.me; number = c.view_state.sent + 1; payload = payload } }))) (sym same)
        (promptly at (near (length (delivered_in q w h.trace)) k short) (counted (length (delivered_in q w h.trace)) k short)))

  -- ---- in a view or in none

  pub send-lost : send_refusal c payload ≡ None → AnswersSend payload m.address h (Refused Memory) (Crashed m.address ∷ [])
  send-lost free = by (may-send c payload free) c.view refl
    where
      by : MaySend c payload → (o : Option View) → c.view ≡ o → AnswersSend payload m.address h (Refused Memory) (Crashed m.address ∷ [])
      by may None e = absurd (let n : true ≡ false = sym (ap (λ o. not (is_some o)) e) ∙ may.inside in cc)
      by may (Some v) e = lost-in v e may

  not-at : (err : Refusal) (o : Option View) → c.view ≡ o
      → cond (not (is_some o)) (Some refusal.NotConnected) (cond (nat_lt PAYLOAD (length payload)) (Some refusal.TooLong) (cond (is_frozen c.view c.installed) (Some refusal.Blocked)
      (cond (nat_le OUTSTANDING (length c.view_state.outstanding)) (Some refusal.Busy) (cond (nat_le GREATEST_NUMBER c.view_state.sent) (Some refusal.Exhausted) None)))) ≡ Some err
      → AnswersSend payload m.address h (Refused err) []
  not-at err None e r = rw (MembersAtNodes.view-is meaning h n m c x None e) (ap (λ (r : Refusal). Refused r) (sym (same_Some refusal.NotConnected err r)), refl)
  not-at err (Some v) e r = not-in v e err _ _ _ _ refl refl refl refl r

  pub send-not : (err : Refusal) → send_refusal c payload ≡ Some err → AnswersSend payload m.address h (Refused err) []
  send-not err refused = not-at err c.view refl refused

  -- what is known where it takes a message
  pub record SendTaken (s : List Event) : Type 0 where
    pub answer : answer_to s ≡ Sent (c.view_state.sent + 1)
    pub answers : AnswersSend payload m.address h (Sent (c.view_state.sent + 1)) s
    pub prompt : IsPrompt n payload h.trace (Sent (c.view_state.sent + 1)) s

  taken-at : (s : List Event) (o : Option View) → c.view ≡ o → MaySend c payload → EachOwn m.address s
      → IsSomeAnd o (λ v. s ≡ event.Sent (record { member = c.me; view = v.id; message = record { number = c.view_state.sent + 1; payload = payload } }) ∷ drop 1 s)
      → list_all member.is_quiet (drop 1 s) ≡ true
      → IsSomeAnd o (λ v. same_address c.me v.id.creator ≡ true → c.view_state.delivered < c.view_state.stable + WINDOW → c.view_state.delivered < GREATEST_NUMBER
      → Contains s (Delivered (record { member = c.me; view = v.id; message = record { sender = c.me; number = c.view_state.sent + 1; payload = payload } })))
      → SendTaken s
  taken-at s None e may own first quiet promptly = absurd first
  taken-at s (Some v) e may own first quiet promptly = record { answer = ap answer_to first; answers = taken-in v e s may own first quiet; prompt = prompt-in v e s promptly }

  pub send-taken : (s : List Event) → send_refusal c payload ≡ None → EachOwn m.address s
      → IsSomeAnd c.view (λ v. s ≡ event.Sent (record { member = c.me; view = v.id; message = record { number = c.view_state.sent + 1; payload = payload } }) ∷ drop 1 s)
      → list_all member.is_quiet (drop 1 s) ≡ true
      → IsSomeAnd c.view (λ v. same_address c.me v.id.creator ≡ true → c.view_state.delivered < c.view_state.stable + WINDOW → c.view_state.delivered < GREATEST_NUMBER
      → Contains s (Delivered (record { member = c.me; view = v.id; message = record { sender = c.me; number = c.view_state.sent + 1; payload = payload } })))
      → SendTaken s
  send-taken s free own first quiet promptly = taken-at s c.view refl (may-send c payload free) own first quiet promptly
