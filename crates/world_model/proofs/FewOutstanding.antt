-- At most eight messages of a member are outstanding in a view, whatever happened.
use Rattle.std.proofs.Common.{◌≡◌, ℕ, ◌+◌, ◌-◌, ◌^◌, ◌<◌, ◌≤◌, Bool, true, false, cond, ◌&&◌, Option, Some, None, List, [], ◌∷◌, ◌++◌, length, drop, inl, inr, ◌⊎◌, refl, sym, ap, ◌∙◌, subst, arith}
use Rattle.std.specs.Prelude.{MatchBool, MatchOption, nat_le, nat_lt}
use Rattle.std.proofs.lemmas.Bool.{and_parts}
use Rattle.std.proofs.lemmas.Bool.Decides.{nat_tests}
use Rattle.std.proofs.lemmas.List.{length-append}
use Rattle.std.proofs.lemmas.List.Elements.{filter_map-append}
use Rattle.std.specs.List.{cons_option}
use Rattle.address.specs.Ids.{Address, ViewId, same_address, same_view_id}
use Rattle.address.specs.declared.limits.TheConstants.{OUTSTANDING, PAYLOAD, GREATEST_NUMBER}
use Rattle.address.specs.declared.refusal.Refusal.{Refusal}
use Rattle.address.specs.declared.refusal.Refusal.TheVariants as refusal
use Rattle.trace_props.specs.declared.event.Numbered.{Numbered}
use Rattle.address.proofs.SameIds.{same_address-true, same_view_id-true}
use Rattle.trace_props.specs.declared.event.Event.{Event}
use Rattle.trace_props.specs.declared.event.Event.TheVariants.{Started, Sent, Delivered, Blocked, Installed, Left, Crashed}
use Rattle.trace_props.specs.Observed.{sent_in, delivered_in, own, own_by, said, delivered_message, current_view, is_blocked, has_ended}
use Rattle.world_model.specs.declared.Answer.{Answer}
use Rattle.world_model.specs.declared.Answer.TheVariants as answer
use Rattle.world_model.specs.declared.WorldEvent.{WorldEvent}
use Rattle.world_model.specs.declared.WorldEvent.TheVariants as event
use Rattle.world_model.specs.Histories.{History, last_of, is_connected}
use Rattle.world_model.specs.Faithful.{Refuses, Fails, runs_at, next_member, AtMember, AnswersStart, AnswersCreate, AnswersJoin, AnswersDeliver, AnswersLeave, AnswersCrash, AnswersQuietly, AnswersSend, lone_install, SendsNext, outstanding, are_quiet, Answers, IsFaithful}
use Rattle.world_model.specs.Packets.{recipient}
use Rattle.world_model.specs.Faithful.IsFaithful.{Nothing, Next}

abbrev pub Bound : Address → ViewId → List Event → Type 0
Bound p v t = length (sent_in p v t) ≤ length (own p (delivered_in p v t)) + OUTSTANDING

-- a stretch keeps it
abbrev Step : List Event → List Event → Type 0
Step t s = (p : Address) (v : ViewId) → Bound p v t → Bound p v (t ++ s)

adds : (p : Address) (v : ViewId) (t s : List Event) → length (sent_in p v t) + length (sent_in p v s) ≤ length (own p (delivered_in p v t)) + OUTSTANDING → Bound p v (t ++ s)
adds p v t s few =
    let a : length (sent_in p v (t ++ s)) ≡ length (sent_in p v t) + length (sent_in p v s) = ap length (filter_map-append (said p v) t s) ∙ length-append (sent_in p v t) (sent_in p v s) in
    let b : own p (delivered_in p v (t ++ s)) ≡ own p (delivered_in p v t) ++ own p (delivered_in p v s) =
    ap (own p) (filter_map-append (delivered_message p v) t s) ∙ filter_map-append (own_by p) (delivered_in p v t) (delivered_in p v s) in
    let d : length (own p (delivered_in p v (t ++ s))) ≡ length (own p (delivered_in p v t)) + length (own p (delivered_in p v s)) = ap length b ∙ length-append (own p (delivered_in p v t)) (own p (delivered_in p v s)) in
    omega (arith, few, a, d)

-- nothing was sent in it
none-sent : (t s : List Event) → ((p : Address) (v : ViewId) → sent_in p v s ≡ []) → Step t s
none-sent t s none p v few = let n : length (sent_in p v s) ≡ 0 = ap length (none p v) in adds p v t s (omega (arith, few, n))

quiet-sent : (p : Address) (v : ViewId) (q : Address) (s : List Event) → are_quiet q s ≡ true → sent_in p v s ≡ []
quiet-sent p v q [] e = refl
quiet-sent p v q (Started x ∷ s) e = quiet-sent p v q s (and_parts _ _ e).1
quiet-sent p v q (Sent x ∷ s) e = absurd (let bad : false ≡ true = (and_parts _ _ (and_parts _ _ e).0).1 in cc)
quiet-sent p v q (Delivered x ∷ s) e = quiet-sent p v q s (and_parts _ _ e).1
quiet-sent p v q (Blocked x ∷ s) e = quiet-sent p v q s (and_parts _ _ e).1
quiet-sent p v q (Installed x ∷ s) e = quiet-sent p v q s (and_parts _ _ e).1
quiet-sent p v q (Left x ∷ s) e = quiet-sent p v q s (and_parts _ _ e).1
quiet-sent p v q (Crashed x ∷ s) e = quiet-sent p v q s (and_parts _ _ e).1

sent-first : (p q : Address) (v w : ViewId) (m : Numbered) (rest : List Event) → sent_in p v rest ≡ []
    → length (sent_in p v (Sent (record { member = q; view = w; message = m }) ∷ rest)) ≤ cond (same_address q p && same_view_id w v) 1 0
sent-first p q v w m rest none = rw none (by (same_address q p && same_view_id w v))
  where
    by : (b : Bool) → length (cons_option (cond b (Some m) None) []) ≤ cond b 1 0
    by true = omega arith
    by false = omega arith

module _ (t : List Event) (a : Answer) (s : List Event) where
  refuses : (r : Refusal) → Refuses r a s → Step t s
  refuses r x = none-sent t s (λ p v. ap (sent_in p v) x.1)

  fails : (q : Address) → Fails q a s → Step t s
  fails q x = none-sent t s (λ p v. ap (sent_in p v) x.1)

  quietly : (q : Address) → AnswersQuietly q a s → Step t s
  quietly q (inl x) = none-sent t s (λ p v. quiet-sent p v q s x.1)
  quietly q (inr x) = fails q x

  either : (b : Bool) (r : Refusal) (P : Type 0) → (b ≡ false → P → Step t s) → MatchBool b (Refuses r a s) P → Step t s
  either true r P f x = refuses r x
  either false r P f x = f refl x

  sends : (q : Address) (w : ViewId) (payload : List ℕ) → nat_le OUTSTANDING (outstanding q w t) ≡ false → SendsNext q w payload t a s → Step t s
  sends q w payload room x p v few = by (same_address q p) (same_view_id w v) refl refl
    where
      -- what is sent in it: the message, if it is p's in v
      sent-is : length (sent_in p v s) ≤ cond (same_address q p && same_view_id w v) 1 0
      sent-is =
          let quiet : sent_in p v (drop 1 s) ≡ [] = quiet-sent p v q (drop 1 s) x.quiet in
          let m : Numbered = record { number = length (sent_in q w t) + 1; payload = payload } in
          let whole : length (sent_in p v s) ≡ length (sent_in p v (Sent (record { member = q; view = w; message = m }) ∷ drop 1 s)) = ap (λ (z : List Event). length (sent_in p v z)) x.first in
          let few : length (sent_in p v (Sent (record { member = q; view = w; message = m }) ∷ drop 1 s)) ≤ cond (same_address q p && same_view_id w v) 1 0 = sent-first p q v w m (drop 1 s) quiet in
          subst (λ (n : ℕ). n ≤ cond (same_address q p && same_view_id w v) 1 0) (sym whole) few

      by : (b d : Bool) → same_address q p ≡ b → same_view_id w v ≡ d → Bound p v (t ++ s)
      by true true e f =
          let one = (let z : length (sent_in p v s) ≤ 1 = rw (e, f) at sent-is in z) in
          let low : outstanding q w t < OUTSTANDING = grind (arith, nat_tests) in
          let here : length (sent_in p v t) - length (own p (delivered_in p v t)) < OUTSTANDING =
          subst (λ (z : Address). length (sent_in z v t) - length (own z (delivered_in z v t)) < OUTSTANDING) (same_address-true q p e)
          (subst (λ (z : ViewId). length (sent_in q z t) - length (own q (delivered_in q z t)) < OUTSTANDING) (same_view_id-true w v f) low) in
          adds p v t s (omega (arith, one, here))
      by true false e f = let none = (let z : length (sent_in p v s) ≤ 0 = rw (e, f) at sent-is in z) in adds p v t s (omega (arith, none, few))
      by false d e f = let none = (let z : length (sent_in p v s) ≤ 0 = rw e at sent-is in z) in adds p v t s (omega (arith, none, few))

at-member : (n : ℕ) (h : History) (a : Answer) (s : List Event) (At : Address → Type 0) → ((p : Address) → At p → Step h.trace s) → AtMember n h a s At → Step h.trace s
at-member n h a s At f x = by (last_of n h.trace) x
  where
    by : (o : Option Address) → MatchOption o (Refuses refusal.NotConnected a s) (λ p. MatchBool (has_ended p h.trace) (Refuses refusal.Closed a s) (At p)) → Step h.trace s
    by None y = refuses h.trace a s refusal.NotConnected y
    by (Some p) y = either h.trace a s (has_ended p h.trace) refusal.Closed (At p) (λ e z. f p z) y

starts-so : (h : History) (n : ℕ) (a : Answer) (s : List Event) → AnswersStart n h a s → Step h.trace s
starts-so h n a s x = either h.trace a s (runs_at n h.trace) refusal.AlreadyConnected _ (λ e y. fits y) x
  where
    fits : MatchBool (nat_lt (next_member n h.trace).incarnation (2 ^ 32)) (((a ≡ answer.Done) × (s ≡ Started (next_member n h.trace) ∷ []))
        ⊎ ((a ≡ answer.Refused refusal.Memory) × (s ≡ Started (next_member n h.trace) ∷ Crashed (next_member n h.trace) ∷ []))) (Refuses refusal.Exhausted a s) → Step h.trace s
    fits y = by (nat_lt (next_member n h.trace).incarnation (2 ^ 32)) y
      where
        by : (b : Bool) → MatchBool b (((a ≡ answer.Done) × (s ≡ Started (next_member n h.trace) ∷ []))
            ⊎ ((a ≡ answer.Refused refusal.Memory) × (s ≡ Started (next_member n h.trace) ∷ Crashed (next_member n h.trace) ∷ []))) (Refuses refusal.Exhausted a s) → Step h.trace s
        by true (inl y) = none-sent h.trace s (λ p v. ap (sent_in p v) y.1)
        by true (inr y) = none-sent h.trace s (λ p v. ap (sent_in p v) y.1)
        by false y = refuses h.trace a s refusal.Exhausted y

creates-so : (h : History) (a : Answer) (s : List Event) (p : Address) → AnswersCreate p h a s → Step h.trace s
creates-so h a s p x = either h.trace a s (is_connected p.node h) refusal.AlreadyConnected _ (λ e y. by y) x
  where
    by : ((a ≡ answer.Done) × (s ≡ Installed (lone_install p) ∷ [])) ⊎ Fails p a s → Step h.trace s
    by (inl y) = none-sent h.trace s (λ q v. ap (sent_in q v) y.1)
    by (inr y) = fails h.trace a s p y

joins-so : (h : History) (a : Answer) (s : List Event) (p : Address) → AnswersJoin p h a s → Step h.trace s
joins-so h a s p x = by (current_view p h.trace) x
  where
    by : (o : Option ViewId) → MatchOption o (((a ≡ answer.Done) × (s ≡ [])) ⊎ Fails p a s) (λ v. Refuses refusal.AlreadyConnected a s) → Step h.trace s
    by None (inl y) = none-sent h.trace s (λ q v. ap (sent_in q v) y.1)
    by None (inr y) = fails h.trace a s p y
    by (Some v) y = refuses h.trace a s refusal.AlreadyConnected y

sends-so : (h : History) (payload : List ℕ) (a : Answer) (s : List Event) (p : Address) → AnswersSend payload p h a s → Step h.trace s
sends-so h payload a s p x = by (current_view p h.trace) x
  where
    last : (v : ViewId) → nat_le OUTSTANDING (outstanding p v h.trace) ≡ false → (b : Bool) → MatchBool b (SendsNext p v payload h.trace a s ⊎ Fails p a s) (Refuses refusal.Exhausted a s) → Step h.trace s
    last v e true (inl y) = sends h.trace a s p v payload e y
    last v e true (inr y) = fails h.trace a s p y
    last v e false y = refuses h.trace a s refusal.Exhausted y

    by : (o : Option ViewId) → MatchOption o (Refuses refusal.NotConnected a s)
        (λ v. MatchBool (nat_lt PAYLOAD (length payload)) (Refuses refusal.TooLong a s)
        (MatchBool (is_blocked p h.trace) (Refuses refusal.Blocked a s)
        (MatchBool (nat_le OUTSTANDING (outstanding p v h.trace)) (Refuses refusal.Busy a s)
        (MatchBool (nat_lt (length (sent_in p v h.trace)) GREATEST_NUMBER) (SendsNext p v payload h.trace a s ⊎ Fails p a s) (Refuses refusal.Exhausted a s))))) → Step h.trace s
    by None y = refuses h.trace a s refusal.NotConnected y
    by (Some v) y =
        either h.trace a s (nat_lt PAYLOAD (length payload)) refusal.TooLong _ (λ e1 y1.
        either h.trace a s (is_blocked p h.trace) refusal.Blocked _ (λ e2 y2.
        either h.trace a s (nat_le OUTSTANDING (outstanding p v h.trace)) refusal.Busy _ (λ e3 y3. last v e3 (nat_lt (length (sent_in p v h.trace)) GREATEST_NUMBER) y3) y2) y1) y

delivers-so : (h : History) (k : ℕ) (a : Answer) (s : List Event) → AnswersDeliver k h a s → Step h.trace s
delivers-so h k a s x = by (recipient k h) x
  where
    by : (o : Option Address) → MatchOption o ((a ≡ answer.Done) × (s ≡ [])) (λ p. AnswersQuietly p a s) → Step h.trace s
    by None y = none-sent h.trace s (λ q v. ap (sent_in q v) y.1)
    by (Some p) y = quietly h.trace a s p y

leaves-so : (h : History) (a : Answer) (s : List Event) (p : Address) → AnswersLeave p a s → Step h.trace s
leaves-so h a s p (inl y) = none-sent h.trace s (λ q v. ap (sent_in q v) y.1)
leaves-so h a s p (inr y) = fails h.trace a s p y

step : (h : History) (e : WorldEvent) (a : Answer) (s : List Event) → Answers h e a s → Step h.trace s
step h (event.Start n) a s x = starts-so h n a s x
step h (event.Create n) a s x = at-member n h a s (λ p. AnswersCreate p h a s) (creates-so h a s) x
step h (event.Join n contact) a s x = at-member n h a s (λ p. AnswersJoin p h a s) (joins-so h a s) x
step h (event.Send n payload) a s x = at-member n h a s (λ p. AnswersSend payload p h a s) (sends-so h payload a s) x
step h (event.Deliver k) a s x = delivers-so h k a s x
step h (event.Tick n) a s x = at-member n h a s (λ p. AnswersQuietly p a s) (quietly h.trace a s) x
step h (event.Suspect n q) a s x = at-member n h a s (λ p. AnswersQuietly p a s) (quietly h.trace a s) x
step h (event.MergeHint n q) a s x = at-member n h a s (λ p. AnswersQuietly p a s) (quietly h.trace a s) x
step h (event.Leave n) a s x = at-member n h a s (λ p. AnswersLeave p a s) (leaves-so h a s) x
step h (event.Crash n) a s x = at-member n h a s (λ p. AnswersCrash p a s) (λ p y. none-sent h.trace s (λ q v. ap (sent_in q v) y.1)) x

pub few : (h : History) → IsFaithful h → (p : Address) (v : ViewId) → Bound p v h.trace
few _ Nothing p v = omega arith
few _ (Next h e a packets s before answers prompt) p v = step h e a s answers p v (few h before p v)
