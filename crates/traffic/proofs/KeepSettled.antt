-- What holds of the coordinator between its steps goes on to hold.
use Rattle.std.proofs.Common.{◌≡◌, ℕ, ◌+◌, ◌-◌, ◌≤◌, Bool, true, false, cond, max, Option, Some, None, List, [], ◌∷◌, drop, length, refl, sym, ap, ◌∙◌, subst, arith}
use Rattle.std.specs.Prelude.{if◌then◌else◌, nat_eq, slice_get, MatchOption}
use Rattle.std.specs.List.{find, list_any}
use Rattle.std.specs.Option.{option_map}
use Rattle.std.proofs.lemmas.Bool.Decides.{nat_tests}
use Rattle.std.proofs.lemmas.Bool.{cond-true, cond-false}
use Rattle.std.proofs.lemmas.Option.{none-some, same_Some}
use Rattle.address.specs.Ids.{Address, same_address}
use Rattle.view.specs.Members.{stands_in, is_distinct}
use Rattle.view.specs.View.{view_refusal}
use Rattle.wire_values.specs.Values.{Entry}
use Rattle.state_transfer.specs.Meanings.{Meaning}
use Rattle.trace_props.specs.declared.event.Numbered.{Numbered}
use Rattle.address.proofs.SameIds.{same_address-refl, same_address-true, turned-about}
use Rattle.sequencer.specs.Forwards.{ForwardsModel, IsForwards, one_delivered}
use Rattle.sequencer.specs.Queues.{Queue, OrdererModel, change_first, without_first, follows, has_next, next_of, entry_with, served, first_next, next_ordered, is_from}
use Rattle.stability.specs.Counts.{members_of, count_of, noted, stable_count}
use Rattle.stability.proofs.Counts.{count-noted-le, stable-le-count, members-noted}
use Rattle.traffic.specs.declared.coordinator.Coordinator.{Coordinator}
use Rattle.step_output.specs.declared.output.Output.{Output}
use Rattle.traffic.specs.ViewStates.{senders_of, after_delivery}
use Rattle.traffic.specs.Coordinators.{IsCoordinator}
use Rattle.traffic.specs.Turns.{turned, TurnsOne, TurnsNext, IsSettled, own_queue}
use Rattle.traffic.proofs.ActsOfCoordinator.{due-fact, distinct-in}
use Rattle.traffic.proofs.AcksKnown.{noted-itself}
use Rattle.traffic.proofs.QueuesServe.{served-fact, rest-distinct}
use Rattle.traffic.proofs.TurnsFollow.{one-ordered}
use Rattle.traffic.proofs.FewAreOrdered.{turned-fact, stable-le-noted}
use Rattle.traffic.proofs.ActsOfTurns.{itself-in}
use Rattle.step_output.specs.Steps.{who}
use Rattle.traffic.specs.InViews.{in_view}

-- its own next message is the first of those that are outstanding
own-served-by : (rest : List Numbered) (p : Address) (f : ForwardsModel) → IsForwards f → f.rest ≡ rest → list_any (follows (own_queue p f)) rest ≡ true
    → without_first (follows (own_queue p f)) rest ≡ drop 1 rest
own-served-by [] p f i is any = cc
own-served-by (x ∷ rest) p f i is any =
    let n : x.number + length f.rest ≡ f.sent + 0 + 1 = i.numbered 0 x (ap (λ l. slice_get l 0) is) in
    let t : nat_eq (f.sent - length f.rest + 1) x.number ≡ true = (let k : f.sent - length f.rest + 1 ≡ x.number = omega (arith, n, i.some) in grind (arith, nat_tests)) in
    ap (λ (b : Bool). if b then rest else x ∷ without_first (follows (own_queue p f)) rest) t

one-fewer : (rest : List Numbered) (test : Numbered → Bool) (n : ℕ) → list_any test rest ≡ true → length rest ≤ n → n - length rest + 1 ≡ n - length (drop 1 rest)
one-fewer [] test n any some = cc
one-fewer (x ∷ rest) test n any some = omega (arith, some)

own-served : (p : Address) (f : ForwardsModel) → IsForwards f → has_next (own_queue p f) ≡ true → served (own_queue p f) ≡ own_queue p (one_delivered f)
own-served p f i any =
    ap (λ (l : List Numbered). let r : Queue = record { sender = p; ordered = f.sent - length f.rest + 1; waiting = l } in r) (own-served-by f.rest p f i refl any)
    ∙ ap (λ (n : ℕ). let r : Queue = record { sender = p; ordered = n; waiting = drop 1 f.rest } in r) (one-fewer f.rest (follows (own_queue p f)) f.sent any i.some)

next-sender : (q : Queue) (o : Option Numbered) (e : Entry) → option_map (entry_with q) o ≡ Some e → e.sender ≡ q.sender
next-sender q None e h = absurd (none-some e h)
next-sender q (Some x) e h = ap (λ (y : Entry). y.sender) (sym (same_Some (entry_with q x) e h))

stands-apart : (b : Bool) (p q : Address) (list : List Address) → same_address p q ≡ b → stands_in p list ≡ true → stands_in q list ≡ false → same_address p q ≡ false
stands-apart true p q list s there apart = let x : true ≡ false = sym there ∙ ap (λ (r : Address). stands_in r list) (same_address-true p q s) ∙ apart in cc
stands-apart false p q list s there apart = s

not-delivered : (p : Address) (e : Entry) (f : ForwardsModel) → same_address e.sender p ≡ false → after_delivery p e f ≡ f
not-delivered p e f s = cond-false (same_address e.sender p) (one_delivered f) f s

served-own-by : (b c : Bool) (p : Address) (f : ForwardsModel) (q : Queue) (queues : List Queue) (e : Entry) → IsForwards f → has_next q ≡ b → same_address p q.sender ≡ c
    → stands_in q.sender (senders_of queues) ≡ false → is_distinct (senders_of queues) ≡ true → (if b then next_of q else first_next queues) ≡ Some e
    → cond c (Some q) (find (is_from p) queues) ≡ Some (own_queue p f)
    → (find (is_from p) queues ≡ Some (own_queue p f) → first_next queues ≡ Some e → find (is_from p) (change_first has_next served queues) ≡ Some (own_queue p (after_delivery p e f)))
    → find (is_from p) (if b then served q ∷ queues else q ∷ change_first has_next served queues) ≡ Some (own_queue p (after_delivery p e f))
served-own-by true true p f q queues e i n s apart d next own later =
    let is : q ≡ own_queue p f = same_Some q (own_queue p f) own in
    let from : e.sender ≡ p = next-sender q (find (follows q) q.waiting) e next ∙ ap (λ (x : Queue). x.sender) is in
    ap (λ (b : Bool). cond b (Some (served q)) (find (is_from p) queues)) s
    ∙ ap (λ (x : Queue). Some (served x)) is ∙ ap Some (own-served p f i (ap has_next (sym is) ∙ n))
    ∙ ap (λ (x : ForwardsModel). Some (own_queue p x)) (sym (cond-true (same_address e.sender p) (one_delivered f) f (ap (λ (r : Address). same_address r p) from ∙ same_address-refl p)))
served-own-by true false p f q queues e i n s apart d next own later =
    let from : e.sender ≡ q.sender = next-sender q (find (follows q) q.waiting) e next in
    ap (λ (b : Bool). cond b (Some (served q)) (find (is_from p) queues)) s ∙ own
    ∙ ap (λ (x : ForwardsModel). Some (own_queue p x)) (sym (not-delivered p e f (ap (λ (r : Address). same_address r p) from ∙ turned-about (same_address q.sender p) p q.sender refl s)))
served-own-by false true p f q queues e i n s apart d next own later =
    let x = served-fact queues e d next in
    let same : p ≡ q.sender = same_address-true p q.sender s in
    ap (λ (b : Bool). cond b (Some q) (find (is_from p) (change_first has_next served queues))) s ∙ own
    ∙ ap (λ (x : ForwardsModel). Some (own_queue p x)) (sym (not-delivered p e f (ap (same_address e.sender) same ∙ stands-apart (same_address e.sender q.sender) e.sender q.sender (senders_of queues) refl x.stands apart)))
served-own-by false false p f q queues e i n s apart d next own later =
    ap (λ (b : Bool). cond b (Some q) (find (is_from p) (change_first has_next served queues))) s ∙ later own next

served-own : (p : Address) (f : ForwardsModel) (queues : List Queue) (e : Entry) → IsForwards f → is_distinct (senders_of queues) ≡ true → find (is_from p) queues ≡ Some (own_queue p f)
    → first_next queues ≡ Some e → find (is_from p) (change_first has_next served queues) ≡ Some (own_queue p (after_delivery p e f))
served-own p f [] e i d own next = absurd (none-some e next)
served-own p f (q ∷ queues) e i d own next =
    let r = rest-distinct (stands_in q.sender (senders_of queues)) (is_distinct (senders_of queues)) d in
    served-own-by (has_next q) (same_address p q.sender) p f q queues e i refl refl r.0 r.1 next own (served-own p f queues e i r.1)

module _ {S : Type 0} (meaning : Meaning S) where
  pub settled-turned : (p : Address) (m : Coordinator) (e : Entry) → IsCoordinator p m → IsSettled p m → IsForwards m.forwards → m.window.stable ≤ m.window.delivered → view_refusal m.view.id m.view.members ≡ None
      → next_ordered m.window.stable m.orderer ≡ Some e → IsSettled p (turned p e m)
  settled-turned p m e i s f low sound due =
      let z = turned-fact meaning p m e i low sound due in
      let g = m.window.delivered + 1 in
      let d = due-fact m e i.ordered low due in
      let there : stands_in p (members_of m.acks) ≡ true = ap (stands_in p) i.heard ∙ itself-in p m.view sound i.coordinator in
      record {
        heard = λ q. subst (λ (k : ℕ). count_of q (turned p e m).acks ≤ k) (sym z.delivered)
            (subst (λ acks. count_of q acks ≤ g) (sym z.acks) (count-noted-le p q g g m.acks (λ same. omega arith) (let k = s.heard q in omega arith)));
        own_acked = ap (count_of p) z.acks ∙ noted-itself p g m.acks there ∙ ap (λ (k : ℕ). max k g) s.own_acked ∙ (let k : max m.window.delivered g ≡ g = omega arith in k) ∙ sym z.delivered;
        least = z.least (let a = stable-le-noted p g m.acks in let b = s.least in subst (λ acks. m.window.stable ≤ stable_count acks) (sym z.acks) (omega (arith, a, b)))
            (subst (λ acks. stable_count acks ≤ g) (sym z.acks) (let a = stable-le-count p (noted p g m.acks) (ap (stands_in p) (members-noted p g m.acks) ∙ there) in
            let b : count_of p (noted p g m.acks) ≤ g = count-noted-le p p g g m.acks (λ same. omega arith) (let k = s.heard p in omega arith) in omega (arith, a, b)));
        own = ap (λ (o : OrdererModel). find (is_from p) o.queues) (one-ordered p m e due)
            ∙ served-own p m.forwards m.orderer.queues e f (ap is_distinct i.senders ∙ distinct-in m.view sound) s.own d.next;
      }

  settled-by : (o : Option Entry) (p : Address) (group : List ℕ) (b : Bool) (m : Coordinator) (s : S) (out : Output) (new : Coordinator) (t : S) (more : Output) → IsCoordinator p m → IsSettled p m → IsForwards m.forwards
      → m.window.stable ≤ m.window.delivered → view_refusal m.view.id m.view.members ≡ None → next_ordered m.window.stable m.orderer ≡ o
      → MatchOption o ((b ≡ false) × (new ≡ m) × (t ≡ s) × (more ≡ out)) (λ e. (b ≡ true) × TurnsOne meaning (who p group) e (in_view m s out) (in_view new t more)) → IsSettled p new
  settled-by None p group b m s out new t more i z f low sound due x = subst (λ (n : Coordinator). IsSettled p n) (sym x.1) z
  settled-by (Some e) p group b m s out new t more i z f low sound due x = subst (λ (n : Coordinator). IsSettled p n) (sym x.1.now) (settled-turned p m e i z f low sound due)

  pub settled-next : (p : Address) (group : List ℕ) (b : Bool) (m : Coordinator) (s : S) (out : Output) (new : Coordinator) (t : S) (more : Output) → IsCoordinator p m → IsSettled p m → IsForwards m.forwards
      → m.window.stable ≤ m.window.delivered → view_refusal m.view.id m.view.members ≡ None → TurnsNext meaning (who p group) b (in_view m s out) (in_view new t more) → IsSettled p new
  settled-next p group b m s out new t more i z f low sound x = settled-by (next_ordered m.window.stable m.orderer) p group b m s out new t more i z f low sound refl x
