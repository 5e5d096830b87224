-- What a member keeps of a new view, and what holds of its coordinator.
use Rattle.std.proofs.Common.{◌≡◌, ℕ, ◌-◌, Bool, ◌||◌, true, false, cond, min, Some, None, List, [], ◌∷◌, map, length, refl, sym, ap, ◌∙◌, arith}
use Rattle.std.specs.Prelude.{nat_eq, if◌then◌else◌}
use Rattle.std.specs.List.{find}
use mathlib.Core.Path.{fun_ext}
use Rattle.address.specs.Ids.{Address, same_address}
use Rattle.view.specs.Members.{View, stands_in}
use Rattle.wire_values.specs.Values.{Entry}
use Rattle.address.proofs.SameIds.{same_address-true}
use Rattle.sequencer.specs.Forwards.{no_forwards}
use Rattle.sequencer.specs.Queues.{Queue, idle, is_from, first_next, next_ordered}
use Rattle.stability.specs.Counts.{unheard, stable_count}
use Rattle.stability.proofs.Counts.{count-unheard, members-unheard, zero-either}
use Rattle.law_acts.specs.Cores as cores
use Rattle.law_acts.specs.Cores.{fresh_view_core}
use Rattle.traffic.specs.declared.view_state.ViewState.TheVariants as kinds
use Rattle.traffic.specs.ViewStates.{waiting_of, ordered_of, senders_of, coordinator_core, view_core_of, view_of, fresh_coordinator, fresh_follower, fresh_in}
use Rattle.traffic.specs.Coordinators.{IsCoordinator}
use Rattle.traffic.specs.Turns.{IsSettled, own_queue}

-- ---- nothing is kept of a new view but the view

none-ordered : (p : Address) (members : List Address) → ordered_of (map idle members) p ≡ 0
none-ordered p [] = refl
none-ordered p (q ∷ members) = zero-either (same_address p q) (ordered_of (map idle members) p) (none-ordered p members)

none-waits : (members : List Address) → waiting_of (map idle members) ≡ []
none-waits [] = refl
none-waits (q ∷ members) = none-waits members

abbrev beginning_with : (Address → ℕ) → (Address → ℕ) → List Entry → cores.ViewCore
beginning_with acks ordered waiting = record fresh_view_core { acks = acks; ordered = ordered; waiting = waiting }

pub fresh-coordinator-is : (v : View) → coordinator_core (fresh_coordinator v) ≡ fresh_view_core
fresh-coordinator-is v =
    ap (λ (a : Address → ℕ). beginning_with a (ordered_of (map idle v.members)) (waiting_of (map idle v.members))) (fun_ext (λ p. count-unheard p v.members))
    ∙ ap (λ (o : Address → ℕ). beginning_with (λ p. 0) o (waiting_of (map idle v.members))) (fun_ext (λ p. none-ordered p v.members))
    ∙ ap (λ (w : List Entry). beginning_with (λ p. 0) (λ p. 0) w) (none-waits v.members)

fresh-by : (b : Bool) (v : View) → view_core_of (if b then kinds.Coordinator (fresh_coordinator v) else kinds.Follower (fresh_follower v)) ≡ fresh_view_core
fresh-by true v = fresh-coordinator-is v
fresh-by false v = refl

pub fresh-is : (p : Address) (v : View) → view_core_of (fresh_in p v) ≡ fresh_view_core
fresh-is p v = fresh-by (same_address p v.id.creator) v

view-by : (b : Bool) (v : View) → view_of (if b then kinds.Coordinator (fresh_coordinator v) else kinds.Follower (fresh_follower v)) ≡ v
view-by true v = refl
view-by false v = refl

pub fresh-view : (p : Address) (v : View) → view_of (fresh_in p v) ≡ v
fresh-view p v = view-by (same_address p v.id.creator) v

-- ---- what holds of its coordinator

zero-by : (b : Bool) (n : ℕ) → n ≡ 0 → (if b then 0 else min 0 n) ≡ 0
zero-by true n z = refl
zero-by false n z = omega arith

least-unheard : (members : List Address) → stable_count (map unheard members) ≡ 0
least-unheard [] = refl
least-unheard (p ∷ members) = zero-by (nat_eq (length (map unheard members)) 0) (stable_count (map unheard members)) (least-unheard members)

senders-idle : (members : List Address) → senders_of (map idle members) ≡ members
senders-idle [] = refl
senders-idle (p ∷ members) = ap (λ ps. p ∷ ps) (senders-idle members)

own-by : (b : Bool) (p a : Address) (rest : List Address) → same_address p a ≡ b → (stands_in p rest ≡ true → find (is_from p) (map idle rest) ≡ Some (own_queue p no_forwards)) → (b || stands_in p rest) ≡ true
    → cond b (Some (idle a)) (find (is_from p) (map idle rest)) ≡ Some (own_queue p no_forwards)
own-by true p a rest s later there = ap (λ (q : Address). Some (idle q)) (sym (same_address-true p a s)) ∙ ap (λ (n : ℕ). let q : Queue = record { sender = p; ordered = n; waiting = [] } in Some q) (let e : 0 ≡ no_forwards.sent - length no_forwards.rest = omega arith in e)
own-by false p a rest s later there = later there

own-idle : (p : Address) (members : List Address) → stands_in p members ≡ true → find (is_from p) (map idle members) ≡ Some (own_queue p no_forwards)
own-idle p [] there = cc
own-idle p (a ∷ rest) there = own-by (same_address p a) p a rest refl (own-idle p rest) there

none-next : (members : List Address) → first_next (map idle members) ≡ None
none-next [] = refl
none-next (p ∷ members) = none-next members

pub fresh-is-coordinator : (p : Address) (v : View) → same_address p v.id.creator ≡ true → IsCoordinator p (fresh_coordinator v)
fresh-is-coordinator p v first = record { coordinator = first; heard = members-unheard v.members; senders = senders-idle v.members; ordered = refl; top = λ g past. refl }

pub fresh-settled-in : (p : Address) (v : View) → stands_in p v.members ≡ true → IsSettled p (fresh_coordinator v)
fresh-settled-in p v there = record {
  heard = λ q. let k = count-unheard q v.members in omega (arith, k);
  own_acked = count-unheard p v.members;
  least = sym (least-unheard v.members);
  own = own-idle p v.members there;
}

pub fresh-rested : (v : View) → next_ordered (fresh_coordinator v).window.stable (fresh_coordinator v).orderer ≡ None
fresh-rested v = none-next v.members
