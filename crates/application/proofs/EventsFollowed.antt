-- What a node knows after events is what they say, and the ticket that waits for a message waits no more.
use Rattle.std.proofs.Common.{◌≡◌, ℕ, ◌+◌, Bool, true, false, List, [], ◌∷◌, Option, None, Some, fold, if◌then◌else◌, refl, sym, ap, subst, ◌∙◌, arith}
use Rattle.address.specs.Ids.{Address, ViewId, same_address}
use Rattle.state_transfer.specs.Meanings.{Meaning}
use Rattle.trace_props.specs.declared.event.Event.{Event}
use Rattle.trace_props.specs.declared.event.Event.TheVariants.{Started, Sent, Delivered, Blocked, Installed, Left, Crashed}
use Rattle.trace_props.specs.declared.event.Delivery.{Delivery}
use Rattle.trace_props.specs.declared.event.Install.{Install}
use Rattle.trace_props.specs.Observed.{view_after}
use Rattle.trace_props.specs.State.{state_after}
use Rattle.application.specs.Places.{place_after}
use Rattle.application.specs.Waits.{ticket_of, waits_with}
use Rattle.application.specs.Followed.{Followed, Follows, after_event, due, not_due}
use Rattle.application.proofs.FirstWaits.{is_taken, taken-once}

-- the ticket that is due is one of a message of its own
pub due-own : {S : Type 0} (d : Delivery) (f : Followed S) (ticket : ℕ) → due d f ≡ Some ticket → (same_address d.message.sender f.own ≡ true) × (ticket_of d.message.number f.waiting ≡ Some ticket)
due-own d f ticket = by (same_address d.message.sender f.own) refl where
  by : (b : Bool) → same_address d.message.sender f.own ≡ b → (if b then ticket_of d.message.number f.waiting else None) ≡ Some ticket
      → (same_address d.message.sender f.own ≡ true) × (ticket_of d.message.number f.waiting ≡ Some ticket)
  by true e same = (e, same)
  by false e same = absurd cc

-- it waits no more, and all others wait on
pub due-once : {S : Type 0} (d : Delivery) (f : Followed S) (ticket : ℕ) → waits_with ticket (not_due d f) + is_taken ticket (due d f) ≡ waits_with ticket f.waiting
due-once d f ticket = by (same_address d.message.sender f.own) refl where
  by : (b : Bool) → same_address d.message.sender f.own ≡ b → waits_with ticket (not_due d f) + is_taken ticket (due d f) ≡ waits_with ticket f.waiting
  by true e = rw e (taken-once d.message.number f.waiting ticket)
  by false e = rw e (omega arith)

-- ---- one event

record IsAfter {S : Type 0} (meaning : Meaning S) (f : Followed S) (h : Event) : Type 0 where
  own : (after_event meaning f h).own ≡ f.own
  view : (after_event meaning f h).view ≡ view_after f.own f.view h
  place : (after_event meaning f h).place ≡ place_after f.own f.place h
  copy : (after_event meaning f h).copy ≡ state_after meaning f.own f.copy h

after-delivery : {S : Type 0} (meaning : Meaning S) (f : Followed S) (d : Delivery) (here : Bool) → same_address d.member f.own ≡ here → IsAfter meaning f (Delivered d)
after-delivery meaning f d true e = record { own = rw e refl; view = rw e refl; place = rw e refl; copy = rw e refl }
after-delivery meaning f d false e = record { own = rw e refl; view = rw e refl; place = rw e refl; copy = rw e refl }

after-install : {S : Type 0} (meaning : Meaning S) (f : Followed S) (i : Install) (here : Bool) → same_address i.member f.own ≡ here → IsAfter meaning f (Installed i)
after-install meaning f i true e = record { own = rw e refl; view = rw e refl; place = rw e refl; copy = rw e refl }
after-install meaning f i false e = record { own = rw e refl; view = rw e refl; place = rw e refl; copy = rw e refl }

after : {S : Type 0} (meaning : Meaning S) (f : Followed S) (h : Event) → IsAfter meaning f h
after meaning f (Started p) = record { own = refl; view = refl; place = refl; copy = refl }
after meaning f (Sent m) = record { own = refl; view = refl; place = refl; copy = refl }
after meaning f (Delivered d) = after-delivery meaning f d (same_address d.member f.own) refl
after meaning f (Blocked p) = record { own = refl; view = refl; place = refl; copy = refl }
after meaning f (Installed i) = after-install meaning f i (same_address i.member f.own) refl
after meaning f (Left p) = record { own = refl; view = refl; place = refl; copy = refl }
after meaning f (Crashed p) = record { own = refl; view = refl; place = refl; copy = refl }

-- ---- all events

module _ {S : Type 0} where
  follows : (meaning : Meaning S) (f : Followed S) (t : List Event) → Follows meaning f (fold (after_event meaning) f t) t
  follows meaning f [] = record { own = refl; view = refl; place = refl; copy = refl }
  follows meaning f (h ∷ t) =
      let one = after meaning f h in
      let rest = follows meaning (after_event meaning f h) t in
      record {
        own = rest.own ∙ one.own;
        view = rest.view ∙ ap (λ (p : Address). fold (view_after p) (after_event meaning f h).view t) one.own ∙ ap (λ (v : Option ViewId). fold (view_after f.own) v t) one.view;
        place = rest.place ∙ ap (λ (p : Address). fold (place_after p) (after_event meaning f h).place t) one.own ∙ ap (λ (n : ℕ). fold (place_after f.own) n t) one.place;
        copy = rest.copy ∙ ap (λ (p : Address). fold (state_after meaning p) (after_event meaning f h).copy t) one.own ∙ ap (λ (s : S). fold (state_after meaning f.own) s t) one.copy;
      }

module _ {K S : Type 0} where
  known-all : (meaning : Meaning S) (heard : K → Event → K) (known : K → Followed S) → ((s : K) (h : Event) → known (heard s h) ≡ after_event meaning (known s) h)
      → (s : K) (t : List Event) → known (fold heard s t) ≡ fold (after_event meaning) (known s) t
  known-all meaning heard known one s [] = refl
  known-all meaning heard known one s (h ∷ t) = known-all meaning heard known one (heard s h) t ∙ ap (λ (f : Followed S). fold (after_event meaning) f t) (one s h)

  -- so does a service whose every event is followed
  pub service-follows : (meaning : Meaning S) (heard : K → Event → K) (known : K → Followed S) → ((s : K) (h : Event) → known (heard s h) ≡ after_event meaning (known s) h)
      → (s : K) (t : List Event) → Follows meaning (known s) (known (fold heard s t)) t
  service-follows meaning heard known one s t = subst (λ (f : Followed S). Follows meaning (known s) f t) (sym (known-all meaning heard known one s t)) (follows meaning (known s) t)
