-- What is shown, and by which events.
use Rattle.std.proofs.Common.{◌≡◌, Bool, true, false, not, ◌&&◌, nat_eq, eqb-true, eq-eqb, List, sym, refl, ◌∙◌}
use Rattle.std.proofs.lemmas.Bool.{and_from, and_parts, true≢false}
use Rattle.address.specs.Ids.{Address, ViewId, same_address, same_view_id}
use Rattle.address.proofs.SameIds.{same_address-true, same_address-refl, same_view_id-true, same_view_id-refl}
use Rattle.trace_props.specs.declared.event.Event.{Event}
use Rattle.trace_props.specs.declared.event.Event.TheVariants as event
use Rattle.trace_props.specs.declared.event.Sending.{Sending}
use Rattle.trace_props.specs.declared.event.Delivery.{Delivery}
use Rattle.trace_props.specs.State.{installs}
use Rattle.trace_merge.specs.declared.fact.MessageKey.{MessageKey}
use Rattle.trace_merge.specs.declared.fact.Fact.{Fact}
use Rattle.trace_merge.specs.declared.fact.Fact.TheVariants.{Sent, Delivered, Installed}
use Rattle.trace_merge.specs.Facts.{same_message, sent, delivered, shows, is_shown, is_awaited}
use Rattle.trace_merge.proofs.ElementsStand.{Has, Found, any-found, any-has}

-- THE SAME MESSAGE

-- two keys that are the same by the test are
pub record SameKey (a b : MessageKey) : Type 0 where
  pub view : a.view ≡ b.view
  pub sender : a.sender ≡ b.sender
  pub number : a.number ≡ b.number

same-key : (a b : MessageKey) → same_message a b ≡ true → SameKey a b
same-key a b e =
    let parts = and_parts (same_view_id a.view b.view) (same_address a.sender b.sender && nat_eq a.number b.number) e in
    let rest = and_parts (same_address a.sender b.sender) (nat_eq a.number b.number) parts.1 in
    record { view = same_view_id-true a.view b.view parts.0; sender = same_address-true a.sender b.sender rest.0; number = eqb-true a.number b.number rest.1 }

pub same_message-refl : (a : MessageKey) → same_message a a ≡ true
same_message-refl a =
    and_from (same_view_id a.view a.view) (same_address a.sender a.sender && nat_eq a.number a.number) (same_view_id-refl a.view)
    (and_from (same_address a.sender a.sender) (nat_eq a.number a.number) (same_address-refl a.sender) (eq-eqb a.number a.number refl))

-- BY WHICH EVENTS

-- an event that shows a send is that send
pub record IsSend (key : MessageKey) (h : Event) : Type 0 where
  pub sending : Sending
  pub is : h ≡ event.Sent sending
  pub same : SameKey (sent sending) key

send-of : (key : MessageKey) (h : Event) → shows (Sent key) h ≡ true → IsSend key h
send-of key (event.Sent s) e = record { sending = s; is = refl; same = same-key (sent s) key e }
send-of key h e = absurd (true≢false (sym e))

-- an event that shows a delivery is that delivery
pub record IsDelivery (p : Address) (key : MessageKey) (h : Event) : Type 0 where
  pub delivery : Delivery
  pub is : h ≡ event.Delivered delivery
  pub member : delivery.member ≡ p
  pub same : SameKey (delivered delivery) key

delivery-of : (p : Address) (key : MessageKey) (h : Event) → shows (Delivered p key) h ≡ true → IsDelivery p key h
delivery-of p key (event.Delivered d) e =
    let parts = and_parts (same_address d.member p) (same_message (delivered d) key) e in
    record { delivery = d; is = refl; member = same_address-true d.member p parts.0; same = same-key (delivered d) key parts.1 }
delivery-of p key h e = absurd (true≢false (sym e))

-- an event shows an install exactly where it is that install
shows-install : (p : Address) (v : ViewId) (h : Event) → shows (Installed p v) h ≡ installs p v h
shows-install p v (event.Started q) = refl
shows-install p v h = refl

-- IN A LIST

-- where a fact is shown, one event shows it, and the other way round
pub shown-found : (t : List Event) (f : Fact) → is_shown t f ≡ true → Found t (λ h. shows f h ≡ true)
shown-found t f e = any-found (shows f) t e

pub shown-has : (t : List Event) (f : Fact) (h : Event) → Has t h → shows f h ≡ true → is_shown t f ≡ true
shown-has t f h there e = any-has (shows f) t h there.0 there.1 e

-- a send that is shown stands there
pub send-found : (t : List Event) (key : MessageKey) → is_shown t (Sent key) ≡ true → Found t (IsSend key)
send-found t key e = let found = shown-found t (Sent key) e in record { it = found.it; there = found.there; is = send-of key found.it found.is }

-- a delivery too
pub delivery-found : (t : List Event) (p : Address) (key : MessageKey) → is_shown t (Delivered p key) ≡ true → Found t (IsDelivery p key)
delivery-found t p key e = let found = shown-found t (Delivered p key) e in record { it = found.it; there = found.there; is = delivery-of p key found.it found.is }

-- and an install
pub install-found : (t : List Event) (p : Address) (v : ViewId) → is_shown t (Installed p v) ≡ true → Found t (λ h. installs p v h ≡ true)
install-found t p v e = let found = shown-found t (Installed p v) e in record { it = found.it; there = found.there; is = sym (shows-install p v found.it) ∙ found.is }

pub install-shown : (t : List Event) (p : Address) (v : ViewId) → Found t (λ h. installs p v h ≡ true) → is_shown t (Installed p v) ≡ true
install-shown t p v found = shown-has t (Installed p v) found.it found.there (shows-install p v found.it ∙ found.is)

-- WHAT IS AWAITED

-- what comes, and is not awaited, is shown
pub not-awaited : (comes : Fact → Bool) (past : List Event) (f : Fact) → not (is_awaited comes past f) ≡ true → comes f ≡ true → is_shown past f ≡ true
not-awaited comes past f e c = by (comes f) (is_shown past f) c e where
  by : (a b : Bool) → a ≡ true → not (a && not b) ≡ true → b ≡ true
  by true true c e = refl
  by true false c e = e
  by false b c e = absurd (true≢false (sym c))

-- what is shown is not awaited
pub shown-not-awaited : (comes : Fact → Bool) (past : List Event) (f : Fact) → is_shown past f ≡ true → not (is_awaited comes past f) ≡ true
shown-not-awaited comes past f e = by (comes f) (is_shown past f) e where
  by : (a b : Bool) → b ≡ true → not (a && not b) ≡ true
  by true true e = refl
  by true false e = e
  by false b e = refl
