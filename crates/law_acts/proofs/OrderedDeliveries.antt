-- The next message of a view's order may be delivered: it was sent, and it is its sender's next.
use Rattle.std.proofs.Common.{◌≡◌, ℕ, zero, suc, ◌+◌, Bool, true, false, cond, Some, None, List, [], ◌∷◌, length, map, take, refl, sym, ap, ◌∙◌}
use Rattle.std.specs.Prelude.{slice_get}
use Rattle.std.specs.List.{cons_option}
use Rattle.std.proofs.lemmas.Option.{none-some, same_Some}
use Rattle.address.specs.Ids.{Address, ViewId, same_address}
use Rattle.wire_values.specs.Values.{Entry}
use Rattle.trace_props.specs.declared.event.Event.{Event}
use Rattle.trace_props.specs.declared.event.Message.{Message}
use Rattle.trace_props.specs.declared.event.Numbered.{Numbered}
use Rattle.trace_props.specs.Observed.{delivered_in, sent_in, own, numbered}
use Rattle.trace_props.specs.Rules.{HasSoundMessages, HasOneOrder}
use Rattle.trace_props.proofs.RulesAlongLists.{IsBeginningOf-at}
use Rattle.address.proofs.SameIds.{same_address-refl}
use Rattle.law_acts.specs.Words.{entry_for, message_for, list_of, order_of}

-- an entry of the order is the message that its coordinator delivered there
message-at : (l : List Message) (k : ℕ) (e : Entry) → slice_get (map entry_for l) k ≡ Some e → slice_get l k ≡ Some (message_for e)
message-at [] k e at = absurd (none-some e at)
message-at (m ∷ l) zero e at = ap Some (ap message_for (same_Some (entry_for m) e at))
message-at (m ∷ l) (suc k) e at = message-at l k e at

pub order-message : (v : ViewId) (t : List Event) (k : ℕ) (e : Entry) → slice_get (order_of v t) k ≡ Some e → slice_get (delivered_in v.creator v t) k ≡ Some (message_for e)
unfolding list_of
order-message v t k e at = message-at (delivered_in v.creator v t) k e at

-- as many messages were delivered as entries
pub many-delivered : (p : Address) (v : ViewId) (t : List Event) → length (list_of p v t) ≡ length (delivered_in p v t)
unfolding list_of
many-delivered p v t = by (delivered_in p v t)
  where
    by : (l : List Message) → length (map entry_for l) ≡ length l
    by [] = refl
    by (m ∷ l) = ap suc (by l)

own-step : (b : Bool) (q : Address) (x m : Message) (rest front : List Numbered) → same_address x.sender q ≡ b → slice_get rest (length front) ≡ Some (numbered m)
    → slice_get (cons_option (cond b (Some (numbered x)) None) rest) (length (cons_option (cond b (Some (numbered x)) None) front)) ≡ Some (numbered m)
own-step true q x m rest front e at = at
own-step false q x m rest front e at = at

-- a message stands among its sender's own right behind those before it
pub own-place : (l : List Message) (k : ℕ) (m : Message) → slice_get l k ≡ Some m → slice_get (own m.sender l) (length (own m.sender (take k l))) ≡ Some (numbered m)
own-place [] k m at = absurd (none-some m at)
own-place (x ∷ l) zero m at =
    let e : x ≡ m = same_Some x m at in
    ap (λ b. slice_get (cons_option (cond b (Some (numbered x)) None) (own m.sender l)) 0) (ap (λ (z : Message). same_address z.sender m.sender) e ∙ same_address-refl m.sender)
    ∙ ap (λ (z : Message). Some (numbered z)) e
own-place (x ∷ l) (suc k) m at =
    own-step (same_address x.sender m.sender) m.sender x m (own m.sender l) (own m.sender (take k l)) refl (own-place l k m at)

-- what is needed of a message that is delivered next
pub record IsNext (t : List Event) (p : Address) (v : ViewId) (m : Message) : Type 0 where
  pub number : m.number ≡ length (own m.sender (delivered_in p v t)) + 1
  pub sent : slice_get (sent_in m.sender v t) (length (own m.sender (delivered_in p v t))) ≡ Some (numbered m)
  pub order : slice_get (delivered_in v.creator v t) (length (delivered_in p v t)) ≡ Some m

pub next-of-order : (t : List Event) (p : Address) (v : ViewId) (e : Entry) (d : ℕ) → HasSoundMessages t → HasOneOrder t → length (list_of p v t) ≡ d
    → slice_get (order_of v t) d ≡ Some e → IsNext t p v (message_for e)
next-of-order t p v e d sound one count_is at =
    let m = message_for e in
    let all = delivered_in v.creator v t in
    let mine = delivered_in p v t in
    let many : length mine ≡ d = sym (many-delivered p v t) ∙ count_is in
    let here : slice_get all (length mine) ≡ Some m = ap (slice_get all) many ∙ order-message v t d e at in
    let before : own m.sender mine ≡ own m.sender (take (length mine) all) = ap (own m.sender) (one p v) in
    let place : slice_get (own m.sender all) (length (own m.sender mine)) ≡ Some (numbered m) =
    ap (λ l. slice_get (own m.sender all) (length l)) before ∙ own-place all (length mine) m here in
    let sent : slice_get (sent_in m.sender v t) (length (own m.sender mine)) ≡ Some (numbered m) =
    IsBeginningOf-at (own m.sender all) (sent_in m.sender v t) (length (own m.sender mine)) (numbered m) (sound.in_turn v.creator m.sender v) place in
    record { number = sound.numbers m.sender v (length (own m.sender mine)) (numbered m) sent; sent = sent; order = here }
