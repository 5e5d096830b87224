-- Messages in another order that is in order: what is delivered was sent, and the view's coordinator delivered it, at the same count.
use Rattle.std.proofs.Common.{◌≡◌, ℕ, ◌+◌, Bool, true, false, not, cond, ◌&&◌, List, [], ◌∷◌, length, take, drop, filter_map, Option, Some, None, slice_get, sym, refl, ap, ◌∙◌, subst, arith}
use Rattle.std.specs.List.{list_all}
use Rattle.std.proofs.lemmas.Bool.{cond-true, cond-false, and_from, and_parts}
use Rattle.std.proofs.lemmas.List.{take-append-drop}
use Rattle.std.proofs.lemmas.List.Elements.{filter_map-append}
use Rattle.std.proofs.lemmas.Option.{none-some, same_Some}
use Rattle.address.specs.Ids.{Address, ViewId, same_address, same_view_id}
use Rattle.address.proofs.SameIds.{same_address-from, same_view_id-from, same_address-true, same_view_id-true}
use Rattle.trace_props.specs.declared.event.Event.{Event}
use Rattle.trace_props.specs.declared.event.Event.TheVariants as event
use Rattle.trace_props.specs.declared.event.Sending.{Sending}
use Rattle.trace_props.specs.declared.event.Delivery.{Delivery}
use Rattle.trace_props.specs.declared.event.Message.{Message}
use Rattle.trace_props.specs.declared.event.Numbered.{Numbered}
use Rattle.trace_props.specs.Observed.{delivered_message, delivered_in, said, sent_in, own, numbered}
use Rattle.trace_props.specs.Rules.{HasSoundMessages}
use Rattle.trace_props.specs.Following.{MayCarry, MayOrder}
use Rattle.trace_props.proofs.RulesAlongLists.{slice_get-before}
use Rattle.trace_merge.specs.declared.fact.MessageKey.{MessageKey}
use Rattle.trace_merge.specs.declared.fact.Fact.{Fact}
use Rattle.trace_merge.specs.declared.fact.Fact.TheVariants.{Sent, Delivered}
use Rattle.trace_merge.specs.Facts.{same_message, sent, delivered, shows, is_shown, is_awaited, IsInOrder}
use Rattle.trace_merge.proofs.ElementsStand.{Has, gives-has, gives-found}
use Rattle.trace_merge.proofs.MembersOwnTraces.{happened_to, delivered_in-own, sent_in-own}
use Rattle.trace_merge.proofs.MergesKeepMembers.{StandsToo, stands-too}
use Rattle.trace_merge.proofs.EventsShow.{SameKey, same_message-refl, shown-found, shown-has, send-found, delivery-found, not-awaited}

-- WHAT IS IN A LIST IS SHOWN

-- what a filter keeps of a beginning stands at its place among all
pub kept-later : {Y : Type 0} (f : Event → Option Y) (k : ℕ) (t : List Event) (n : ℕ) (y : Y) → slice_get (filter_map f (take k t)) n ≡ Some y → slice_get (filter_map f t) n ≡ Some y
kept-later {Y} f k t n y e =
    ap (λ (l : List Event). slice_get (filter_map f l) n) (sym (take-append-drop k t))
    ∙ ap (λ (l : List Y). slice_get l n) (filter_map-append f (take k t) (drop k t))
    ∙ slice_get-before (filter_map f (take k t)) (filter_map f (drop k t)) n y e

-- the key of a message that a member sent
abbrev pub sent_key : ViewId → Address → Numbered → MessageKey
sent_key v q m = record { view = v; sender = q; number = m.number }

said-sent : (q : Address) (v : ViewId) (m : Numbered) (s : Sending) (b : Bool) → (same_address s.member q && same_view_id s.view v) ≡ b → cond b (Some s.message) None ≡ Some m
    → same_message (sent s) (sent_key v q m) ≡ true
said-sent q v m s false e is = absurd (none-some m is)
said-sent q v m s true e is =
    let parts = and_parts (same_address s.member q) (same_view_id s.view v) e in
    subst (λ (w : ViewId). same_message (sent s) (record { view = w; sender = q; number = m.number }) ≡ true) (same_view_id-true s.view v parts.1)
    (subst (λ (p : Address). same_message (sent s) (record { view = s.view; sender = p; number = m.number }) ≡ true) (same_address-true s.member q parts.0)
    (subst (λ (x : Numbered). same_message (sent s) (record { view = s.view; sender = s.member; number = x.number }) ≡ true) (same_Some s.message m is) (same_message-refl (sent s))))

said-shows : (q : Address) (v : ViewId) (m : Numbered) (h : Event) → said q v h ≡ Some m → shows (Sent (sent_key v q m)) h ≡ true
said-shows q v m (event.Sent s) e = said-sent q v m s (same_address s.member q && same_view_id s.view v) refl e
said-shows q v m h e = absurd (none-some m e)

-- the key of a message that was delivered
abbrev pub key_of : ViewId → Message → MessageKey
key_of v m = record { view = v; sender = m.sender; number = m.number }

delivered-same : (c : Address) (v : ViewId) (m : Message) (d : Delivery) (b : Bool) → (same_address d.member c && same_view_id d.view v) ≡ b → cond b (Some d.message) None ≡ Some m
    → (same_address d.member c && same_message (delivered d) (key_of v m)) ≡ true
delivered-same c v m d false e is = absurd (none-some m is)
delivered-same c v m d true e is =
    let parts = and_parts (same_address d.member c) (same_view_id d.view v) e in
    and_from (same_address d.member c) (same_message (delivered d) (key_of v m)) parts.0
    (subst (λ (w : ViewId). same_message (delivered d) (key_of w m) ≡ true) (same_view_id-true d.view v parts.1)
    (subst (λ (x : Message). same_message (delivered d) (key_of d.view x) ≡ true) (same_Some d.message m is) (same_message-refl (delivered d))))

delivered-shows : (c : Address) (v : ViewId) (m : Message) (h : Event) → delivered_message c v h ≡ Some m → shows (Delivered c (key_of v m)) h ≡ true
delivered-shows c v m (event.Delivered d) e = delivered-same c v m d (same_address d.member c && same_view_id d.view v) refl e
delivered-shows c v m h e = absurd (none-some m e)

-- what a member sent is shown
pub sent-shown : (t : List Event) (q : Address) (v : ViewId) (n : ℕ) (m : Numbered) → slice_get (sent_in q v t) n ≡ Some m → is_shown t (Sent (sent_key v q m)) ≡ true
sent-shown t q v n m e = let found = gives-found (said q v) t m n e in shown-has t (Sent (sent_key v q m)) found.it found.there (said-shows q v m found.it found.is)

-- what it delivered too
pub delivered-shown : (t : List Event) (c : Address) (v : ViewId) (n : ℕ) (m : Message) → slice_get (delivered_in c v t) n ≡ Some m → is_shown t (Delivered c (key_of v m)) ≡ true
delivered-shown t c v n m e =
    let found = gives-found (delivered_message c v) t m n e in
    shown-has t (Delivered c (key_of v m)) found.it found.there (delivered-shows c v m found.it found.is)

-- AND WHAT IS SHOWN IS IN A LIST

-- a message of this key that a member sent
pub record SentBy (t : List Event) (key : MessageKey) : Type 0 where
  pub message : Numbered
  pub there : Has (sent_in key.sender key.view t) message
  pub number : message.number ≡ key.number

sent-by : (t : List Event) (key : MessageKey) → is_shown t (Sent key) ≡ true → SentBy t key
sent-by t key e =
    let found = send-found t key e in
    let s : Sending = found.is.sending in
    let same : SameKey (sent s) key = found.is.same in
    record {
      message = s.message;
      there = gives-has (said key.sender key.view) t found.it s.message found.there.0 found.there.1
          (ap (said key.sender key.view) found.is.is
          ∙ cond-true (same_address s.member key.sender && same_view_id s.view key.view) (Some s.message) None
          (and_from (same_address s.member key.sender) (same_view_id s.view key.view) (same_address-from s.member key.sender same.sender) (same_view_id-from s.view key.view same.view)));
      number = same.number;
    }

-- one that a member delivered
pub record DeliveredBy (t : List Event) (c : Address) (key : MessageKey) : Type 0 where
  pub message : Message
  pub there : Has (delivered_in c key.view t) message
  pub sender : message.sender ≡ key.sender
  pub number : message.number ≡ key.number

delivered-by : (t : List Event) (c : Address) (key : MessageKey) → is_shown t (Delivered c key) ≡ true → DeliveredBy t c key
delivered-by t c key e =
    let found = delivery-found t c key e in
    let d : Delivery = found.is.delivery in
    let same : SameKey (delivered d) key = found.is.same in
    record {
      message = d.message;
      there = gives-has (delivered_message c key.view) t found.it d.message found.there.0 found.there.1
          (ap (delivered_message c key.view) found.is.is
          ∙ cond-true (same_address d.member c && same_view_id d.view key.view) (Some d.message) None
          (and_from (same_address d.member c) (same_view_id d.view key.view) (same_address-from d.member c found.is.member) (same_view_id-from d.view key.view same.view)));
      sender = same.sender;
      number = same.number;
    }

-- IN ANOTHER ORDER

module _ (t u : List Event) (same : (p : Address) → happened_to p t ≡ happened_to p u) (in_order : IsInOrder u) (sound : HasSoundMessages t) where
  -- what stands in one stands in the other
  pub shown-too : (f : Fact) → is_shown t f ≡ true → is_shown u f ≡ true
  shown-too f e =
      let found = shown-found t f e in
      let at = stands-too u t (λ p. sym (same p)) found.there.0 found.it found.there.1 in
      shown-has u f found.it (at.place, at.stands) found.is

  module _ (k : ℕ) (d : Delivery) (s : slice_get u k ≡ Some (event.Delivered d)) where
    abbrev at : StandsToo t u k (event.Delivered d)
    at = stands-too t u same k (event.Delivered d) s

    abbrev past : List Event
    past = take at.place t

    abbrev now : List Event
    now = take k u

    -- what comes before a delivery has come
    send-came : is_shown u (Sent (delivered d)) ≡ true → is_shown now (Sent (delivered d)) ≡ true
    send-came comes =
        not-awaited (is_shown u) now (Sent (delivered d))
        (and_parts (not (is_awaited (is_shown u) now (Sent (delivered d)))) _ (in_order k (event.Delivered d) s)).0 comes

    coordinator-came : same_address d.member d.view.creator ≡ false → is_shown u (Delivered d.view.creator (delivered d)) ≡ true → is_shown now (Delivered d.view.creator (delivered d)) ≡ true
    coordinator-came other comes =
        let f : Fact = Delivered d.view.creator (delivered d) in
        let free = (and_parts (not (is_awaited (is_shown u) now (Sent (delivered d)))) (list_all (λ g. not (is_awaited (is_shown u) now g)) (cond (same_address d.member d.view.creator) [] (f ∷ []))) (in_order k (event.Delivered d) s)).1 in
        let one : list_all (λ g. not (is_awaited (is_shown u) now g)) (f ∷ []) ≡ true =
        ap (list_all (λ g. not (is_awaited (is_shown u) now g))) (sym (cond-false (same_address d.member d.view.creator) [] (f ∷ []) other)) ∙ free in
        not-awaited (is_shown u) now f (and_parts (not (is_awaited (is_shown u) now f)) true one).0 comes

    abbrev before : List Event → ℕ
    before l = length (own d.message.sender (delivered_in d.member d.view l))

    -- the count of the sender's messages that were delivered before
    same-before : before past ≡ before now
    same-before = ap (λ ms. length (own d.message.sender ms)) (delivered_in-own d.member past now at.past d.view)

    -- the sender's next message is sent before in this order too
    pub carries : MayCarry past (event.Delivered d) → MayCarry now (event.Delivered d)
    carries m =
        let key : MessageKey = delivered d in
        let whole : slice_get (sent_in key.sender key.view t) (before past) ≡ Some (numbered d.message) =
        kept-later (said key.sender key.view) at.place t (before past) (numbered d.message) m.1 in
        let there = sent-by now key (send-came (shown-too (Sent key) (sent-shown t key.sender key.view (before past) (numbered d.message) whole))) in
        let found : slice_get (sent_in key.sender key.view t) there.there.0 ≡ Some there.message =
        ap (λ ms. slice_get ms there.there.0) (sent_in-own key.sender t u (same key.sender) key.view) ∙ kept-later (said key.sender key.view) k u there.there.0 there.message there.there.1 in
        let counted : there.message.number ≡ there.there.0 + 1 = sound.numbers key.sender key.view there.there.0 there.message found in
        let place : there.there.0 ≡ before past = omega (arith, counted, there.number, m.0) in
        let is : there.message ≡ numbered d.message = same_Some there.message (numbered d.message) (sym found ∙ ap (slice_get (sent_in key.sender key.view t)) place ∙ whole) in (
          m.0 ∙ ap (λ n. n + 1) same-before,
          ap (slice_get (sent_in key.sender key.view now)) (sym same-before ∙ sym place) ∙ there.there.1 ∙ ap Some is,
        )

    abbrev many : List Event → ℕ
    many l = length (delivered_in d.member d.view l)

    same-many : many past ≡ many now
    same-many = ap length (delivered_in-own d.member past now at.past d.view)

    -- and the coordinator's delivery of it is
    pub follows : MayOrder past (event.Delivered d) → MayOrder now (event.Delivered d)
    follows m other =
        let key : MessageKey = delivered d in
        let c : Address = d.view.creator in
        let whole : slice_get (delivered_in c d.view t) (many past) ≡ Some d.message = kept-later (delivered_message c d.view) at.place t (many past) d.message (m other) in
        let there = delivered-by now c key (coordinator-came other (shown-too (Delivered c key) (delivered-shown t c d.view (many past) d.message whole))) in
        let found : slice_get (delivered_in c d.view t) there.there.0 ≡ Some there.message =
        ap (λ ms. slice_get ms there.there.0) (delivered_in-own c t u (same c) d.view) ∙ kept-later (delivered_message c d.view) k u there.there.0 there.message there.there.1 in
        let place : there.there.0 ≡ many past = sound.once c d.view there.there.0 (many past) there.message d.message found whole there.sender there.number in
        let is : there.message ≡ d.message = same_Some there.message d.message (sym found ∙ ap (slice_get (delivered_in c d.view t)) place ∙ whole) in
        ap (slice_get (delivered_in c d.view now)) (sym same-many ∙ sym place) ∙ there.there.1 ∙ ap Some is

-- a member's next number is of its own past
pub sent-next : (t u : List Event) (k : ℕ) (x : Sending) (s : slice_get u k ≡ Some (event.Sent x)) (same : (p : Address) → happened_to p t ≡ happened_to p u)
    → MayCarry (take (stands-too t u same k (event.Sent x) s).place t) (event.Sent x) → MayCarry (take k u) (event.Sent x)
sent-next t u k x s same m =
    let at = stands-too t u same k (event.Sent x) s in
    m ∙ ap (λ ms. length ms + 1) (sent_in-own x.member (take at.place t) (take k u) at.past x.view)
