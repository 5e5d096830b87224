-- What may follow a trace whose rules hold keeps them: well placed, rising views, sound messages, one order.
use Rattle.std.proofs.Common.{◌≡◌, ℕ, ◌+◌, ◌<◌, ◌≤◌, Bool, true, false, List, [], ◌∷◌, ◌++◌, length, Some, None, Contains, slice_get, filter_map, sym, refl, ap, ◌∙◌, subst, ⊎_elim, arith}
use Rattle.std.proofs.lemmas.Bool.{and_left}
use Rattle.std.proofs.lemmas.List.Elements.{filter_map-append}
use Rattle.std.proofs.lemmas.Option.{none-some, slice_get_within, get_or_from_slice_get}
use Rattle.address.specs.Ids.{Address, ViewId, same_address, same_view_id}
use Rattle.trace_props.specs.declared.event.Event.{Event}
use Rattle.trace_props.specs.declared.event.Event.TheVariants.{Sent, Delivered, Installed}
use Rattle.trace_props.specs.declared.event.Numbered.{Numbered}
use Rattle.trace_props.specs.declared.event.Message.{Message}
use Rattle.trace_props.specs.declared.event.Install.{Install}
use Rattle.trace_props.specs.declared.event.Delivery.{Delivery}
use Rattle.trace_props.specs.declared.event.Sending.{Sending}
use Rattle.trace_props.specs.Places.{IsBeginningOf}
use Rattle.trace_props.specs.Observed.{delivered_message, delivered_in, said, sent_in, numbered, own}
use Rattle.trace_props.specs.Rules.{MayStand, RisesAt, EachTwoInstalls, HasRisingViews, WasSent, IsNumbered, IsOnce, HasSoundMessages, HasOneOrder}
use Rattle.trace_props.specs.Synchrony.{IsWellOrdered}
use Rattle.trace_props.specs.Following.{MayRise, MayCarry, MayOrder}
use Rattle.trace_props.proofs.RulesAlongLists.{slice_get-push, EachEvent-nil, EachEvent-push, IsBeginningOf-same, IsBeginningOf-grow, IsBeginningOf-next, IsBeginningOf-at}
use Rattle.address.proofs.SameIds.{same_address-true, same_view_id-true, same_view_id-from}
use Rattle.trace_props.proofs.DeliveredGrow.{is_delivery_to, is_delivery_to-true, is_delivery_to-at, delivered_in-still, delivered_in-hit, delivered_in-miss, said_by, said_by-true, sent_in-still, sent_in-hit, sent_in-miss, own-hit, own-miss, own-at, is_of, register-stands, register-written}
use Rattle.trace_props.proofs.InstallRulesGrow.{EachInstall, EachTwoInstalls-still, EachTwoInstalls-push}

-- RISING VIEWS

-- what may follow meets the rule on each install
rises-from : (t : List Event) (h : Event) → MayRise t h → RisesAt t h
rises-from t (Installed i) m = m.0
rises-from t h m = tt

-- who installs the same view id installs the same members
abbrev pub SameMembers : Install → Install → Type 0
SameMembers e f = e.view.id ≡ f.view.id → e.view.members ≡ f.view.members

-- an install of a view that was installed has the members of each install of it
agrees-old : (t : List Event) (i : Install) → HasRisingViews t → MayRise t (Installed i) → EachInstall (λ e. SameMembers e i) t
agrees-old t i v m k e s same =
    let first = register-written (is_of i.view.id) t k e s (same_view_id-from e.view.id i.view.id same) in
    let at = register-stands (is_of i.view.id) t first.0 first.1 in
    v.agrees k at.place e first.0 s at.stands (same ∙ sym (same_view_id-true first.0.view.id i.view.id at.passes)) ∙ m.1 first.0 first.1

agrees-push : (t : List Event) (h : Event) → HasRisingViews t → MayRise t h → EachTwoInstalls SameMembers (t ++ h ∷ [])
agrees-push t (Installed i) v m =
    EachTwoInstalls-push SameMembers SameMembers t i (λ e f x. x) v.agrees (agrees-old t i v m) (λ k e s same. sym (agrees-old t i v m k e s (sym same))) (λ same. refl)
agrees-push t h v m = EachTwoInstalls-still SameMembers SameMembers t h (λ e f x. x) refl v.agrees

-- rising views go one event further
pub views-push : (t : List Event) (h : Event) → HasRisingViews t → MayRise t h → HasRisingViews (t ++ h ∷ [])
views-push t h v m = record {
  rises = EachEvent-push RisesAt t h v.rises (rises-from t h m);
  agrees = agrees-push t h v m;
}

-- SOUND MESSAGES

-- one more message with the next number
pub IsNumbered-push : (ms : List Numbered) (m : Numbered) → IsNumbered ms → m.number ≡ length ms + 1 → IsNumbered (ms ++ m ∷ [])
IsNumbered-push ms m each new k x s =
    ⊎_elim (λ (a : slice_get ms k ≡ Some x). each k x a) (λ (b : (k ≡ length ms) × (m ≡ x)). ap (λ y. y.number) (sym b.1) ∙ new ∙ ap (λ n. n + 1) (sym b.0)) (slice_get-push ms m k x s)

-- the numbers of a list that stays are as they were
numbers-still : (t : List Event) (h : Event) (p : Address) (v : ViewId) → HasSoundMessages t → said p v h ≡ None → IsNumbered (sent_in p v (t ++ h ∷ []))
numbers-still t h p v r e = subst IsNumbered (sym (sent_in-still p v t h e)) (r.numbers p v)

numbers-sent : (t : List Event) (s : Sending) (p : Address) (v : ViewId) (b : Bool) → said_by p v s ≡ b → HasSoundMessages t → MayCarry t (Sent s) → IsNumbered (sent_in p v (t ++ Sent s ∷ []))
numbers-sent t s p v false e r m = subst IsNumbered (sym (sent_in-miss p v t s e)) (r.numbers p v)
numbers-sent t s p v true e r m =
    let same = said_by-true p v s e in
    subst IsNumbered (sym (sent_in-hit p v t s e))
    (IsNumbered-push (sent_in p v t) s.message (r.numbers p v) (m ∙ ap (λ q. length (sent_in q s.view t) + 1) same.0 ∙ ap (λ w. length (sent_in p w t) + 1) same.1))

numbers-push : (t : List Event) (h : Event) → HasSoundMessages t → MayCarry t h → (p : Address) (v : ViewId) → IsNumbered (sent_in p v (t ++ h ∷ []))
numbers-push t (Sent s) r m p v = numbers-sent t s p v (said_by p v s) refl r m
numbers-push t h r m p v = numbers-still t h p v r refl

-- what stands at a place is contained
pub Contains-at : {X : Type 0} (xs : List X) (k : ℕ) (x : X) → slice_get xs k ≡ Some x → Contains xs x
Contains-at xs k x e = (k, slice_get_within xs k x e, get_or_from_slice_get xs k x x e)

-- what may follow was sent
sent-from : (t : List Event) (h : Event) → MayCarry t h → WasSent t h
sent-from t (Delivered d) m =
    Contains-at (sent_in d.message.sender d.view t) (length (own d.message.sender (delivered_in d.member d.view t))) (numbered d.message) m.1
sent-from t h m = tt

-- one more message, unlike all that stand there
pub IsOnce-push : (ms : List Message) (m : Message) → IsOnce ms → ((j : ℕ) (a : Message) → slice_get ms j ≡ Some a → a.sender ≡ m.sender → a.number ≡ m.number → ⊥) → IsOnce (ms ++ m ∷ [])
IsOnce-push ms m once new j k a b x y same number =
    ⊎_elim
    (λ (old : slice_get ms j ≡ Some a).
    ⊎_elim
    (λ (too : slice_get ms k ≡ Some b). once j k a b old too same number)
    (λ (c : (k ≡ length ms) × (m ≡ b)). absurd (new j a old (same ∙ ap (λ z. z.sender) (sym c.1)) (number ∙ ap (λ z. z.number) (sym c.1))))
    (slice_get-push ms m k b y))
    (λ (c : (j ≡ length ms) × (m ≡ a)).
    ⊎_elim
    (λ (old : slice_get ms k ≡ Some b). absurd (new k b old (sym same ∙ ap (λ z. z.sender) (sym c.1)) (sym number ∙ ap (λ z. z.number) (sym c.1))))
    (λ (d : (k ≡ length ms) × (m ≡ b)). c.0 ∙ sym d.0)
    (slice_get-push ms m k b y))
    (slice_get-push ms m j a x)

-- a message that was delivered has a number up to the count of its sender's messages that were delivered
pub delivered-number : (t : List Event) (p : Address) (v : ViewId) → HasSoundMessages t → (j : ℕ) (a : Message) → slice_get (delivered_in p v t) j ≡ Some a → a.number ≤ length (own a.sender (delivered_in p v t))
delivered-number t p v r j a s =
    let at = own-at (delivered_in p v t) j a s in
    let within : at.0 < length (own a.sender (delivered_in p v t)) = slice_get_within (own a.sender (delivered_in p v t)) at.0 (numbered a) at.1 in
    let number : a.number ≡ at.0 + 1 = r.numbers a.sender v at.0 (numbered a) (IsBeginningOf-at (own a.sender (delivered_in p v t)) (sent_in a.sender v t) at.0 (numbered a) (r.in_turn p a.sender v) at.1) in
    omega arith

-- so the next message of a sender is unlike all that were delivered
delivered-fresh : (t : List Event) (d : Delivery) → HasSoundMessages t → MayCarry t (Delivered d)
    → (j : ℕ) (a : Message) → slice_get (delivered_in d.member d.view t) j ≡ Some a → a.sender ≡ d.message.sender → a.number ≡ d.message.number → ⊥
delivered-fresh t d r m j a s same number =
    let most : a.number ≤ length (own a.sender (delivered_in d.member d.view t)) = delivered-number t d.member d.view r j a s in
    let count : length (own a.sender (delivered_in d.member d.view t)) ≡ length (own d.message.sender (delivered_in d.member d.view t)) = ap (λ q. length (own q (delivered_in d.member d.view t))) same in
    let next : d.message.number ≡ length (own d.message.sender (delivered_in d.member d.view t)) + 1 = m.0 in
    omega arith

once-still : (t : List Event) (h : Event) (p : Address) (v : ViewId) → HasSoundMessages t → delivered_message p v h ≡ None → IsOnce (delivered_in p v (t ++ h ∷ []))
once-still t h p v r e = subst IsOnce (sym (delivered_in-still p v t h e)) (r.once p v)

once-delivered : (t : List Event) (d : Delivery) (p : Address) (v : ViewId) (b : Bool) → is_delivery_to p v d ≡ b → HasSoundMessages t → MayCarry t (Delivered d) → IsOnce (delivered_in p v (t ++ Delivered d ∷ []))
once-delivered t d p v false e r m = subst IsOnce (sym (delivered_in-miss p v t d e)) (r.once p v)
once-delivered t d p v true e r m =
    let same = is_delivery_to-true p v d e in
    subst (λ (q : Address). IsOnce (delivered_in q v (t ++ Delivered d ∷ []))) same.0
    (subst (λ (w : ViewId). IsOnce (delivered_in d.member w (t ++ Delivered d ∷ []))) same.1
    (subst IsOnce (sym (delivered_in-hit d.member d.view t d (is_delivery_to-at d)))
    (IsOnce-push (delivered_in d.member d.view t) d.message (r.once d.member d.view) (delivered-fresh t d r m))))

once-push : (t : List Event) (h : Event) → HasSoundMessages t → MayCarry t h → (p : Address) (v : ViewId) → IsOnce (delivered_in p v (t ++ h ∷ []))
once-push t (Delivered d) r m p v = once-delivered t d p v (is_delivery_to p v d) refl r m
once-push t h r m p v = once-still t h p v r refl

-- who delivers nothing stays at a beginning of what was sent
turn-still : (t : List Event) (h : Event) (p q : Address) (v : ViewId) → HasSoundMessages t → delivered_message p v h ≡ None → IsBeginningOf (own q (delivered_in p v (t ++ h ∷ []))) (sent_in q v (t ++ h ∷ []))
turn-still t h p q v r e =
    subst (λ (ms : List Message). IsBeginningOf (own q ms) (sent_in q v (t ++ h ∷ []))) (sym (delivered_in-still p v t h e))
    (subst (λ (ns : List Numbered). IsBeginningOf (own q (delivered_in p v t)) ns) (sym (filter_map-append (said q v) t (h ∷ [])))
    (IsBeginningOf-grow (own q (delivered_in p v t)) (sent_in q v t) (filter_map (said q v) (h ∷ [])) (r.in_turn p q v)))

-- who delivers a message goes on with its sender's next
turn-hit : (t : List Event) (d : Delivery) (q : Address) (b : Bool) → same_address d.message.sender q ≡ b → HasSoundMessages t → MayCarry t (Delivered d)
    → IsBeginningOf (own q (delivered_in d.member d.view t ++ d.message ∷ [])) (sent_in q d.view t)
turn-hit t d q false e r m = subst (λ (ns : List Numbered). IsBeginningOf ns (sent_in q d.view t)) (sym (own-miss q (delivered_in d.member d.view t) d.message e)) (r.in_turn d.member q d.view)
turn-hit t d q true e r m =
    subst (λ (ns : List Numbered). IsBeginningOf ns (sent_in q d.view t)) (sym (own-hit q (delivered_in d.member d.view t) d.message e))
    (IsBeginningOf-next (own q (delivered_in d.member d.view t)) (sent_in q d.view t) (numbered d.message) (r.in_turn d.member q d.view)
    (subst (λ (x : Address). slice_get (sent_in x d.view t) (length (own x (delivered_in d.member d.view t))) ≡ Some (numbered d.message)) (same_address-true d.message.sender q e) m.1))

turn-delivered : (t : List Event) (d : Delivery) (p q : Address) (v : ViewId) (b : Bool) → is_delivery_to p v d ≡ b → HasSoundMessages t → MayCarry t (Delivered d)
    → IsBeginningOf (own q (delivered_in p v (t ++ Delivered d ∷ []))) (sent_in q v (t ++ Delivered d ∷ []))
turn-delivered t d p q v false e r m =
    subst (λ (ms : List Message). IsBeginningOf (own q ms) (sent_in q v (t ++ Delivered d ∷ []))) (sym (delivered_in-miss p v t d e))
    (subst (λ (ns : List Numbered). IsBeginningOf (own q (delivered_in p v t)) ns) (sym (sent_in-still q v t (Delivered d) refl)) (r.in_turn p q v))
turn-delivered t d p q v true e r m =
    let same = is_delivery_to-true p v d e in
    subst (λ (x : Address). IsBeginningOf (own q (delivered_in x v (t ++ Delivered d ∷ []))) (sent_in q v (t ++ Delivered d ∷ []))) same.0
    (subst (λ (w : ViewId). IsBeginningOf (own q (delivered_in d.member w (t ++ Delivered d ∷ []))) (sent_in q w (t ++ Delivered d ∷ []))) same.1
    (subst (λ (ms : List Message). IsBeginningOf (own q ms) (sent_in q d.view (t ++ Delivered d ∷ []))) (sym (delivered_in-hit d.member d.view t d (is_delivery_to-at d)))
    (subst (λ (ns : List Numbered). IsBeginningOf (own q (delivered_in d.member d.view t ++ d.message ∷ [])) ns) (sym (sent_in-still q d.view t (Delivered d) refl))
    (turn-hit t d q (same_address d.message.sender q) refl r m))))

turn-push : (t : List Event) (h : Event) → HasSoundMessages t → MayCarry t h → (p q : Address) (v : ViewId) → IsBeginningOf (own q (delivered_in p v (t ++ h ∷ []))) (sent_in q v (t ++ h ∷ []))
turn-push t (Delivered d) r m p q v = turn-delivered t d p q v (is_delivery_to p v d) refl r m
turn-push t h r m p q v = turn-still t h p q v r refl

-- sound messages go one event further
pub messages-push : (t : List Event) (h : Event) → HasSoundMessages t → MayCarry t h → HasSoundMessages (t ++ h ∷ [])
messages-push t h r m = record {
  numbers = numbers-push t h r m;
  sent = EachEvent-push WasSent t h r.sent (sent-from t h m);
  once = once-push t h r m;
  in_turn = turn-push t h r m;
}

-- ONE ORDER

-- who delivers nothing stays at a beginning of what the coordinator delivered
order-still : (t : List Event) (h : Event) (p : Address) (v : ViewId) → HasOneOrder t → delivered_message p v h ≡ None → IsBeginningOf (delivered_in p v (t ++ h ∷ [])) (delivered_in v.creator v (t ++ h ∷ []))
order-still t h p v r e =
    subst (λ (ms : List Message). IsBeginningOf ms (delivered_in v.creator v (t ++ h ∷ []))) (sym (delivered_in-still p v t h e))
    (subst (λ (ns : List Message). IsBeginningOf (delivered_in p v t) ns) (sym (filter_map-append (delivered_message v.creator v) t (h ∷ [])))
    (IsBeginningOf-grow (delivered_in p v t) (delivered_in v.creator v t) (filter_map (delivered_message v.creator v) (h ∷ [])) (r p v)))

-- the coordinator goes before, all others deliver the next of what it delivered
order-hit : (t : List Event) (d : Delivery) (b : Bool) → same_address d.member d.view.creator ≡ b → HasOneOrder t → MayOrder t (Delivered d)
    → IsBeginningOf (delivered_in d.member d.view (t ++ Delivered d ∷ [])) (delivered_in d.view.creator d.view (t ++ Delivered d ∷ []))
order-hit t d true e r m =
    subst (λ (x : Address). IsBeginningOf (delivered_in d.member d.view (t ++ Delivered d ∷ [])) (delivered_in x d.view (t ++ Delivered d ∷ []))) (same_address-true d.member d.view.creator e)
    (IsBeginningOf-same (delivered_in d.member d.view (t ++ Delivered d ∷ [])))
order-hit t d false e r m =
    subst (λ (ms : List Message). IsBeginningOf ms (delivered_in d.view.creator d.view (t ++ Delivered d ∷ []))) (sym (delivered_in-hit d.member d.view t d (is_delivery_to-at d)))
    (subst (λ (ns : List Message). IsBeginningOf (delivered_in d.member d.view t ++ d.message ∷ []) ns) (sym (delivered_in-miss d.view.creator d.view t d (and_left (same_address d.member d.view.creator) (same_view_id d.view d.view) e)))
    (IsBeginningOf-next (delivered_in d.member d.view t) (delivered_in d.view.creator d.view t) d.message (r d.member d.view) (m e)))

order-delivered : (t : List Event) (d : Delivery) (p : Address) (v : ViewId) (b : Bool) → is_delivery_to p v d ≡ b → HasOneOrder t → MayOrder t (Delivered d)
    → IsBeginningOf (delivered_in p v (t ++ Delivered d ∷ [])) (delivered_in v.creator v (t ++ Delivered d ∷ []))
order-delivered t d p v false e r m =
    subst (λ (ms : List Message). IsBeginningOf ms (delivered_in v.creator v (t ++ Delivered d ∷ []))) (sym (delivered_in-miss p v t d e))
    (subst (λ (ns : List Message). IsBeginningOf (delivered_in p v t) ns) (sym (filter_map-append (delivered_message v.creator v) t (Delivered d ∷ [])))
    (IsBeginningOf-grow (delivered_in p v t) (delivered_in v.creator v t) (filter_map (delivered_message v.creator v) (Delivered d ∷ [])) (r p v)))
order-delivered t d p v true e r m =
    let same = is_delivery_to-true p v d e in
    subst (λ (x : Address). IsBeginningOf (delivered_in x v (t ++ Delivered d ∷ [])) (delivered_in v.creator v (t ++ Delivered d ∷ []))) same.0
    (subst (λ (w : ViewId). IsBeginningOf (delivered_in d.member w (t ++ Delivered d ∷ [])) (delivered_in w.creator w (t ++ Delivered d ∷ []))) same.1
    (order-hit t d (same_address d.member d.view.creator) refl r m))

-- one order goes one event further
pub order-push : (t : List Event) (h : Event) → HasOneOrder t → MayOrder t h → HasOneOrder (t ++ h ∷ [])
order-push t (Delivered d) r m p v = order-delivered t d p v (is_delivery_to p v d) refl r m
order-push t h r m p v = order-still t h p v r refl

-- ALL FOUR

-- where nothing happened the four rules hold
pub well_ordered-none : IsWellOrdered []
well_ordered-none = record {
  placed = EachEvent-nil MayStand;
  views = record { rises = EachEvent-nil RisesAt; agrees = λ j k e f a b. absurd (none-some (Installed e) a) };
  messages = record {
    numbers = λ p v k m e. absurd (none-some m e);
    sent = EachEvent-nil WasSent;
    once = λ p v j k a b e. absurd (none-some a e);
    in_turn = λ p q v. refl;
  };
  order = λ p v. refl;
}
