-- What one more event changes of the messages that a member delivered or sent, and of the installs.
use Rattle.std.proofs.Common.{◌≡◌, ℕ, suc, zero, Bool, true, false, ◌&&◌, cond, List, [], ◌∷◌, ◌++◌, Option, Some, None, filter_map, find, sym, refl, ap, ◌∙◌, subst, slice_get}
use Rattle.std.specs.Option.{option_or}
use Rattle.std.specs.List.{cons_option}
use Rattle.std.proofs.lemmas.List.Elements.{filter_map-append}
use Rattle.std.proofs.lemmas.Bool.{and_parts, and_from, and_left, cond-true, cond-false}
use Rattle.std.proofs.lemmas.List.Folds.{find-append}
use Rattle.std.proofs.lemmas.Option.{none-some, same_Some}
use Rattle.address.specs.Ids.{Address, ViewId, same_address, same_view_id}
use Rattle.trace_props.specs.declared.event.Event.{Event}
use Rattle.trace_props.specs.declared.event.Event.TheVariants.{Sent, Delivered, Installed}
use Rattle.trace_props.specs.declared.event.Message.{Message}
use Rattle.trace_props.specs.declared.event.Install.{Install}
use Rattle.trace_props.specs.declared.event.Delivery.{Delivery}
use Rattle.trace_props.specs.declared.event.Sending.{Sending}
use Rattle.trace_props.specs.Observed.{member_of, delivered_message, delivered_in, said, sent_in, numbered, own_by, own, install_of, installs_in}
use Rattle.address.proofs.SameIds.{same_address-true, same_address-refl, same_view_id-true, same_view_id-refl}
use Rattle.trace_props.proofs.ObservedGrow.{filter_map-still, filter_map-more}

-- WHAT A MEMBER DELIVERED

-- whether a message is delivered to a member in a view
abbrev pub is_delivery_to : Address → ViewId → Delivery → Bool
is_delivery_to p v d = same_address d.member p && same_view_id d.view v

-- what delivers nothing to it leaves its list
pub delivered_in-still : (p : Address) (v : ViewId) (t : List Event) (h : Event) → delivered_message p v h ≡ None → delivered_in p v (t ++ h ∷ []) ≡ delivered_in p v t
delivered_in-still p v t h e = filter_map-still (delivered_message p v) t h e

-- what another delivers, or what is delivered in another view, leaves its list
pub delivered_in-miss : (p : Address) (v : ViewId) (t : List Event) (d : Delivery) → is_delivery_to p v d ≡ false → delivered_in p v (t ++ Delivered d ∷ []) ≡ delivered_in p v t
delivered_in-miss p v t d e = delivered_in-still p v t (Delivered d) (cond-false (is_delivery_to p v d) (Some d.message) None e)

-- what it delivers in the view stands at the end
pub delivered_in-hit : (p : Address) (v : ViewId) (t : List Event) (d : Delivery) → is_delivery_to p v d ≡ true → delivered_in p v (t ++ Delivered d ∷ []) ≡ delivered_in p v t ++ d.message ∷ []
delivered_in-hit p v t d e = filter_map-more (delivered_message p v) t (Delivered d) d.message (cond-true (is_delivery_to p v d) (Some d.message) None e)

-- a message is delivered to its member in its view
pub is_delivery_to-at : (d : Delivery) → is_delivery_to d.member d.view d ≡ true
is_delivery_to-at d = and_from (same_address d.member d.member) (same_view_id d.view d.view) (same_address-refl d.member) (same_view_id-refl d.view)

-- and to none but that
pub is_delivery_to-true : (p : Address) (v : ViewId) (d : Delivery) → is_delivery_to p v d ≡ true → (d.member ≡ p) × (d.view ≡ v)
is_delivery_to-true p v d e =
    let parts = and_parts (same_address d.member p) (same_view_id d.view v) e in
    (same_address-true d.member p parts.0, same_view_id-true d.view v parts.1)

-- what happens to another delivers nothing to this one
delivered-other : (p : Address) (v : ViewId) (h : Event) → same_address (member_of h) p ≡ false → delivered_message p v h ≡ None
delivered-other p v (Delivered d) e = cond-false (is_delivery_to p v d) (Some d.message) None (and_left (same_address d.member p) (same_view_id d.view v) e)
delivered-other p v h e = refl

-- so its lists stay
pub delivered_in-other : (p : Address) (v : ViewId) (t : List Event) (h : Event) → same_address (member_of h) p ≡ false → delivered_in p v (t ++ h ∷ []) ≡ delivered_in p v t
delivered_in-other p v t h e = delivered_in-still p v t h (delivered-other p v h e)

-- WHAT A MEMBER SENT

-- whether a message is sent by a member in a view
abbrev pub said_by : Address → ViewId → Sending → Bool
said_by p v s = same_address s.member p && same_view_id s.view v

-- what sends nothing of it leaves its list
pub sent_in-still : (p : Address) (v : ViewId) (t : List Event) (h : Event) → said p v h ≡ None → sent_in p v (t ++ h ∷ []) ≡ sent_in p v t
sent_in-still p v t h e = filter_map-still (said p v) t h e

-- what another sends, or what is sent in another view, leaves its list
pub sent_in-miss : (p : Address) (v : ViewId) (t : List Event) (s : Sending) → said_by p v s ≡ false → sent_in p v (t ++ Sent s ∷ []) ≡ sent_in p v t
sent_in-miss p v t s e = sent_in-still p v t (Sent s) (cond-false (said_by p v s) (Some s.message) None e)

-- what it sends in the view stands at the end
pub sent_in-hit : (p : Address) (v : ViewId) (t : List Event) (s : Sending) → said_by p v s ≡ true → sent_in p v (t ++ Sent s ∷ []) ≡ sent_in p v t ++ s.message ∷ []
sent_in-hit p v t s e = filter_map-more (said p v) t (Sent s) s.message (cond-true (said_by p v s) (Some s.message) None e)

-- a message is sent by its member in its view
pub said_by-at : (s : Sending) → said_by s.member s.view s ≡ true
said_by-at s = and_from (same_address s.member s.member) (same_view_id s.view s.view) (same_address-refl s.member) (same_view_id-refl s.view)

-- and by none but that
pub said_by-true : (p : Address) (v : ViewId) (s : Sending) → said_by p v s ≡ true → (s.member ≡ p) × (s.view ≡ v)
said_by-true p v s e =
    let parts = and_parts (same_address s.member p) (same_view_id s.view v) e in
    (same_address-true s.member p parts.0, same_view_id-true s.view v parts.1)

-- what happens to another sends nothing of this one
said-other : (p : Address) (v : ViewId) (h : Event) → same_address (member_of h) p ≡ false → said p v h ≡ None
said-other p v (Sent s) e = cond-false (said_by p v s) (Some s.message) None (and_left (same_address s.member p) (same_view_id s.view v) e)
said-other p v h e = refl

-- so its lists stay
pub sent_in-other : (p : Address) (v : ViewId) (t : List Event) (h : Event) → same_address (member_of h) p ≡ false → sent_in p v (t ++ h ∷ []) ≡ sent_in p v t
sent_in-other p v t h e = sent_in-still p v t h (said-other p v h e)

-- OWN MESSAGES

-- another's message is not among a member's own
pub own-miss : (q : Address) (messages : List Message) (m : Message) → same_address m.sender q ≡ false → own q (messages ++ m ∷ []) ≡ own q messages
own-miss q messages m e = filter_map-still (own_by q) messages m (cond-false (same_address m.sender q) (Some (numbered m)) None e)

-- its own stands at the end
pub own-hit : (q : Address) (messages : List Message) (m : Message) → same_address m.sender q ≡ true → own q (messages ++ m ∷ []) ≡ own q messages ++ numbered m ∷ []
own-hit q messages m e = filter_map-more (own_by q) messages m (numbered m) (cond-true (same_address m.sender q) (Some (numbered m)) None e)

-- one more message in front of a member's own
own-front : (messages : List Message) (x m : Message) → x ≡ m → slice_get (own m.sender (x ∷ messages)) 0 ≡ Some (numbered m)
own-front messages x m e =
    subst (λ (y : Message). slice_get (own m.sender (y ∷ messages)) 0 ≡ Some (numbered m)) (sym e)
    (ap (λ o. slice_get (cons_option o (own m.sender messages)) 0) (cond-true (same_address m.sender m.sender) (Some (numbered m)) None (same_address-refl m.sender)))

-- one more message in front, of this sender or another
own-behind : (x : Message) (messages : List Message) (m : Message) (b : Bool) → same_address x.sender m.sender ≡ b → (n : ℕ) × (slice_get (own m.sender messages) n ≡ Some (numbered m)) → (n : ℕ) × (slice_get (own m.sender (x ∷ messages)) n ≡ Some (numbered m))
own-behind x messages m true e at = (suc at.0, ap (λ o. slice_get (cons_option o (own m.sender messages)) (suc at.0)) (cond-true (same_address x.sender m.sender) (Some (numbered x)) None e) ∙ at.1)
own-behind x messages m false e at = (at.0, ap (λ o. slice_get (cons_option o (own m.sender messages)) at.0) (cond-false (same_address x.sender m.sender) (Some (numbered x)) None e) ∙ at.1)

-- a message of a list stands among its sender's own there
pub own-at : (messages : List Message) (k : ℕ) (m : Message) → slice_get messages k ≡ Some m → (n : ℕ) × (slice_get (own m.sender messages) n ≡ Some (numbered m))
own-at [] k m e = absurd (none-some m e)
own-at (x ∷ messages) zero m e = (0, own-front messages x m (same_Some x m e))
own-at (x ∷ messages) (suc k) m e = own-behind x messages m (same_address x.sender m.sender) refl (own-at messages k m e)

-- INSTALLS

-- only an install adds to the installs
pub installs_in-still : (t : List Event) (h : Event) → install_of h ≡ None → installs_in (t ++ h ∷ []) ≡ installs_in t
installs_in-still t h e = filter_map-still install_of t h e

-- an install stands at the end of them
pub installs_in-push : (t : List Event) (i : Install) → installs_in (t ++ Installed i ∷ []) ≡ installs_in t ++ i ∷ []
installs_in-push t i = filter_map-more install_of t (Installed i) i refl

-- whether an install is a member's, of a view
abbrev pub enters : Address → ViewId → Install → Bool
enters p v i = same_address i.member p && same_view_id i.view.id v

-- whether an install is of a view
abbrev pub is_of : ViewId → Install → Bool
is_of v i = same_view_id i.view.id v

-- where the first that passes a test stands, among what a filter keeps
pub record FoundAt {X Y : Type 0} (p : Y → Bool) (f : X → Option Y) (t : List X) (y : Y) : Type 0 where
  pub place : ℕ
  pub it : X
  pub stands : slice_get t place ≡ Some it
  pub gives : f it ≡ Some y
  pub passes : p y ≡ true

-- one further in front
found-behind : {X Y : Type 0} (p : Y → Bool) (f : X → Option Y) (x : X) (t : List X) (y : Y) → FoundAt p f t y → FoundAt p f (x ∷ t) y
found-behind p f x t y at = record { place = suc at.place; it = at.it; stands = at.stands; gives = at.gives; passes = at.passes }

found-test : {X Y : Type 0} (p : Y → Bool) (f : X → Option Y) (x : X) (t : List X) (z y : Y) (b : Bool) → p z ≡ b → f x ≡ Some z → cond b (Some z) (find p (filter_map f t)) ≡ Some y → (find p (filter_map f t) ≡ Some y → FoundAt p f t y) → FoundAt p f (x ∷ t) y
found-test {X} {Y} p f x t z y true e g h later = record { place = 0; it = x; stands = refl; gives = g ∙ h; passes = subst (λ (a : Y). p a ≡ true) (same_Some z y h) e }
found-test p f x t z y false e g h later = found-behind p f x t y (later h)

found-cons : {X Y : Type 0} (p : Y → Bool) (f : X → Option Y) (x : X) (t : List X) (y : Y) (o : Option Y) → f x ≡ o → find p (cons_option o (filter_map f t)) ≡ Some y → (find p (filter_map f t) ≡ Some y → FoundAt p f t y) → FoundAt p f (x ∷ t) y
found-cons p f x t y None g h later = found-behind p f x t y (later h)
found-cons p f x t y (Some z) g h later = found-test p f x t z y (p z) refl g h later

-- the first that passes stands somewhere
pub find-stands : {X Y : Type 0} (p : Y → Bool) (f : X → Option Y) (t : List X) (y : Y) → find p (filter_map f t) ≡ Some y → FoundAt p f t y
find-stands p f [] y h = absurd (none-some y h)
find-stands p f (x ∷ t) y h = found-cons p f x t y (f x) refl h (find-stands p f t y)

find-front : {Y : Type 0} (p : Y → Bool) (z : Y) (ys : List Y) → p z ≡ true → find p (z ∷ ys) ≡ Some z
find-front p z ys e = cond-true (p z) (Some z) (find p ys) e

found-later : {Y : Type 0} (p : Y → Bool) (z : Y) (ys : List Y) (b : Bool) → p z ≡ b → (y : Y) × (find p ys ≡ Some y) → (y : Y) × (find p (z ∷ ys) ≡ Some y)
found-later p z ys true e at = (z, cond-true (p z) (Some z) (find p ys) e)
found-later p z ys false e at = (at.0, cond-false (p z) (Some z) (find p ys) e ∙ at.1)

found-skip : {Y : Type 0} (p : Y → Bool) (o : Option Y) (ys : List Y) → (y : Y) × (find p ys ≡ Some y) → (y : Y) × (find p (cons_option o ys) ≡ Some y)
found-skip p None ys at = at
found-skip p (Some z) ys at = found-later p z ys (p z) refl at

-- where one that passes stands, the first of them is found
pub find-found : {X Y : Type 0} (p : Y → Bool) (f : X → Option Y) (t : List X) (k : ℕ) (x : X) (y : Y) → slice_get t k ≡ Some x → f x ≡ Some y → p y ≡ true → (z : Y) × (find p (filter_map f t) ≡ Some z)
find-found p f [] k x y s g e = absurd (none-some x s)
find-found {X} {Y} p f (a ∷ t) zero x y s g e =
    (y, ap (λ (o : Option Y). find p (cons_option o (filter_map f t))) (ap f (same_Some a x s) ∙ g) ∙ find-front p y (filter_map f t) e)
find-found p f (a ∷ t) (suc k) x y s g e = found-skip p (f a) (filter_map f t) (find-found p f t k x y s g e)

-- who gives an install is that install
pub install_of-some : (h : Event) (i : Install) → install_of h ≡ Some i → h ≡ Installed i
install_of-some (Installed j) i e = ap Installed (same_Some j i e)
install_of-some h i e = absurd (none-some i e)

-- where an install stands that passes a test
pub record StandsIn (test : Install → Bool) (t : List Event) (i : Install) : Type 0 where
  pub place : ℕ
  pub stands : slice_get t place ≡ Some (Installed i)
  pub passes : test i ≡ true

-- a register that is written was written by an install that stands in the trace
pub register-stands : (test : Install → Bool) (t : List Event) (i : Install) → find test (installs_in t) ≡ Some i → StandsIn test t i
register-stands test t i e =
    let at = find-stands test install_of t i e in
    record { place = at.place; stands = at.stands ∙ ap Some (install_of-some at.it i at.gives); passes = at.passes }

-- where such an install stands, the register is written
pub register-written : (test : Install → Bool) (t : List Event) (k : ℕ) (i : Install) → slice_get t k ≡ Some (Installed i) → test i ≡ true → (f : Install) × (find test (installs_in t) ≡ Some f)
register-written test t k i s e = find-found test install_of t k (Installed i) i s refl e

-- what is written stays
pub register-stays : (test : Install → Bool) (t u : List Event) (i : Install) → find test (installs_in t) ≡ Some i → find test (installs_in (t ++ u)) ≡ Some i
register-stays test t u i e =
    ap (find test) (filter_map-append install_of t u) ∙ find-append test (installs_in t) (installs_in u) ∙ ap (λ o. option_or o (find test (installs_in u))) e

-- only an install writes
pub register-still : (test : Install → Bool) (t : List Event) (h : Event) → install_of h ≡ None → find test (installs_in (t ++ h ∷ [])) ≡ find test (installs_in t)
register-still test t h e = ap (find test) (installs_in-still t h e)

-- an install writes where it passes and nothing is written
pub register-push : (test : Install → Bool) (t : List Event) (i : Install) → find test (installs_in (t ++ Installed i ∷ [])) ≡ option_or (find test (installs_in t)) (cond (test i) (Some i) None)
register-push test t i = ap (find test) (installs_in-push t i) ∙ find-append test (installs_in t) (i ∷ [])
