-- What follows a trace under the first four rules is what may follow: each rule one event further gives its condition.
use Rattle.std.proofs.Common.{◌≡◌, ℕ, ◌+◌, false, List, [], ◌∷◌, ◌++◌, length, Some, slice_get, sym, refl, ap, ◌∙◌, subst}
use Rattle.std.proofs.lemmas.Bool.{and_left}
use Rattle.std.specs.Option.{ForSome}
use Rattle.address.specs.Ids.{same_address, same_view_id}
use Rattle.trace_props.specs.declared.event.Event.{Event}
use Rattle.trace_props.specs.declared.event.Event.TheVariants.{Sent, Delivered, Installed}
use Rattle.trace_props.specs.declared.event.Numbered.{Numbered}
use Rattle.trace_props.specs.declared.event.Message.{Message}
use Rattle.trace_props.specs.declared.event.Install.{Install}
use Rattle.trace_props.specs.declared.event.Delivery.{Delivery}
use Rattle.trace_props.specs.declared.event.Sending.{Sending}
use Rattle.trace_props.specs.Places.{IsBeginningOf}
use Rattle.trace_props.specs.Observed.{delivered_in, sent_in, numbered, own, first_install}
use Rattle.trace_props.specs.Rules.{MayStand, IsWellPlaced, RisesAt, HasRisingViews, HasSoundMessages, HasOneOrder}
use Rattle.trace_props.specs.Following.{MayRise, MayCarry, MayOrder}
use Rattle.trace_props.proofs.RulesAlongLists.{EachEvent-last, IsBeginningOf-last, slice_get-last}
use Rattle.address.proofs.SameIds.{same_view_id-true}
use Rattle.trace_props.proofs.DeliveredGrow.{is_delivery_to-at, delivered_in-hit, delivered_in-miss, said_by-at, sent_in-still, sent_in-hit, own-hit, is_of, register-stands}
use Rattle.address.proofs.SameIds.{same_address-refl}
use Rattle.trace_props.proofs.InstallRulesGrow.{EachTwoInstalls-right}
use Rattle.trace_props.proofs.KeepFourRules.{SameMembers}

-- an event that is well placed may stand there
pub placed-needed : (t : List Event) (h : Event) → IsWellPlaced (t ++ h ∷ []) → MayStand t h
placed-needed t h r = EachEvent-last MayStand t h r

-- an install under rising views has the members of the first install of its view
members-needed : (t : List Event) (i : Install) → HasRisingViews (t ++ Installed i ∷ []) → ForSome (first_install i.view.id t) (λ f. f.view.members ≡ i.view.members)
members-needed t i r f e =
    let at = register-stands (is_of i.view.id) t f e in
    sym (EachTwoInstalls-right SameMembers t i r.agrees at.place f at.stands (sym (same_view_id-true f.view.id i.view.id at.passes)))

-- what happens under rising views may rise
pub views-needed : (t : List Event) (h : Event) → HasRisingViews (t ++ h ∷ []) → MayRise t h
views-needed t (Installed i) r = (EachEvent-last RisesAt t (Installed i) r.rises, members-needed t i r)
views-needed t h r = tt

-- a message that is sent under sound messages has the next number
sent-needed : (t : List Event) (s : Sending) → HasSoundMessages (t ++ Sent s ∷ []) → s.message.number ≡ length (sent_in s.member s.view t) + 1
sent-needed t s r =
    r.numbers s.member s.view (length (sent_in s.member s.view t)) s.message
    (ap (λ ms. slice_get ms (length (sent_in s.member s.view t))) (sent_in-hit s.member s.view t s (said_by-at s)) ∙ slice_get-last (sent_in s.member s.view t) s.message)

-- a message that is delivered under sound messages is its sender's next
delivered-needed : (t : List Event) (d : Delivery) → HasSoundMessages (t ++ Delivered d ∷ [])
    → slice_get (sent_in d.message.sender d.view t) (length (own d.message.sender (delivered_in d.member d.view t))) ≡ Some (numbered d.message)
delivered-needed t d r =
    IsBeginningOf-last (own d.message.sender (delivered_in d.member d.view t)) (sent_in d.message.sender d.view t) (numbered d.message)
    (subst (λ (ns : List Numbered). IsBeginningOf (own d.message.sender (delivered_in d.member d.view t) ++ numbered d.message ∷ []) ns) (sent_in-still d.message.sender d.view t (Delivered d) refl)
    (subst (λ (ns : List Numbered). IsBeginningOf ns (sent_in d.message.sender d.view (t ++ Delivered d ∷ [])))
    (ap (own d.message.sender) (delivered_in-hit d.member d.view t d (is_delivery_to-at d)) ∙ own-hit d.message.sender (delivered_in d.member d.view t) d.message (same_address-refl d.message.sender))
    (r.in_turn d.member d.message.sender d.view)))

-- what happens under sound messages may carry its message
pub messages-needed : (t : List Event) (h : Event) → HasSoundMessages (t ++ h ∷ []) → MayCarry t h
messages-needed t (Sent s) r = sent-needed t s r
messages-needed t (Delivered d) r =
    let at = delivered-needed t d r in
    let before : ℕ = length (own d.message.sender (delivered_in d.member d.view t)) in
    (r.numbers d.message.sender d.view before (numbered d.message) (ap (λ ns. slice_get ns before) (sent_in-still d.message.sender d.view t (Delivered d) refl) ∙ at), at)
messages-needed t h r = tt

-- who delivers a message under one order, and is not the coordinator, delivers the next of what that one delivered
delivered-in-order : (t : List Event) (d : Delivery) → HasOneOrder (t ++ Delivered d ∷ []) → same_address d.member d.view.creator ≡ false
    → slice_get (delivered_in d.view.creator d.view t) (length (delivered_in d.member d.view t)) ≡ Some d.message
delivered-in-order t d r e =
    IsBeginningOf-last (delivered_in d.member d.view t) (delivered_in d.view.creator d.view t) d.message
    (subst (λ (ns : List Message). IsBeginningOf (delivered_in d.member d.view t ++ d.message ∷ []) ns)
    (delivered_in-miss d.view.creator d.view t d (and_left (same_address d.member d.view.creator) (same_view_id d.view d.view) e))
    (subst (λ (ms : List Message). IsBeginningOf ms (delivered_in d.view.creator d.view (t ++ Delivered d ∷ [])))
    (delivered_in-hit d.member d.view t d (is_delivery_to-at d)) (r d.member d.view)))

-- what happens under one order may follow it
pub order-needed : (t : List Event) (h : Event) → HasOneOrder (t ++ h ∷ []) → MayOrder t h
order-needed t (Delivered d) r = delivered-in-order t d r
order-needed t h r = tt
