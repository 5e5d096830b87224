-- No ticket is forgotten, and none is answered twice.
use Rattle.std.proofs.Common.{◌≡◌, ℕ, ◌+◌, ◌==◌, List, [], ◌++◌, map, cond, Option, None, Some, count_by, refl, ◌∙◌, arith}
use Rattle.std.proofs.lemmas.List.Sums.{sum_by-cons, sum_by-append}
use Rattle.trace_props.specs.declared.event.Event.{Event}
use Rattle.trace_props.specs.declared.event.Delivery.{Delivery}
use Rattle.trace_props.specs.declared.event.Install.{Install}
use Rattle.application.specs.Followed.{due}
use Rattle.application.proofs.FirstWaits.{is_taken, backs}
use Rattle.application.proofs.OwnEvents.{by-own, kept-all}
use Rattle.application.proofs.EventsFollowed.{due-once}
use Rattle.replicated_map.specs.declared.waiting.Answer.{Answer}
use Rattle.replicated_map.specs.declared.waiting.Fate.{Fate}
use Rattle.replicated_map.specs.Serving.{Serving, heard, delivered, installed, answer_of, answered, fate_of, back}
use Rattle.replicated_map.specs.Answers.{heard_all, waits_often, answered_often}

abbrev answers_with : ℕ → List Answer → ℕ
answers_with ticket l = count_by (λ a. a.ticket == ticket) l

answers-more : (ticket : ℕ) (l m : List Answer) → answers_with ticket (l ++ m) ≡ answers_with ticket l + answers_with ticket m
answers-more ticket l m = sum_by-append (λ a. cond (a.ticket == ticket) 1 0) l m

-- a ticket that is answered is answered once
answered-once : (o : Option ℕ) (f : Fate) (ticket : ℕ) → answers_with ticket (answered o f) ≡ is_taken ticket o
answered-once None f ticket = refl
answered-once (Some n) f ticket = let one = sum_by-cons (λ a. cond (a.ticket == ticket) 1 0) (answer_of n f) [] in omega (arith, one)

abbrev KeepsTickets : Serving → Serving → Type 0
KeepsTickets old new = (ticket : ℕ) → waits_often ticket new + answered_often ticket new ≡ waits_often ticket old + answered_often ticket old

delivery-keeps : (s : Serving) (d : Delivery) → KeepsTickets s (delivered d s)
delivery-keeps s d = λ ticket.
    let taken = due-once d s.followed ticket in
    let once = answered-once (due d s.followed) (fate_of d s) ticket in
    let more = answers-more ticket s.answers (answered (due d s.followed) (fate_of d s)) in
    omega (arith, taken, once, more)

install-keeps : (s : Serving) (i : Install) → KeepsTickets s (installed i s)
install-keeps s i = λ ticket.
    let all = backs (λ (a : Answer). a.ticket) back (λ w. refl) s.followed.waiting ticket in
    let more = answers-more ticket s.answers (map back s.followed.waiting) in
    omega (arith, all, more)

event-keeps : (s : Serving) (h : Event) → KeepsTickets s (heard s h)
event-keeps s h = by-own (λ h (x y : Serving). KeepsTickets s x) s.followed.own (λ d. delivered d s) (λ i. installed i s) s (λ d. delivered d s) (λ i. installed i s) s
    (λ d e. delivery-keeps s d) (λ i e. install-keeps s i) (λ h ticket. refl) h

pub forgets-nobody : (s : Serving) (t : List Event) → KeepsTickets s (heard_all s t)
forgets-nobody s t = kept-all heard (KeepsTickets s) (λ u h (keeps : KeepsTickets s u) ticket. event-keeps u h ticket ∙ keeps ticket) s t (λ ticket. refl)
