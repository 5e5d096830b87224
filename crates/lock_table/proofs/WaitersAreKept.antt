-- The member waits for each lock that somebody waits for; and who waits or is answered is so as often as before.
use Rattle.std.proofs.Common.{◌≡◌, ℕ, ◌+◌, ◌==◌, true, List, [], ◌∷◌, ◌++◌, map, cond, Option, None, Some, count_by, refl, ap, ◌∙◌, arith}
use Rattle.std.specs.List.{AllByRecursion, filter, flat_map}
use Rattle.std.proofs.lemmas.List.Sums.{sum_by-cons, sum_by-append}
use Rattle.address.specs.Ids.{Address, ViewId}
use Rattle.trace_props.specs.declared.event.Event.{Event}
use Rattle.trace_props.specs.declared.event.Delivery.{Delivery}
use Rattle.trace_props.specs.declared.event.Install.{Install}
use Rattle.lock_table.specs.Locks.{Table}
use Rattle.lock_table.specs.Commands.{command_of}
use Rattle.application.specs.Places.{next_place}
use Rattle.application.specs.Followed.{due}
use Rattle.application.proofs.FirstWaits.{is_taken, backs}
use Rattle.application.proofs.OwnEvents.{by-own, kept-all}
use Rattle.application.proofs.EventsFollowed.{due-once}
use Rattle.lock_table.specs.declared.standing.Standing.{Standing}
use Rattle.lock_table.specs.declared.standing.Standing.TheVariants.{Holds, Waits, Apart}
use Rattle.lock_table.specs.declared.answer.Answer.{Answer}
use Rattle.lock_table.specs.declared.own_message.Early.{Early}
use Rattle.lock_table.specs.declared.own_message.Early.TheVariants.{Told, Asks}
use Rattle.lock_table.specs.declared.answer.Queued.{Queued}
use Rattle.lock_table.specs.declared.answer.Fate.{Fate}
use Rattle.lock_table.specs.declared.answer.Fate.TheVariants.{Granted, Full, Gone}
use Rattle.lock_table.specs.StepLaws.{passes-filter}
use Rattle.lock_table.specs.Standings.{standing, is_waiting}
use Rattle.lock_table.specs.Keeping.{Keeping, heard, delivered, installed, applied, late, answer_of, told_of, told, late_fate, first_verdict, early, verdict, queue_as, queue_by, own_answers, own_queued, back, table_in, still_waits}
use Rattle.lock_table.specs.Answers.{heard_all, AllWait, waits_often, answered_often}

abbrev AllStill : Address → Table → List Queued → Type 0
AllStill own s qs = AllByRecursion (λ q. still_waits own s q ≡ true) qs

all-still : (own : Address) (s : Table) (qs : List Queued) → AllStill own s (filter (still_waits own s) qs)
all-still own s qs = passes-filter (still_waits own s) qs

all-append : (own : Address) (s : Table) (xs ys : List Queued) → AllStill own s xs → AllStill own s ys → AllStill own s (xs ++ ys)
all-append own s [] ys all more = more
all-append own s (x ∷ xs) ys all more = (all.0, all-append own s xs ys all.1 more)

queued-as : (own : Address) (s : Table) (ticket : ℕ) (name : List ℕ) (stands : Standing) → standing own name s ≡ stands → AllStill own s (queue_as ticket name stands)
queued-as own s ticket name (Holds token) e = tt
queued-as own s ticket name Waits e = (ap is_waiting e, tt)
queued-as own s ticket name Apart e = tt

queued-by : (own : Address) (s : Table) (ticket : ℕ) (x : Early) → AllStill own s (queue_by own s ticket x)
queued-by own s ticket (Told f) = tt
queued-by own s ticket (Asks name) = queued-as own s ticket name (standing own name s) refl

own-still : (o : Option ℕ) (d : Delivery) (s : Keeping) → AllStill s.followed.own (applied d s) (own_queued o d s (applied d s))
own-still None d s = tt
own-still (Some ticket) d s = queued-by s.followed.own (applied d s) ticket (early s.followed.own s.followed.copy (command_of d.message.payload))

delivery-waits : (s : Keeping) (d : Delivery) → AllWait (delivered d s)
delivery-waits s d = all-append s.followed.own (applied d s) (filter (still_waits s.followed.own (applied d s)) s.queued) (own_queued (due d s.followed) d s (applied d s))
    (all-still s.followed.own (applied d s) s.queued) (own-still (due d s.followed) d s)

event-waits : (s : Keeping) (h : Event) → AllWait s → AllWait (heard s h)
event-waits s h = by-own (λ h (x y : Keeping). AllWait s → AllWait x) s.followed.own (λ d. delivered d s) (λ i. installed i s) s (λ d. delivered d s) (λ i. installed i s) s
    (λ d e all. delivery-waits s d) (λ i e all. all-still s.followed.own (table_in i s) s.queued) (λ h all. all) h

pub all-wait : (s : Keeping) (t : List Event) → AllWait s → AllWait (heard_all s t)
all-wait s t all = kept-all heard AllWait event-waits s t all

-- ---- tickets

abbrev answers_with : ℕ → List Answer → ℕ
answers_with ticket l = count_by (λ a. a.ticket == ticket) l

abbrev queued_with : ℕ → List Queued → ℕ
queued_with ticket l = count_by (λ q. q.ticket == ticket) l

answers-more : (ticket : ℕ) (l m : List Answer) → answers_with ticket (l ++ m) ≡ answers_with ticket l + answers_with ticket m
answers-more ticket l m = sum_by-append (λ a. cond (a.ticket == ticket) 1 0) l m

queued-more : (ticket : ℕ) (l m : List Queued) → queued_with ticket (l ++ m) ≡ queued_with ticket l + queued_with ticket m
queued-more ticket l m = sum_by-append (λ q. cond (q.ticket == ticket) 1 0) l m

one-answer : (ticket n : ℕ) (view : ViewId) (place : ℕ) (f : Fate) → answers_with ticket (answer_of n view place f ∷ []) ≡ cond (n == ticket) 1 0
one-answer ticket n view place f = let one = sum_by-cons (λ a. cond (a.ticket == ticket) 1 0) (answer_of n view place f) [] in omega (arith, one)

one-queued : (ticket : ℕ) (q : Queued) (qs : List Queued) → queued_with ticket (q ∷ qs) ≡ cond (q.ticket == ticket) 1 0 + queued_with ticket qs
one-queued ticket q qs = sum_by-cons (λ q. cond (q.ticket == ticket) 1 0) q qs

-- who waited for a lock waits on, or is told
parted : (ticket : ℕ) (own : Address) (s : Table) (view : ViewId) (place : ℕ) (qs : List Queued)
    → queued_with ticket (filter (still_waits own s) qs) + answers_with ticket (flat_map (told own s view place) qs) ≡ queued_with ticket qs
parted ticket own s view place [] = refl
parted ticket own s view place (q ∷ qs) = by (standing own q.name s) (parted ticket own s view place qs) where
  by : (stands : Standing) → queued_with ticket (filter (still_waits own s) qs) + answers_with ticket (flat_map (told own s view place) qs) ≡ queued_with ticket qs
      → queued_with ticket (cond (is_waiting stands) (q ∷ filter (still_waits own s) qs) (filter (still_waits own s) qs))
      + answers_with ticket (told_of q.ticket view place (late_fate stands) ++ flat_map (told own s view place) qs) ≡ queued_with ticket (q ∷ qs)
  by (Holds token) rest =
      let more = sum_by-cons (λ a. cond (a.ticket == ticket) 1 0) (answer_of q.ticket view place (Granted token)) (flat_map (told own s view place) qs) in
      let whole = one-queued ticket q qs in
      omega (arith, rest, more, whole)
  by Waits rest =
      let more = one-queued ticket q (filter (still_waits own s) qs) in
      let whole = one-queued ticket q qs in
      omega (arith, rest, more, whole)
  by Apart rest =
      let more = sum_by-cons (λ a. cond (a.ticket == ticket) 1 0) (answer_of q.ticket view place Gone) (flat_map (told own s view place) qs) in
      let whole = one-queued ticket q qs in
      omega (arith, rest, more, whole)

-- who asked by an own message waits for the lock, or is told
settled-as : (ticket n : ℕ) (view : ViewId) (place : ℕ) (name : List ℕ) (stands : Standing)
    → queued_with ticket (queue_as n name stands) + answers_with ticket (told_of n view place (first_verdict stands)) ≡ cond (n == ticket) 1 0
settled-as ticket n view place name (Holds token) = let one = one-answer ticket n view place (Granted token) in omega (arith, one)
settled-as ticket n view place name Waits = let one = one-queued ticket (record { ticket = n; name = name }) [] in omega (arith, one)
settled-as ticket n view place name Apart = let one = one-answer ticket n view place Full in omega (arith, one)

settled-by : (ticket n : ℕ) (view : ViewId) (place : ℕ) (own : Address) (new : Table) (x : Early)
    → queued_with ticket (queue_by own new n x) + answers_with ticket (told_of n view place (verdict own new x)) ≡ cond (n == ticket) 1 0
settled-by ticket n view place own new (Told f) = let one = one-answer ticket n view place f in omega (arith, one)
settled-by ticket n view place own new (Asks name) = settled-as ticket n view place name (standing own name new)

own-settled : (ticket : ℕ) (o : Option ℕ) (d : Delivery) (s : Keeping)
    → queued_with ticket (own_queued o d s (applied d s)) + answers_with ticket (own_answers o d s (applied d s)) ≡ is_taken ticket o
own-settled ticket None d s = refl
own-settled ticket (Some n) d s = settled-by ticket n d.view (next_place s.followed.place) s.followed.own (applied d s) (early s.followed.own s.followed.copy (command_of d.message.payload))

abbrev KeepsTickets : Keeping → Keeping → Type 0
KeepsTickets old new = (ticket : ℕ) → waits_often ticket new + answered_often ticket new ≡ waits_often ticket old + answered_often ticket old

delivery-keeps : (s : Keeping) (d : Delivery) → KeepsTickets s (delivered d s)
delivery-keeps s d = λ ticket.
    let o = due d s.followed in
    let part = parted ticket s.followed.own (applied d s) d.view (next_place s.followed.place) s.queued in
    let once = own-settled ticket o d s in
    let taken = due-once d s.followed ticket in
    let first = answers-more ticket s.answers (late s d) in
    let then = answers-more ticket (s.answers ++ late s d) (own_answers o d s (applied d s)) in
    let more = queued-more ticket (filter (still_waits s.followed.own (applied d s)) s.queued) (own_queued o d s (applied d s)) in
    omega (arith, part, once, taken, first, then, more)

install-keeps : (s : Keeping) (i : Install) → KeepsTickets s (installed i s)
install-keeps s i = λ ticket.
    let part = parted ticket s.followed.own (table_in i s) i.view.id 0 s.queued in
    let all = backs (λ (a : Answer). a.ticket) (back i.view.id) (λ w. refl) s.followed.waiting ticket in
    let first = answers-more ticket s.answers (map (back i.view.id) s.followed.waiting) in
    let then = answers-more ticket (s.answers ++ map (back i.view.id) s.followed.waiting) (flat_map (told s.followed.own (table_in i s) i.view.id 0) s.queued) in
    omega (arith, part, all, first, then)

event-keeps : (s : Keeping) (h : Event) → KeepsTickets s (heard s h)
event-keeps s h = by-own (λ h (x y : Keeping). KeepsTickets s x) s.followed.own (λ d. delivered d s) (λ i. installed i s) s (λ d. delivered d s) (λ i. installed i s) s
    (λ d e. delivery-keeps s d) (λ i e. install-keeps s i) (λ h ticket. refl) h

pub forgets-nobody : (s : Keeping) (t : List Event) → KeepsTickets s (heard_all s t)
forgets-nobody s t = kept-all heard (KeepsTickets s) (λ u h (keeps : KeepsTickets s u) ticket. event-keeps u h ticket ∙ keeps ticket) s t (λ ticket. refl)
