-- A ticket whose message was sent is not told 'not done'.
use Rattle.std.proofs.Common.{◌≡◌, ℕ, ◌==◌, ◌&&◌, ◌||◌, Bool, true, false, not, nat_le, List, [], ◌∷◌, cond, Option, None, Some, count_by, refl, ◌∙◌, arith}
use Rattle.std.specs.List.{All, Contains, filter_map, cons_option, list_any}
use Rattle.std.specs.Option.{option_map, option_map_or}
use Rattle.std.proofs.lemmas.Bool.Decides.{nat_tests}
use Rattle.std.proofs.lemmas.List.Sums.{sum_by-cons, sum_by-append}
use Rattle.std.proofs.lemmas.List.Elements.{All-nil, All-cons, All-head, All-tail, All-contains, All-contains_itself, All-weaker}
use Rattle.tickets.specs.declared.tickets.Stage.{Stage}
use Rattle.tickets.specs.declared.tickets.Stage.TheVariants as stage
use Rattle.tickets.specs.declared.tickets.Pending.{Pending}
use Rattle.tickets.specs.declared.tickets.End.{End}
use Rattle.tickets.specs.declared.tickets.End.TheVariants as end
use Rattle.tickets.specs.declared.tickets.Ended.{Ended}
use Rattle.tickets.specs.declared.tickets.Change.{Change}
use Rattle.tickets.specs.declared.tickets.Change.TheVariants as change
use Rattle.tickets.specs.Ledger.{Ledger, after, after_all, end_by, ended_by, given_up, opened_by, stage_after, was_sent, handed_back, is_sent}
use Rattle.tickets.specs.Laws.{StaysTrue, WasSent, is_not_done, not_done_often, opens}
use Rattle.tickets.proofs.AllChanges.{all-after}

-- it is another ticket, or its message was sent
abbrev SentOf : ℕ → Pending → Type 0
SentOf ticket o = o.ticket ≡ ticket → was_sent o.stage ≡ true

-- `WasSent` says this of each open ticket, and the other way round
all-sent : (ticket : ℕ) (l : Ledger) → WasSent ticket l → All (SentOf ticket) l.pending
all-sent ticket l was = All-weaker (Contains l.pending) (SentOf ticket) (λ o at. was o at) l.pending (All-contains_itself l.pending)

each-sent : (ticket : ℕ) (l : Ledger) → All (SentOf ticket) l.pending → WasSent ticket l
each-sent ticket l all = λ o at. All-contains (SentOf ticket) l.pending o all at

-- the change `Sent` brings its ticket to a stage of one that was sent
sent-so : (ticket : ℕ) (o : Pending) → o.ticket ≡ ticket → was_sent (stage_after (change.Sent ticket) o) ≡ true
sent-so ticket o same = by (ticket == o.ticket) refl where
  by : (b : Bool) → (ticket == o.ticket) ≡ b → was_sent (cond b stage.Sent o.stage) ≡ true
  by true e = refl
  by false e = absurd (grind (arith, nat_tests))

-- a ticket was sent once its message is
pub is-sent : (l : Ledger) (ticket : ℕ) → WasSent ticket (after l (change.Sent ticket))
is-sent l ticket =
    each-sent ticket (after l (change.Sent ticket))
    (all-after (Contains l.pending) (SentOf ticket) l (change.Sent ticket) (λ o _ _ same. sent-so ticket o same) (All-contains_itself l.pending) (All-nil (SentOf ticket)))

-- what was sent stays so as it is handed back
back-sent : (s : Stage) → was_sent s ≡ true → was_sent (handed_back s) ≡ true
back-sent stage.Waiting was = was
back-sent stage.Sent was = refl
back-sent stage.Back was = refl

-- and by each change
moved-sent : (c : Change) (o : Pending) → was_sent o.stage ≡ true → was_sent (stage_after c o) ≡ true
moved-sent (change.Opened t until) o was = was
moved-sent (change.Sent t) o was = by (t == o.ticket) where
  by : (b : Bool) → was_sent (cond b stage.Sent o.stage) ≡ true
  by true = refl
  by false = was
moved-sent (change.HandedBack t) o was = by (t == o.ticket) where
  by : (b : Bool) → was_sent (cond b (handed_back o.stage) o.stage) ≡ true
  by true = back-sent o.stage was
  by false = was
moved-sent (change.Settled t) o was = was
moved-sent (change.Gone t) o was = was
moved-sent (change.Passed now) o was = was
moved-sent change.BegunAgain o was = was
moved-sent change.Closed o was = was

-- what a change opens is another ticket
opened-sent : (ticket : ℕ) (c : Change) → opens ticket c ≡ false → All (SentOf ticket) (opened_by c)
opened-sent ticket (change.Opened t until) other =
    let another : SentOf ticket (record { ticket = t; until = until; stage = stage.Waiting }) = λ same. absurd (grind (arith, nat_tests)) in
    All-cons (SentOf ticket) (record { ticket = t; until = until; stage = stage.Waiting }) [] another (All-nil (SentOf ticket))
opened-sent ticket (change.Sent t) other = All-nil _
opened-sent ticket (change.HandedBack t) other = All-nil _
opened-sent ticket (change.Settled t) other = All-nil _
opened-sent ticket (change.Gone t) other = All-nil _
opened-sent ticket (change.Passed now) other = All-nil _
opened-sent ticket change.BegunAgain other = All-nil _
opened-sent ticket change.Closed other = All-nil _

-- a ticket that was sent stays so through a change that does not open it again
stays-sent : (ticket : ℕ) (l : Ledger) (c : Change) → opens ticket c ≡ false → WasSent ticket l → WasSent ticket (after l c)
stays-sent ticket l c other was =
    each-sent ticket (after l c)
    (all-after (SentOf ticket) (SentOf ticket) l c (λ o _ sent same. moved-sent c o (sent same)) (all-sent ticket l was) (opened-sent ticket c other))

-- whether an end, if there is one, is 'not done'
abbrev tells_not_done : Option End → Bool
tells_not_done e = option_map_or is_not_done e false

-- a ticket that was sent and is given up does not end as 'not done'
not-given-up : (s : Stage) → was_sent s ≡ true → is_not_done (given_up s) ≡ false
not-given-up s was = rw was refl

-- nor is it ended so by any change
ends-otherwise : (c : Change) (o : Pending) → was_sent o.stage ≡ true → tells_not_done (end_by c o) ≡ false
ends-otherwise (change.Opened t until) o was = refl
ends-otherwise (change.Sent t) o was = refl
ends-otherwise (change.HandedBack t) o was = refl
ends-otherwise (change.Settled t) o was = by (t == o.ticket) where
  by : (b : Bool) → tells_not_done (cond b (Some end.Known) None) ≡ false
  by true = refl
  by false = refl
ends-otherwise (change.Gone t) o was = by ((t == o.ticket) && not (is_sent o.stage)) where
  by : (b : Bool) → tells_not_done (cond b (Some end.Withdrawn) None) ≡ false
  by true = refl
  by false = refl
ends-otherwise (change.Passed now) o was = by (nat_le o.until now) where
  by : (b : Bool) → tells_not_done (cond b (Some (given_up o.stage)) None) ≡ false
  by true = not-given-up o.stage was
  by false = refl
ends-otherwise change.BegunAgain o was = by (was_sent o.stage) where
  by : (b : Bool) → tells_not_done (cond b (Some end.Unknown) None) ≡ false
  by true = refl
  by false = refl
ends-otherwise change.Closed o was = not-given-up o.stage was

-- a change ends no ticket of this number as 'not done'
not-told-to : (ticket : ℕ) (c : Change) (o : Pending) → SentOf ticket o → ((o.ticket == ticket) && tells_not_done (end_by c o)) ≡ false
not-told-to ticket c o sent = by (o.ticket == ticket) refl where
  by : (b : Bool) → (o.ticket == ticket) ≡ b → (b && tells_not_done (end_by c o)) ≡ false
  by true e = ends-otherwise c o (sent (grind (arith, nat_tests)))
  by false e = refl

abbrev not_done_in : ℕ → List Ended → ℕ
not_done_in ticket es = count_by (λ e. (e.ticket == ticket) && is_not_done e.end) es

-- nor is it among those that a change ends
none-told : (ticket : ℕ) (c : Change) (os : List Pending) → All (SentOf ticket) os → not_done_in ticket (filter_map (ended_by c) os) ≡ 0
none-told ticket c [] all = refl
none-told ticket c (o ∷ os) all = by (end_by c o) (not-told-to ticket c o (All-head (SentOf ticket) o os all)) (none-told ticket c os (All-tail (SentOf ticket) o os all)) where
  es : List Ended
  es = filter_map (ended_by c) os

  by : (e : Option End) → ((o.ticket == ticket) && tells_not_done e) ≡ false → not_done_in ticket es ≡ 0 → not_done_in ticket (cons_option (option_map (λ x. record { ticket = o.ticket; end = x }) e) es) ≡ 0
  by None other more = more
  by (Some x) other more =
      let this = sum_by-cons (λ (e : Ended). cond ((e.ticket == ticket) && is_not_done e.end) 1 0) (record { ticket = o.ticket; end = x }) es in
      omega (arith, rw other at this, more)

-- one change adds no 'not done' of a ticket that was sent
one-change : (ticket : ℕ) (l : Ledger) (c : Change) → WasSent ticket l → not_done_often ticket (after l c) ≡ not_done_often ticket l
one-change ticket l c was =
    let told = sum_by-append (λ (e : Ended). cond ((e.ticket == ticket) && is_not_done e.end) 1 0) l.ended (filter_map (ended_by c) l.pending) in
    let none = none-told ticket c l.pending (all-sent ticket l was) in
    omega (arith, told, none)

-- whatever happens afterwards, if the ticket is not opened again
pub stays-true : (l : Ledger) (cs : List Change) → StaysTrue l cs (after_all l cs)
stays-true l [] = λ ticket was none. refl
stays-true l (c ∷ cs) = λ ticket was none. by ticket was (opens ticket c) refl (stays-true (after l c) cs ticket) none where
  by : (ticket : ℕ) → WasSent ticket l → (b : Bool) → opens ticket c ≡ b
      → (WasSent ticket (after l c) → list_any (opens ticket) cs ≡ false → not_done_often ticket (after_all (after l c) cs) ≡ not_done_often ticket (after l c))
      → (b || list_any (opens ticket) cs) ≡ false → not_done_often ticket (after_all (after l c) cs) ≡ not_done_often ticket l
  by ticket was true e others none = absurd cc
  by ticket was false e others none = others (stays-sent ticket l c e was) none ∙ one-change ticket l c was
