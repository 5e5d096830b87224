-- Each ticket is open or has ended as often as it was opened: none is forgotten, and none ends twice.
use Rattle.std.proofs.Common.{◌≡◌, ℕ, ◌+◌, ◌==◌, not, List, [], ◌∷◌, ◌++◌, map, cond, Option, None, Some, count_by, refl, arith}
use Rattle.std.specs.List.{filter, filter_map, cons_option}
use Rattle.std.specs.Option.{option_map, is_some}
use Rattle.std.proofs.lemmas.List.Sums.{sum_by-cons, sum_by-append}
use Rattle.tickets.specs.declared.tickets.Pending.{Pending}
use Rattle.tickets.specs.declared.tickets.End.{End}
use Rattle.tickets.specs.declared.tickets.Ended.{Ended}
use Rattle.tickets.specs.declared.tickets.Change.{Change}
use Rattle.tickets.specs.declared.tickets.Change.TheVariants as change
use Rattle.tickets.specs.Ledger.{Ledger, after, after_all, end_by, ended_by, moved, opened_by, stays_open}
use Rattle.tickets.specs.Laws.{IsEachOnce, opens, open_often, ended_often}

-- how often a ticket is among those
abbrev open_in : ℕ → List Pending → ℕ
open_in ticket os = count_by (λ o. o.ticket == ticket) os

abbrev ended_in : ℕ → List Ended → ℕ
ended_in ticket es = count_by (λ e. e.ticket == ticket) es

-- the counts of two lists, one behind the other, are added
open-more : (ticket : ℕ) (os ps : List Pending) → open_in ticket (os ++ ps) ≡ open_in ticket os + open_in ticket ps
open-more ticket os ps = sum_by-append (λ o. cond (o.ticket == ticket) 1 0) os ps

ended-more : (ticket : ℕ) (es fs : List Ended) → ended_in ticket (es ++ fs) ≡ ended_in ticket es + ended_in ticket fs
ended-more ticket es fs = sum_by-append (λ e. cond (e.ticket == ticket) 1 0) es fs

-- each that was open stays open or ends, once
goes-on : (ticket : ℕ) (c : Change) (os : List Pending) → open_in ticket (map (moved c) (filter (stays_open c) os)) + ended_in ticket (filter_map (ended_by c) os) ≡ open_in ticket os
goes-on ticket c [] = refl
goes-on ticket c (o ∷ os) = by (end_by c o) (goes-on ticket c os) where
  rest : List Pending
  rest = filter (stays_open c) os

  es : List Ended
  es = filter_map (ended_by c) os

  by : (e : Option End) → open_in ticket (map (moved c) rest) + ended_in ticket es ≡ open_in ticket os
      → open_in ticket (map (moved c) (cond (not (is_some e)) (o ∷ rest) rest)) + ended_in ticket (cons_option (option_map (λ x. record { ticket = o.ticket; end = x }) e) es) ≡ open_in ticket (o ∷ os)
  by None more =
      let was = sum_by-cons (λ (p : Pending). cond (p.ticket == ticket) 1 0) o os in
      let is = sum_by-cons (λ (p : Pending). cond (p.ticket == ticket) 1 0) (moved c o) (map (moved c) rest) in
      omega (arith, more, was, is)
  by (Some x) more =
      let was = sum_by-cons (λ (p : Pending). cond (p.ticket == ticket) 1 0) o os in
      let is = sum_by-cons (λ (e : Ended). cond (e.ticket == ticket) 1 0) (record { ticket = o.ticket; end = x }) es in
      omega (arith, more, was, is)

-- a change opens the ticket that it is said to open
opened-once : (ticket : ℕ) (c : Change) → open_in ticket (opened_by c) ≡ cond (opens ticket c) 1 0
opened-once ticket (change.Opened t until) = omega arith
opened-once ticket (change.Sent t) = refl
opened-once ticket (change.HandedBack t) = refl
opened-once ticket (change.Settled t) = refl
opened-once ticket (change.Gone t) = refl
opened-once ticket (change.Passed now) = refl
opened-once ticket change.BegunAgain = refl
opened-once ticket change.Closed = refl

-- one change: each ticket is open or ended as often as before, and once more if the change opens it
one-change : (ticket : ℕ) (l : Ledger) (c : Change) → open_often ticket (after l c) + ended_often ticket (after l c) ≡ open_often ticket l + ended_often ticket l + cond (opens ticket c) 1 0
one-change ticket l c =
    let running = open-more ticket (map (moved c) (filter (stays_open c) l.pending)) (opened_by c) in
    let ended = ended-more ticket l.ended (filter_map (ended_by c) l.pending) in
    omega (arith, running, ended, goes-on ticket c l.pending, opened-once ticket c)

-- all changes: no ticket is forgotten, and none ends twice
pub forgets-none : (l : Ledger) (cs : List Change) → IsEachOnce l cs (after_all l cs)
forgets-none l [] = λ ticket. omega arith
forgets-none l (c ∷ cs) = λ ticket.
    let first = one-change ticket l c in
    let others = forgets-none (after l c) cs ticket in
    let counted = sum_by-cons (λ d. cond (opens ticket d) 1 0) c cs in
    omega (arith, first, others, counted)
