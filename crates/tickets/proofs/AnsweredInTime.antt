-- No open ticket's time is over once that was looked for, and no change gives a ticket more time.
use Rattle.std.proofs.Common.{◌≡◌, inl, inr, ◌<◌, ℕ, Bool, true, false, not, nat_le, List, [], ◌∷◌, ◌++◌, Some, None, cond, refl, ◌∙◌, arith}
use Rattle.std.specs.List.{All, Contains}
use Rattle.std.specs.Option.{is_some}
use Rattle.std.proofs.lemmas.Bool.Decides.{nat_tests}
use Rattle.std.proofs.lemmas.List.Sums.{fold_push}
use Rattle.std.proofs.lemmas.List.Elements.{All-nil, All-cons, All-contains, All-contains_itself, Contains-append_left, Contains-append_right}
use Rattle.tickets.specs.declared.tickets.Pending.{Pending}
use Rattle.tickets.specs.declared.tickets.Stage.TheVariants as stage
use Rattle.tickets.specs.declared.tickets.Change.{Change}
use Rattle.tickets.specs.declared.tickets.Change.TheVariants as change
use Rattle.tickets.specs.Ledger.{Ledger, after, after_all, given_up, opened_by, stays_open}
use Rattle.tickets.specs.Laws.{HasItsTime, IsInTime}
use Rattle.tickets.proofs.AllChanges.{all-after}

-- who stays open as a time passes has more
stays-in-time : (now : ℕ) (o : Pending) → stays_open (change.Passed now) o ≡ true → now < o.until
stays-in-time now o stays = by (nat_le o.until now) refl stays where
  by : (b : Bool) → nat_le o.until now ≡ b → not (is_some (cond b (Some (given_up o.stage)) None)) ≡ true → now < o.until
  by true e h = absurd cc
  by false e h = grind (arith, nat_tests)

-- once a time has passed, each open ticket has more
in-time : (now : ℕ) (l : Ledger) → IsInTime now (after l (change.Passed now))
in-time now l = λ o at.
    All-contains (λ (p : Pending). now < p.until) (after l (change.Passed now)).pending o
    (all-after (Contains l.pending) (λ p. now < p.until) l (change.Passed now) (λ p stays _. stays-in-time now p stays) (All-contains_itself l.pending) (All-nil (λ (p : Pending). now < p.until))) at

-- none is late, once its time was looked for
pub none-is-late : (l : Ledger) (cs : List Change) (now : ℕ) → IsInTime now (after_all l (cs ++ change.Passed now ∷ []))
none-is-late l cs now = rw (fold_push after l cs (change.Passed now)) (in-time now (after_all l cs))

-- what a change opens has the time that the change says
opened-so : (l : Ledger) (c : Change) → All (HasItsTime l (c ∷ [])) (opened_by c)
opened-so l (change.Opened t until) =
    let c = change.Opened t until in
    let first : Contains (c ∷ []) c = (0, omega arith, refl) in
    All-cons (HasItsTime l (c ∷ [])) (record { ticket = t; until = until; stage = stage.Waiting }) [] (inr first) (All-nil (HasItsTime l (c ∷ [])))
opened-so l (change.Sent t) = All-nil _
opened-so l (change.HandedBack t) = All-nil _
opened-so l (change.Settled t) = All-nil _
opened-so l (change.Gone t) = All-nil _
opened-so l (change.Passed now) = All-nil _
opened-so l change.BegunAgain = All-nil _
opened-so l change.Closed = All-nil _

-- after one change an open ticket has the time that it had, or that it was opened with
one-keeps : (l : Ledger) (c : Change) (o : Pending) → Contains (after l c).pending o → HasItsTime l (c ∷ []) o
one-keeps l c o at =
    All-contains (HasItsTime l (c ∷ [])) (after l c).pending o
    (all-after (Contains l.pending) (HasItsTime l (c ∷ [])) l c (λ p _ was. inl (p, was, refl, refl)) (All-contains_itself l.pending) (opened-so l c)) at

-- no change gives a ticket more time
pub times-stay : (l : Ledger) (cs : List Change) (o : Pending) → Contains (after_all l cs).pending o → HasItsTime l cs o
times-stay l [] o at = inl (o, at, refl, refl)
times-stay l (c ∷ cs) o at = by (times-stay (after l c) cs o at) where
  first : (p : Pending) → p.ticket ≡ o.ticket → p.until ≡ o.until → HasItsTime l (c ∷ []) p → HasItsTime l (c ∷ cs) o
  first p t u (inl was) = inl (was.0, was.1, was.2 ∙ t, was.3 ∙ u)
  first p t u (inr opened) = inr (Contains-append_left (c ∷ []) cs (change.Opened o.ticket o.until) (rw (← t, ← u) opened))

  by : HasItsTime (after l c) cs o → HasItsTime l (c ∷ cs) o
  by (inl was) = first was.0 was.2 was.3 (one-keeps l c was.0 was.1)
  by (inr later) = inr (Contains-append_right (c ∷ []) cs (change.Opened o.ticket o.until) later)
