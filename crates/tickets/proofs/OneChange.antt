-- A change that ends no ticket moves each; one that moves none ends some; and one that opens a ticket leaves the others as they are.
use Rattle.std.proofs.Common.{◌≡◌, ℕ, List, [], ◌∷◌, ◌++◌, map, None, refl, ap, ◌∙◌, append-nil}
use Rattle.std.specs.List.{filter, filter_map}
use Rattle.tickets.specs.declared.tickets.Pending.{Pending}
use Rattle.tickets.specs.declared.tickets.Ended.{Ended}
use Rattle.tickets.specs.declared.tickets.Change.{Change}
use Rattle.tickets.specs.declared.tickets.Change.TheVariants as change
use Rattle.tickets.specs.declared.tickets.Stage.TheVariants as stage
use Rattle.tickets.specs.Ledger.{Ledger, after, end_by, ended_by, moved, opened_by, stays_open}

abbrev pub of_lists : List Pending → List Ended → Ledger
of_lists os es = record { pending = os; ended = es }

-- where a change ends none, all stay
all-stay : (c : Change) → ((o : Pending) → end_by c o ≡ None) → (os : List Pending) → filter (stays_open c) os ≡ os
all-stay c none [] = refl
all-stay c none (o ∷ os) = rw (none o) (ap (λ (l : List Pending). o ∷ l) (all-stay c none os))

-- and no end is told
none-ends : (c : Change) → ((o : Pending) → end_by c o ≡ None) → (os : List Pending) → filter_map (ended_by c) os ≡ []
none-ends c none [] = refl
none-ends c none (o ∷ os) = rw (none o) (none-ends c none os)

-- where a change moves none, each is as it was
none-moves : (c : Change) → ((o : Pending) → moved c o ≡ o) → (os : List Pending) → map (moved c) os ≡ os
none-moves c still [] = refl
none-moves c still (o ∷ os) = ap (λ (p : Pending). p ∷ map (moved c) os) (still o) ∙ ap (λ (l : List Pending). o ∷ l) (none-moves c still os)

-- a change that only moves tickets
pub moves : (l : Ledger) (c : Change) → ((o : Pending) → end_by c o ≡ None) → opened_by c ≡ [] → record l { pending = map (moved c) l.pending } ≡ after l c
moves l c none opened = rw (all-stay c none l.pending, none-ends c none l.pending, opened, append-nil (map (moved c) l.pending), append-nil l.ended) refl

-- a change that only ends tickets
pub ends : (l : Ledger) (c : Change) → ((o : Pending) → moved c o ≡ o) → opened_by c ≡ [] → of_lists (filter (stays_open c) l.pending) (l.ended ++ filter_map (ended_by c) l.pending) ≡ after l c
ends l c still opened = rw (none-moves c still (filter (stays_open c) l.pending), opened, append-nil (filter (stays_open c) l.pending)) refl

-- a change that only opens a ticket
pub opens : (l : Ledger) (ticket until : ℕ) → of_lists (l.pending ++ record { ticket = ticket; until = until; stage = stage.Waiting } ∷ []) l.ended ≡ after l (change.Opened ticket until)
opens l ticket until =
    let c = change.Opened ticket until in
    rw (all-stay c (λ o. refl) l.pending, none-ends c (λ o. refl) l.pending, none-moves c (λ o. refl) l.pending, append-nil l.ended) refl
