-- What each change keeps, all keep; and what holds of each open ticket after a change.
use Rattle.std.proofs.Common.{◌≡◌, true, List, [], ◌∷◌, map, get_or}
use Rattle.std.specs.List.{All, filter}
use Rattle.std.proofs.lemmas.List.Elements.{All-append, All-filter, All-map, filter_passes}
use Rattle.tickets.specs.declared.tickets.Pending.{Pending}
use Rattle.tickets.specs.declared.tickets.Change.{Change}
use Rattle.tickets.specs.Ledger.{Ledger, after, after_all, moved, opened_by, stays_open}

-- what each change keeps, all keep
pub kept-all : (P : Ledger → Type 0) → ((l : Ledger) (c : Change) → P l → P (after l c)) → (l : Ledger) (cs : List Change) → P l → P (after_all l cs)
kept-all P one l [] p = p
kept-all P one l (c ∷ cs) p = kept-all P one (after l c) cs (one l c p)

-- an open ticket was open before and stays open, or was opened by the change
pub all-after : (P Q : Pending → Type 0) (l : Ledger) (c : Change) → ((o : Pending) → stays_open c o ≡ true → P o → Q (moved c o)) → All P l.pending → All Q (opened_by c) → All Q (after l c).pending
all-after P Q l c stays old opened =
    let kept = filter (stays_open c) l.pending in
    All-append Q (map (moved c) kept) (opened_by c)
    (All-map Q (moved c) kept (λ k d within. stays (get_or kept k d) (filter_passes (stays_open c) l.pending k d within) (All-filter (stays_open c) P l.pending old k d within))) opened
