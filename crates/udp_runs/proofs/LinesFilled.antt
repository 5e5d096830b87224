-- What waits after a piece of the lines came.
use Rattle.std.proofs.Common.{◌≡◌, ℕ, Bool, true, false, Option, Some, None, Result, Ok, Err, List, [], ◌++◌, refl, sym, ap}
use Rattle.std.specs.Result.{IsErr}
use Rattle.std.proofs.lemmas.List.{append-nil}
use Rattle.udp_runs.specs.Outboxes.{OutboxModel, with_more}
use Rattle.udp_runs.specs.Came.{Fills, Gives}

with-none : (w : List ℕ) (b : Bool) → record { waiting = w; is_cut = b } ≡ with_more [] (record { waiting = w; is_cut = b })
with-none w true = ap (λ (l : List ℕ). record { waiting = l; is_cut = true }) (sym (append-nil w))
with-none w false = ap (λ (l : List ℕ). record { waiting = l; is_cut = false }) (sym (append-nil w))

-- no piece came
pub fills-none : (E : Type 0) (came : Option (List ℕ)) (o : OutboxModel) → Fills {E = E} came came o o (Ok tt)
fills-none E None o = refl
fills-none E (Some came) o = ([], ap Some (sym (append-nil came)), with-none o.waiting o.is_cut)

-- none came, and memory was refused
pub fills-err : {E : Type 0} (came : Option (List ℕ)) (o o' : OutboxModel) (r : Result Unit E) → IsErr r → Fills {E = E} came came o o' r
fills-err came o o' (Ok x) is = absurd (let bad : false ≡ true = is in cc)
fills-err None o o' (Err e) is = refl
fills-err (Some came) o o' (Err e) is = ([], ap Some (sym (append-nil came)))

-- one came, and is lost
pub fills-lost : {E F : Type 0} (came came' : Option (List ℕ)) (text text' : List ℕ) (o o' : OutboxModel) (g : Result Unit F) (r : Result Unit E) → IsErr r → Gives {E = F} came came' text text' g
    → Fills {E = E} came came' o o' r
fills-lost came came' text text' o o' g (Ok x) is gave = absurd (let bad : false ≡ true = is in cc)
fills-lost None came' text text' o o' g (Err e) is gave = gave
fills-lost (Some came) came' text text' o o' (Ok x) (Err e) is gave = (gave.0, gave.2)
fills-lost (Some came) came' text text' o o' (Err f) (Err e) is gave = gave
