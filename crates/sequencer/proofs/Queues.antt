-- The queue that is served, and what it gives.
use Rattle.std.proofs.Common.{◌≡◌, ℕ, zero, suc, get_or, Bool, true, false, cond, List, [], ◌∷◌, Option, Some, None, refl, sym, ap, ◌∙◌, arith}
use Rattle.std.specs.Prelude.{if◌then◌else◌, slice_set, MatchOption}
use Rattle.std.proofs.lemmas.List.{set-get_or}
use Rattle.wire_values.specs.Values.{Entry}
use Rattle.std.specs.List.{find}
use Rattle.std.specs.Option.{option_map_or}
use Rattle.address.specs.Ids.{Address}
use Rattle.sequencer.specs.Queues.{Queue, OrdererModel, has_next, next_of, served, first_next, change_first, takes, offered, is_from, is_taken, forwarded, waiting_with}
use Rattle.sequencer.proofs.FirstThatPasses.{IsFirst, IsNone, change-at}

-- the first queue whose next message waits gives the next message of all
pub first-next-at : (queues : List Queue) (i : ℕ) (q : Queue) → IsFirst has_next queues i q → first_next queues ≡ next_of q
first-next-at [] i q t = let e : None ≡ Some q = t.at in cc
first-next-at (p ∷ queues) zero q t =
    let e : p ≡ q = (let s : Some p ≡ Some q = t.at in cc) in
    ap (λ b. if b then next_of p else first_next queues) (ap has_next e ∙ t.passes) ∙ ap next_of e
first-next-at (p ∷ queues) (suc i) q t =
    ap (λ b. if b then next_of p else first_next queues) (t.before 0 p (omega arith) refl)
    ∙ first-next-at queues i q (record { at = t.at; passes = t.passes; before = λ k z l h. t.before (suc k) z (omega arith) h })

pub first-next-none : (queues : List Queue) → IsNone has_next queues → first_next queues ≡ None
first-next-none [] n = refl
first-next-none (p ∷ queues) n =
    ap (λ b. if b then next_of p else first_next queues) (n.fails 0 p refl)
    ∙ first-next-none queues (record { fails = λ k z h. n.fails (suc k) z h })

-- what becomes of all queues, where the one that has the next message is asked for it
pub served-at : (r : Option Entry) (queues : List Queue) (i : ℕ) (q left : Queue) → IsFirst has_next queues i q → q ≡ get_or queues i q
    → MatchOption r (left ≡ q) (λ _. left ≡ served q)
    → MatchOption r (slice_set queues i left ≡ queues) (λ _. slice_set queues i left ≡ change_first has_next served queues)
served-at None queues i q left t e h = ap (slice_set queues i) (h ∙ e) ∙ set-get_or queues i q
served-at (Some x) queues i q left t e h = ap (slice_set queues i) h ∙ change-at has_next served queues i q t

-- what becomes of all queues, where the sender's was offered a message
pub offered-at : (test : Queue → Bool) (f : Queue → Queue) (queues : List Queue) (i : ℕ) (q left : Queue) → IsFirst test queues i q → left ≡ f q → slice_set queues i left ≡ change_first test f queues
offered-at test f queues i q left t h = ap (slice_set queues i) h ∙ change-at test f queues i q t

-- a message that is not taken changes nothing
unchanged : (p : Address) (n : ℕ) (x : List ℕ) (queues : List Queue) → option_map_or (takes n) (find (is_from p) queues) false ≡ false → queues ≡ change_first (is_from p) (offered n x) queues
unchanged p n x [] h = refl
unchanged p n x (q ∷ queues) h = by (is_from p q) (unchanged p n x queues) h
  where
    by : (b : Bool) → (option_map_or (takes n) (find (is_from p) queues) false ≡ false → queues ≡ change_first (is_from p) (offered n x) queues) → option_map_or (takes n) (cond b (Some q) (find (is_from p) queues)) false ≡ false
        → q ∷ queues ≡ (if b then offered n x q ∷ queues else q ∷ change_first (is_from p) (offered n x) queues)
    by true rest h = sym (ap (λ b. (if b then record { sender = q.sender; ordered = q.ordered; waiting = waiting_with (record { number = n; payload = x }) q.waiting } else q) ∷ queues) h)
    by false rest h = ap (λ more. q ∷ more) (rest h)

pub not-taken : (p : Address) (n : ℕ) (x : List ℕ) (w : OrdererModel) → is_taken p n w ≡ false → w ≡ forwarded p n x w
not-taken p n x w h = let more : List Queue → OrdererModel = λ queues. record { ordered = w.ordered; queues = queues } in ap more (unchanged p n x w.queues h)
