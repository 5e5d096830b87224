-- Who stands at a lock stands on until it leaves, and none overtakes it.
use Rattle.std.proofs.Common.{◌≡◌, ℕ, Bool, true, false, cond, not, ◌&&◌, ◌||◌, List, [], ◌∷◌, ◌++◌, Option, Some, ◌⊎◌, inl, inr, refl, sym, ap, subst, ◌∙◌}
use Rattle.std.specs.List.{filter, AllByRecursion, list_any}
use Rattle.std.specs.Option.{option_map, option_map_or}
use Rattle.std.proofs.lemmas.Bool.{or_parts}
use Rattle.std.proofs.lemmas.List.{append-nil}
use Rattle.address.specs.Ids.{Address, ViewId, same_address}
use Rattle.address.proofs.SameIds.{same_address-true}
use Rattle.view.specs.Members.{stands_in}
use Rattle.keyed_state.specs.declared.token.Token.{Token}
use Rattle.lock_table.specs.declared.command.Command.{Command}
use Rattle.keyed_state.specs.Tokens.{next_token}
use Rattle.lock_table.specs.Locks.{Lock, Table, IsTable, queue, lock_of, left_to, passed_on}
use Rattle.lock_table.specs.Commands.{command_of}
use Rattle.lock_table.specs.Turns.{Message, IsMessage, after, after_all, token_of, queue_of, leaves_by, leaves, comes_by, comes, stays, ahead, StandsOn, Grants}
use Rattle.lock_table.proofs.MessagesTurnLocks.{IsTurn, Unchanged, Aside, Free, Granted, Joined, Left, turn, filter-all}
use Rattle.lock_table.proofs.HoldersHold.{after-is-table}

-- ---- a queue after a message

pub queue-left : (keep : Address → Bool) (view : ViewId) (last : Token) (l : Lock) → option_map_or queue (left_to keep view last l).lock [] ≡ filter keep (queue l)
queue-left keep view last l = by (keep l.holder) where
  by-first : (ps : List Address) → option_map_or queue (passed_on last (next_token view last) ps).lock [] ≡ ps
  by-first [] = refl
  by-first (p ∷ ps) = refl

  by : (b : Bool) → option_map_or queue (cond b (record { lock = Some (record { holder = l.holder; token = l.token; waiters = filter keep l.waiters }); last = last }) (passed_on last (next_token view last) (filter keep l.waiters))).lock []
      ≡ cond b (l.holder ∷ filter keep l.waiters) (filter keep l.waiters)
  by true = refl
  by false = by-first (filter keep l.waiters)

abbrev at-lock : Option Lock → List Address
at-lock o = option_map_or queue o []

pub queue-turn : (name : List ℕ) (from : Address) (o : Option Command) (s t : Table) → IsTurn name from o s t
    → (t ≡ s) ⊎ (at-lock (lock_of name t) ≡ filter (λ p. not (leaves_by name p from o)) (at-lock (lock_of name s)) ++ comes_by name from (at-lock (lock_of name s)) o)
queue-turn name from o s t (Unchanged e) = inl e
queue-turn name from o s t (Aside at none comes) =
    let kept = filter-all (λ p. not (leaves_by name p from o)) (λ p. ap not (none p)) (at-lock (lock_of name s)) in
    inr (ap at-lock at ∙ sym (rw (comes, kept) (append-nil (at-lock (lock_of name s)))))
queue-turn name from o s t (Free before new comes) = inr (rw (before, new, comes) refl)
queue-turn name from o s t (Granted view before new none comes) = inr (rw (before, new, comes) refl)
queue-turn name from o s t (Joined x at new none comes) =
    let kept = filter-all (λ p. not (leaves_by name p from o)) (λ p. ap not (none p)) (queue x) in
    inr (rw (new, at, comes, kept) refl)
queue-turn name from o s t (Left view last x at up new comes) =
    inr (rw (new, at, comes) (queue-left (λ p. not (leaves_by name p from o)) view last x ∙ sym (append-nil (filter (λ p. not (leaves_by name p from o)) (queue x)))))

-- ---- those ahead of one

ahead-filter : (keep : Address → Bool) (p : Address) (qs : List Address) → keep p ≡ true → ahead p (filter keep qs) ≡ filter keep (ahead p qs)
ahead-filter keep p [] k = refl
ahead-filter keep p (q ∷ qs) k = by (same_address p q) refl (keep q) refl (ahead-filter keep p qs k) where
  by : (b : Bool) → same_address p q ≡ b → (c : Bool) → keep q ≡ c → ahead p (filter keep qs) ≡ filter keep (ahead p qs)
      → ahead p (cond c (q ∷ filter keep qs) (filter keep qs)) ≡ filter keep (cond b [] (q ∷ ahead p qs))
  by true same true kept rest = rw same refl
  by true same false kept rest = let n = sym kept ∙ ap keep (sym (same_address-true p q same)) ∙ k in absurd cc
  by false same true kept rest = rw (same, kept) (ap (λ (l : List Address). q ∷ l) rest)
  by false same false kept rest = rw kept rest

stands-filter : (keep : Address → Bool) (p : Address) (qs : List Address) → keep p ≡ true → stands_in p qs ≡ true → stands_in p (filter keep qs) ≡ true
stands-filter keep p [] k st = st
stands-filter keep p (q ∷ qs) k st = by (same_address p q) refl (keep q) refl (stands-filter keep p qs k) st where
  by : (b : Bool) → same_address p q ≡ b → (c : Bool) → keep q ≡ c → (stands_in p qs ≡ true → stands_in p (filter keep qs) ≡ true) → (b || stands_in p qs) ≡ true → stands_in p (cond c (q ∷ filter keep qs) (filter keep qs)) ≡ true
  by true same true kept rest st = rw same refl
  by true same false kept rest st = let n = sym kept ∙ ap keep (sym (same_address-true p q same)) ∙ k in absurd cc
  by false same true kept rest st = rw same (rest st)
  by false same false kept rest st = rest st

ahead-append : (p : Address) (qs rs : List Address) → stands_in p qs ≡ true → ahead p (qs ++ rs) ≡ ahead p qs
ahead-append p [] rs st = absurd cc
ahead-append p (q ∷ qs) rs st = by (same_address p q) (ahead-append p qs rs) st where
  by : (b : Bool) → (stands_in p qs ≡ true → ahead p (qs ++ rs) ≡ ahead p qs) → (b || stands_in p qs) ≡ true → cond b [] (q ∷ ahead p (qs ++ rs)) ≡ cond b [] (q ∷ ahead p qs)
  by true rest st = refl
  by false rest st = ap (λ (l : List Address). q ∷ l) (rest st)

stands-append : (p : Address) (qs rs : List Address) → stands_in p qs ≡ true → stands_in p (qs ++ rs) ≡ true
stands-append p [] rs st = absurd cc
stands-append p (q ∷ qs) rs st = by (same_address p q) (stands-append p qs rs) st where
  by : (b : Bool) → (stands_in p qs ≡ true → stands_in p (qs ++ rs) ≡ true) → (b || stands_in p qs) ≡ true → (b || stands_in p (qs ++ rs)) ≡ true
  by true rest st = refl
  by false rest st = rest st

filter-twice : (f g : Address → Bool) (xs : List Address) → filter g (filter f xs) ≡ filter (λ x. f x && g x) xs
filter-twice f g [] = refl
filter-twice f g (x ∷ xs) = by (f x) (filter-twice f g xs) where
  by : (b : Bool) → filter g (filter f xs) ≡ filter (λ y. f y && g y) xs → filter g (cond b (x ∷ filter f xs) (filter f xs)) ≡ cond (b && g x) (x ∷ filter (λ y. f y && g y) xs) (filter (λ y. f y && g y) xs)
  by true rest = ap (λ (l : List Address). cond (g x) (x ∷ l) l) rest
  by false rest = rest

-- ---- one stands on

on-still : (p : Address) (qs : List Address) → stands_in p qs ≡ true → StandsOn p qs qs
on-still p qs st = record { stands = st; left = λ q. true; before = sym (filter-all (λ q. true) (λ q. refl) (ahead p qs)) }

on-again : (p : Address) (a b c : List Address) → StandsOn p a b → StandsOn p b c → StandsOn p a c
on-again p a b c x y = record {
  stands = y.stands;
  left = λ q. x.left q && y.left q;
  before = y.before ∙ ap (filter y.left) x.before ∙ filter-twice x.left y.left (ahead p a);
}

on-one : (keep : Address → Bool) (p : Address) (qs rs : List Address) → keep p ≡ true → stands_in p qs ≡ true → StandsOn p qs (filter keep qs ++ rs)
on-one keep p qs rs k st =
    let still = stands-filter keep p qs k st in
    record { stands = stands-append p (filter keep qs) rs still; left = keep; before = ahead-append p (filter keep qs) rs still ∙ ahead-filter keep p qs k }

pub queue-after : (s : Table) (m : Message) (name : List ℕ) → IsTable s → (after s m ≡ s) ⊎ (queue_of name (after s m) ≡ filter (stays name m) (queue_of name s) ++ comes name (queue_of name s) m)
queue-after s m name is = queue-turn name m.from (command_of m.payload) s (after s m) (turn name m.from (command_of m.payload) s is.rises)

stands-one : (s : Table) (m : Message) (name : List ℕ) (p : Address) → IsTable s → stands_in p (queue_of name s) ≡ true → leaves name p m ≡ false → StandsOn p (queue_of name s) (queue_of name (after s m))
stands-one s m name p is st stay = by (queue-after s m name is) where
  by : (after s m ≡ s) ⊎ (queue_of name (after s m) ≡ filter (stays name m) (queue_of name s) ++ comes name (queue_of name s) m) → StandsOn p (queue_of name s) (queue_of name (after s m))
  by (inl same) = subst (λ (t : Table). StandsOn p (queue_of name s) (queue_of name t)) (sym same) (on-still p (queue_of name s) st)
  by (inr is) = subst (λ (qs : List Address). StandsOn p (queue_of name s) qs) (sym is) (on-one (stays name m) p (queue_of name s) (comes name (queue_of name s) m) (ap not stay) st)

pub stands-on : (ms : List Message) (s : Table) (name : List ℕ) (p : Address) → IsTable s → AllByRecursion IsMessage ms → stands_in p (queue_of name s) ≡ true → list_any (leaves name p) ms ≡ false → StandsOn p (queue_of name s) (queue_of name (after_all s ms))
stands-on [] s name p is all st stay = on-still p (queue_of name s) st
stands-on (m ∷ ms) s name p is all st stay =
    let parts = or_parts (leaves name p m) (list_any (leaves name p) ms) stay in
    let one = stands-one s m name p is st parts.0 in
    let rest = stands-on ms (after s m) name p (after-is-table s m is all.0) all.1 one.stands parts.1 in
    on-again p (queue_of name s) (queue_of name (after s m)) (queue_of name (after_all (after s m) ms)) one rest

-- a grant is to the first of those who stand there still
pub granted-first : (s : Table) (m : Message) (name : List ℕ) (l : Lock) → IsTable s → Grants name m s l → queue l ≡ filter (stays name m) (queue_of name s) ++ comes name (queue_of name s) m
granted-first s m name l is grant = by (queue-after s m name is) where
  by : (after s m ≡ s) ⊎ (queue_of name (after s m) ≡ filter (stays name m) (queue_of name s) ++ comes name (queue_of name s) m) → queue l ≡ filter (stays name m) (queue_of name s) ++ comes name (queue_of name s) m
  by (inl same) = absurd (grant.new (ap (token_of name) (sym same) ∙ ap (option_map (λ x. x.token)) grant.stands))
  by (inr is) = ap at-lock (sym grant.stands) ∙ is
