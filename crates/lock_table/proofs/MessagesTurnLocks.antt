-- What one message makes of a lock.
use Rattle.std.proofs.Common.{◌≡◌, ℕ, Bool, true, false, cond, leb, not, ◌&&◌, List, [], ◌∷◌, ◌++◌, Option, Some, None, refl, sym, ap, subst, ◌∙◌}
use Rattle.std.specs.List.{filter}
use Rattle.std.specs.Option.{option_map_or}
use Rattle.std.specs.Ordering.{match_ordering, is_eq}
use Rattle.std.specs.declared.cmp.Ordering.{Ordering}
use Rattle.std.specs.declared.cmp.Ordering.TheVariants.{Less, Equal, Greater}
use Rattle.std.proofs.lemmas.Bool.{and_right}
use Rattle.std.proofs.lemmas.List.Elements.{filter_agree}
use Rattle.address.specs.declared.limits.TheConstants.{STATE}
use Rattle.address.specs.Ids.{Address, ViewId, same_address}
use Rattle.view.specs.Members.{View, stands_in}
use Rattle.keyed_state.specs.declared.entries.KeyedEntry.{KeyedEntry}
use Rattle.keyed_state.specs.Entries.{key_cmp, value_of, put, Rises}
use Rattle.keyed_state.specs.EntryLaws.{below-all, equal-all}
use Rattle.keyed_state.proofs.LookUpsFind.{equal-is-same, found-put, found-without, none-below}
use Rattle.keyed_state.specs.declared.token.Token.{Token}
use Rattle.lock_table.specs.declared.command.Command.{Command}
use Rattle.lock_table.specs.declared.command.Command.TheVariants.{Acquire, Release, Roll}
use Rattle.keyed_state.specs.Tokens.{next_token, is_up_to}
use Rattle.lock_table.specs.Locks.{Lock, Outcome, Table, queue, granted, joined_by, passed_on, left_to, others, members, with_lock, table_of, table_size, lock_of, acquired, asked, gone_from, released, before, rolled, within, view_of, is_used_up, obeyed, carried_out}
use Rattle.lock_table.specs.Commands.{after_command}
use Rattle.keyed_state.specs.TokenLaws.{up-refl, up-trans}
use Rattle.lock_table.specs.StepLaws.{next-up}
use Rattle.lock_table.specs.Turns.{leaves_by, comes_by}

-- ---- lists and names

pub filter-all : (keep : Address → Bool) → ((p : Address) → keep p ≡ true) → (ps : List Address) → filter keep ps ≡ ps
filter-all keep all [] = refl
filter-all keep all (p ∷ ps) = rw (all p) (ap (λ (qs : List Address). p ∷ qs) (filter-all keep all ps))

pub left-agree : (f g : Address → Bool) → ((p : Address) → f p ≡ g p) → (view : ViewId) (last : Token) (l : Lock) → left_to f view last l ≡ left_to g view last l
left-agree f g same view last l =
    ap (λ (b : Bool). cond b (record { lock = Some (record { holder = l.holder; token = l.token; waiters = filter f l.waiters }); last = last }) (passed_on last (next_token view last) (filter f l.waiters))) (same l.holder)
    ∙ ap (λ (ps : List Address). cond (g l.holder) (record { lock = Some (record { holder = l.holder; token = l.token; waiters = ps }); last = last }) (passed_on last (next_token view last) ps)) (filter_agree f g same l.waiters)

pub same-name : (k l : List ℕ) → is_eq (key_cmp k l) ≡ true → k ≡ l
same-name k l e = equal-is-same k l e

-- ---- a roll, at a name

-- the last token when a roll comes to a name
abbrev pub came : (Address → Bool) → ViewId → Token → List ℕ → List (KeyedEntry Lock) → Token
came stays view last name [] = last
came stays view last name (e ∷ es) = cond (is_eq (key_cmp name e.key)) last (came stays view (left_to stays view last e.value).last name es)

abbrev pub left_at : (Address → Bool) → ViewId → Token → Option Lock → Option Lock
left_at stays view last None = None
left_at stays view last (Some l) = (left_to stays view last l).lock

-- what a name's lock is after a roll
pub found-rolled : (stays : Address → Bool) (view : ViewId) (last : Token) (name : List ℕ) (es : List (KeyedEntry Lock)) → Rises es
    → value_of name (rolled stays view last es).entries ≡ left_at stays view (came stays view last name es) (value_of name es)
found-rolled stays view last name [] up = refl
found-rolled stays view last name (e ∷ es) up = by (key_cmp name e.key) refl o.lock refl (found-rolled stays view o.last name es up.1) where
  o : Outcome
  o = left_to stays view last e.value

  rest : Table
  rest = rolled stays view o.last es

  Goal : Ordering → Option Lock → Type 0
  Goal r k = value_of name (before e.key k rest).entries ≡ left_at stays view (cond (is_eq r) last (came stays view o.last name es)) (match_ordering r None (Some e.value) (value_of name es))

  nothing : (r : Option Lock) → r ≡ None → value_of name rest.entries ≡ left_at stays view (came stays view o.last name es) r → value_of name rest.entries ≡ None
  nothing None at found = found
  nothing (Some x) at found = absurd cc

  below : key_cmp name e.key ≡ Less → value_of name rest.entries ≡ left_at stays view (came stays view o.last name es) (value_of name es) → value_of name rest.entries ≡ None
  below is found = nothing (value_of name es) (none-below name es (below-all name e.key es is up.0)) found

  by : (r : Ordering) → key_cmp name e.key ≡ r → (k : Option Lock) → o.lock ≡ k → value_of name rest.entries ≡ left_at stays view (came stays view o.last name es) (value_of name es) → Goal r k
  by Less is None at found = below is found
  by Less is (Some l) at found = rw is refl
  by Equal is None at found = nothing (value_of name es) (none-below name es (equal-all name e.key es is up.0)) found ∙ sym at
  by Equal is (Some l) at found = rw is (sym at)
  by Greater is None at found = found
  by Greater is (Some l) at found = rw is found

left-up : (stays : Address → Bool) (view : ViewId) (last : Token) (l : Lock) → is_up_to last (left_to stays view last l).last ≡ true
left-up stays view last l = by (stays l.holder) where
  by-first : (ps : List Address) → is_up_to last (passed_on last (next_token view last) ps).last ≡ true
  by-first [] = up-refl last
  by-first (p ∷ ps) = next-up view last

  by : (b : Bool) → is_up_to last (cond b (record { lock = Some (record { holder = l.holder; token = l.token; waiters = filter stays l.waiters }); last = last }) (passed_on last (next_token view last) (filter stays l.waiters))).last ≡ true
  by true = up-refl last
  by false = by-first (filter stays l.waiters)

pub came-up : (stays : Address → Bool) (view : ViewId) (last : Token) (name : List ℕ) (es : List (KeyedEntry Lock)) → is_up_to last (came stays view last name es) ≡ true
came-up stays view last name [] = up-refl last
came-up stays view last name (e ∷ es) = by (is_eq (key_cmp name e.key)) (came-up stays view (left_to stays view last e.value).last name es) where
  by : (b : Bool) → is_up_to (left_to stays view last e.value).last (came stays view (left_to stays view last e.value).last name es) ≡ true → is_up_to last (cond b last (came stays view (left_to stays view last e.value).last name es)) ≡ true
  by true rest = up-refl last
  by false rest = up-trans last _ _ (left-up stays view last e.value) rest

-- the last token only rises
pub rolled-up : (stays : Address → Bool) (view : ViewId) (last : Token) (es : List (KeyedEntry Lock)) → is_up_to last (rolled stays view last es).last ≡ true
rolled-up stays view last [] = up-refl last
rolled-up stays view last (e ∷ es) = by (left_to stays view last e.value).lock (rolled-up stays view (left_to stays view last e.value).last es) where
  by : (k : Option Lock) → is_up_to (left_to stays view last e.value).last (rolled stays view (left_to stays view last e.value).last es).last ≡ true
      → is_up_to last (before e.key k (rolled stays view (left_to stays view last e.value).last es)).last ≡ true
  by None rest = up-trans last _ _ (left-up stays view last e.value) rest
  by (Some l) rest = up-trans last _ _ (left-up stays view last e.value) rest

within-by : (P : Table → Type 0) (s new : Table) → P s → P new → P (within s new)
within-by P s new old fresh = by (leb (table_size new.entries) STATE) where
  by : (b : Bool) → P (cond b new s)
  by true = fresh
  by false = old

pub obeyed-up : (from : Address) (c : Command) (s : Table) → is_up_to s.last (obeyed from c s).last ≡ true
obeyed-up from (Acquire view name) s = within-by (λ t. is_up_to s.last t.last ≡ true) s (acquired from view name s) (up-refl s.last) (by (value_of name s.entries)) where
  by : (o : Option Lock) → is_up_to s.last (asked from view name s o).last ≡ true
  by None = next-up view s.last
  by (Some l) = up-refl s.last
obeyed-up from (Release view name) s = by (value_of name s.entries) where
  by : (o : Option Lock) → is_up_to s.last (gone_from from view name s o).last ≡ true
  by None = up-refl s.last
  by (Some l) = left-up (others from) view s.last l
obeyed-up from (Roll view) s = by (same_address from view.id.creator) where
  by : (b : Bool) → is_up_to s.last (cond b (rolled (members view) view.id s.last s.entries) s).last ≡ true
  by true = rolled-up (members view) view.id s.last s.entries
  by false = up-refl s.last

pub carried-up : (from : Address) (c : Command) (s : Table) → is_up_to s.last (carried_out from c s).last ≡ true
carried-up from c s = by (is_used_up (view_of c) s) where
  by : (b : Bool) → is_up_to s.last (cond b s (obeyed from c s)).last ≡ true
  by true = up-refl s.last
  by false = obeyed-up from c s

-- ---- what a message makes of a name's lock

-- a lock behind whose waiters one more waits
abbrev pub with_one : Address → Lock → Lock
with_one p l = record { holder = l.holder; token = l.token; waiters = l.waiters ++ p ∷ [] }

pub data IsTurn (name : List ℕ) (from : Address) (o : Option Command) (s t : Table) : Type 0 where
  -- nothing changes
  Unchanged : t ≡ s → IsTurn name from o s t
  -- this lock stays as it is
  Aside : lock_of name t ≡ lock_of name s → ((p : Address) → leaves_by name p from o ≡ false) → comes_by name from (option_map_or queue (lock_of name s) []) o ≡ [] → IsTurn name from o s t
  -- it stays free
  Free : lock_of name s ≡ None → lock_of name t ≡ None → comes_by name from [] o ≡ [] → IsTurn name from o s t
  -- it is granted
  Granted : (view : ViewId) → lock_of name s ≡ None → lock_of name t ≡ Some (granted from (next_token view s.last)) → ((p : Address) → leaves_by name p from o ≡ false) → comes_by name from [] o ≡ from ∷ [] → IsTurn name from o s t
  -- one more waits
  Joined : (l : Lock) → lock_of name s ≡ Some l → lock_of name t ≡ Some (with_one from l) → ((p : Address) → leaves_by name p from o ≡ false) → comes_by name from (queue l) o ≡ from ∷ [] → IsTurn name from o s t
  -- some leave
  Left : (view : ViewId) (last : Token) (l : Lock) → lock_of name s ≡ Some l → is_up_to s.last last ≡ true → lock_of name t ≡ (left_to (λ p. not (leaves_by name p from o)) view last l).lock
      → comes_by name from (queue l) o ≡ [] → IsTurn name from o s t

-- one asks for the lock
acquire-here : (name : List ℕ) (from : Address) (view : ViewId) (s : Table) → is_eq (key_cmp name name) ≡ true → IsTurn name from (Some (Acquire view name)) s (acquired from view name s)
acquire-here name from view s e = by (value_of name s.entries) refl where
  found : (v : Lock) → value_of name (put name v s.entries) ≡ Some v
  found v = found-put name v s.entries name ∙ ap (λ (b : Bool). cond b (Some v) (value_of name s.entries)) e

  coming : (ps : List Address) (b : Bool) → stands_in from ps ≡ b → comes_by name from ps (Some (Acquire view name)) ≡ cond (not b) (from ∷ []) []
  coming ps b st = rw (e, st) refl

  waits : (l : Lock) → value_of name s.entries ≡ Some l → (b : Bool) → stands_in from (queue l) ≡ b → IsTurn name from (Some (Acquire view name)) s (table_of s.last (put name (cond b l (with_one from l)) s.entries))
  waits l at true st = Aside (found l ∙ sym at) (λ p. refl) (ap (λ (o : Option Lock). comes_by name from (option_map_or queue o []) (Some (Acquire view name))) at ∙ coming (queue l) true st)
  waits l at false st = Joined l at (found (with_one from l)) (λ p. refl) (coming (queue l) false st)

  by : (o : Option Lock) → value_of name s.entries ≡ o → IsTurn name from (Some (Acquire view name)) s (asked from view name s o)
  by None at = Granted view at (found (granted from (next_token view s.last))) (λ p. refl) (coming [] false refl)
  by (Some l) at = waits l at (stands_in from (queue l)) refl

-- who asks for a lock leaves the others as they are
pub acquired-beside : (name : List ℕ) (from : Address) (view : ViewId) (n : List ℕ) (s : Table) → is_eq (key_cmp name n) ≡ false → lock_of name (acquired from view n s) ≡ lock_of name s
acquired-beside name from view n s e = by (value_of n s.entries) where
  found : (v : Lock) → value_of name (put n v s.entries) ≡ value_of name s.entries
  found v = found-put n v s.entries name ∙ ap (λ (b : Bool). cond b (Some v) (value_of name s.entries)) e

  by : (o : Option Lock) → value_of name (asked from view n s o).entries ≡ value_of name s.entries
  by None = found (granted from (next_token view s.last))
  by (Some l) = found (joined_by from l)

-- one asks for another
acquire-beside : (name : List ℕ) (from : Address) (view : ViewId) (n : List ℕ) (s : Table) → is_eq (key_cmp name n) ≡ false → IsTurn name from (Some (Acquire view n)) s (acquired from view n s)
acquire-beside name from view n s e = Aside (acquired-beside name from view n s e) (λ p. refl) (rw e refl)

acquire-turn : (name : List ℕ) (from : Address) (view : ViewId) (n : List ℕ) (s : Table) → IsTurn name from (Some (Acquire view n)) s (within s (acquired from view n s))
acquire-turn name from view n s = within-by (λ t. IsTurn name from (Some (Acquire view n)) s t) s (acquired from view n s) (Unchanged refl) (by (is_eq (key_cmp name n)) refl) where
  by : (b : Bool) → is_eq (key_cmp name n) ≡ b → IsTurn name from (Some (Acquire view n)) s (acquired from view n s)
  by true e =
      let same = same-name name n e in
      subst (λ (k : List ℕ). IsTurn name from (Some (Acquire view k)) s (acquired from view k s)) same (acquire-here name from view s (subst (λ (k : List ℕ). is_eq (key_cmp name k) ≡ true) (sym same) e))
  by false e = acquire-beside name from view n s e

-- one leaves the lock
alone-stays : (a b : Bool) → b ≡ true → not a ≡ not (a && b)
alone-stays true b e = rw e refl
alone-stays false b e = refl

pub with-found : (name : List ℕ) (k : Option Lock) (es : List (KeyedEntry Lock)) → Rises es → is_eq (key_cmp name name) ≡ true → value_of name (with_lock name k es) ≡ k
with-found name None es up e = found-without name es name up ∙ ap (λ (b : Bool). cond b None (value_of name es)) e
with-found name (Some x) es up e = found-put name x es name ∙ ap (λ (b : Bool). cond b (Some x) (value_of name es)) e

release-here : (name : List ℕ) (from : Address) (view : ViewId) (s : Table) (l : Lock) → Rises s.entries → is_eq (key_cmp name name) ≡ true → value_of name s.entries ≡ Some l → IsTurn name from (Some (Release view name)) s (gone_from from view name s (Some l))
release-here name from view s l up e at = Left view s.last l at (up-refl s.last) (with-found name (left_to (others from) view s.last l).lock s.entries up e ∙ ap (λ (o : Outcome). o.lock) agree) refl where
  agree : left_to (others from) view s.last l ≡ left_to (λ p. not (leaves_by name p from (Some (Release view name)))) view s.last l
  agree = left-agree (others from) (λ p. not (leaves_by name p from (Some (Release view name)))) (λ p. alone-stays (same_address from p) (is_eq (key_cmp name name)) e) view s.last l

-- who leaves a lock leaves the others as they are
pub gone-beside : (name : List ℕ) (from : Address) (view : ViewId) (n : List ℕ) (s : Table) (l : Lock) → Rises s.entries → is_eq (key_cmp name n) ≡ false → lock_of name (gone_from from view n s (Some l)) ≡ lock_of name s
gone-beside name from view n s l up e = found (left_to (others from) view s.last l).lock where
  found : (k : Option Lock) → value_of name (with_lock n k s.entries) ≡ value_of name s.entries
  found None = found-without n s.entries name up ∙ ap (λ (b : Bool). cond b None (value_of name s.entries)) e
  found (Some x) = found-put n x s.entries name ∙ ap (λ (b : Bool). cond b (Some x) (value_of name s.entries)) e

release-beside : (name : List ℕ) (from : Address) (view : ViewId) (n : List ℕ) (s : Table) (l : Lock) → Rises s.entries → is_eq (key_cmp name n) ≡ false → IsTurn name from (Some (Release view n)) s (gone_from from view n s (Some l))
release-beside name from view n s l up e = Aside (gone-beside name from view n s l up e) (λ p. and_right (same_address from p) (is_eq (key_cmp name n)) e) refl

release-turn : (name : List ℕ) (from : Address) (view : ViewId) (n : List ℕ) (s : Table) → Rises s.entries → IsTurn name from (Some (Release view n)) s (released from view n s)
release-turn name from view n s up = by (value_of n s.entries) refl where
  named : (l : Lock) → value_of n s.entries ≡ Some l → (b : Bool) → is_eq (key_cmp name n) ≡ b → IsTurn name from (Some (Release view n)) s (gone_from from view n s (Some l))
  named l at true e =
      let same = same-name name n e in
      subst (λ (k : List ℕ). IsTurn name from (Some (Release view k)) s (gone_from from view k s (Some l))) same
      (release-here name from view s l up (subst (λ (k : List ℕ). is_eq (key_cmp name k) ≡ true) (sym same) e) (subst (λ (k : List ℕ). value_of k s.entries ≡ Some l) (sym same) at))
  named l at false e = release-beside name from view n s l up e

  by : (o : Option Lock) → value_of n s.entries ≡ o → IsTurn name from (Some (Release view n)) s (gone_from from view n s o)
  by None at = Unchanged refl
  by (Some l) at = named l at (is_eq (key_cmp name n)) refl

-- only members of a view stay
member-stays : (a b : Bool) → a ≡ true → b ≡ not (a && not b)
member-stays a true e = rw e refl
member-stays a false e = rw e refl

roll-turn : (name : List ℕ) (from : Address) (view : View) (s : Table) → Rises s.entries → IsTurn name from (Some (Roll view)) s (obeyed from (Roll view) s)
roll-turn name from view s up = by (same_address from view.id.creator) refl where
  found : (o : Option Lock) → value_of name s.entries ≡ o → value_of name (rolled (members view) view.id s.last s.entries).entries ≡ left_at (members view) view.id (came (members view) view.id s.last name s.entries) o
  found o at = found-rolled (members view) view.id s.last name s.entries up ∙ ap (left_at (members view) view.id (came (members view) view.id s.last name s.entries)) at

  agree : same_address from view.id.creator ≡ true → (last : Token) (l : Lock) → left_to (members view) view.id last l ≡ left_to (λ p. not (leaves_by name p from (Some (Roll view)))) view.id last l
  agree e last l = left-agree (members view) (λ p. not (leaves_by name p from (Some (Roll view)))) (λ p. member-stays (same_address from view.id.creator) (stands_in p view.members) e) view.id last l

  named : same_address from view.id.creator ≡ true → (o : Option Lock) → value_of name s.entries ≡ o → IsTurn name from (Some (Roll view)) s (rolled (members view) view.id s.last s.entries)
  named e None at = Free at (found None at) refl
  named e (Some l) at =
      let last = came (members view) view.id s.last name s.entries in
      Left view.id last l at (came-up (members view) view.id s.last name s.entries) (found (Some l) at ∙ ap (λ (o : Outcome). o.lock) (agree e last l)) refl

  by : (b : Bool) → same_address from view.id.creator ≡ b → IsTurn name from (Some (Roll view)) s (cond b (rolled (members view) view.id s.last s.entries) s)
  by true e = named e (value_of name s.entries) refl
  by false e = Unchanged refl

obeyed-turn : (name : List ℕ) (from : Address) (c : Command) (s : Table) → Rises s.entries → IsTurn name from (Some c) s (obeyed from c s)
obeyed-turn name from (Acquire view n) s up = acquire-turn name from view n s
obeyed-turn name from (Release view n) s up = release-turn name from view n s up
obeyed-turn name from (Roll view) s up = roll-turn name from view s up

pub turn : (name : List ℕ) (from : Address) (o : Option Command) (s : Table) → Rises s.entries → IsTurn name from o s (after_command from s o)
turn name from None s up = Unchanged refl
turn name from (Some c) s up = by (is_used_up (view_of c) s) where
  by : (b : Bool) → IsTurn name from (Some c) s (cond b s (obeyed from c s))
  by true = Unchanged refl
  by false = obeyed-turn name from c s up
