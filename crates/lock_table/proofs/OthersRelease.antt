-- A release by who does not stand at a lock changes nothing, and neither does a second roll.
use Rattle.std.proofs.Common.{◌≡◌, ℕ, Bool, true, false, cond, List, [], ◌∷◌, Option, Some, None, refl, sym, ap, subst, ◌∙◌}
use Rattle.std.specs.List.{filter, AllByRecursion}
use Rattle.std.specs.Option.{option_map_or}
use Rattle.std.specs.Ordering.{match_ordering}
use Rattle.std.specs.declared.cmp.Ordering.{Ordering}
use Rattle.std.specs.declared.cmp.Ordering.TheVariants.{Less, Equal, Greater}
use Rattle.std.proofs.lemmas.Bool.{or_parts}
use Rattle.std.proofs.lemmas.Option.{same_Some}
use Rattle.address.specs.Ids.{Address, ViewId, same_address}
use Rattle.view.specs.Members.{View, stands_in}
use Rattle.keyed_state.specs.declared.entries.KeyedEntry.{KeyedEntry}
use Rattle.keyed_state.specs.Entries.{key_cmp, entry_of, value_of, put}
use Rattle.keyed_state.specs.declared.token.Token.{Token}
use Rattle.lock_table.specs.declared.command.Command.TheVariants.{Release, Roll}
use Rattle.keyed_state.specs.Tokens.{next_token}
use Rattle.lock_table.specs.Locks.{Lock, Outcome, Table, queue, left_to, passed_on, others, members, gone_from, released, with_lock, table_of, before, rolled, is_used_up, obeyed, carried_out}
use Rattle.lock_table.specs.Commands.{command_of, after_command}
use Rattle.lock_table.specs.StepLaws.{passes-filter}
use Rattle.lock_table.specs.Turns.{Message, after, queue_of}

-- ---- a release

all-others : (p : Address) (ps : List Address) → stands_in p ps ≡ false → filter (others p) ps ≡ ps
all-others p [] st = refl
all-others p (q ∷ ps) st = let parts = or_parts (same_address p q) (stands_in p ps) st in rw parts.0 (ap (λ (l : List Address). q ∷ l) (all-others p ps parts.1))

put-same : (k : List ℕ) (l : Lock) (es : List (KeyedEntry Lock)) → value_of k es ≡ Some l → put k l es ≡ es
put-same k l [] at = absurd cc
put-same k l (e ∷ es) at = by (key_cmp k e.key) (put-same k l es) at where
  by : (o : Ordering) → (value_of k es ≡ Some l → put k l es ≡ es) → match_ordering o None (Some e.value) (value_of k es) ≡ Some l → match_ordering o (entry_of k l ∷ e ∷ es) (entry_of e.key l ∷ es) (e ∷ put k l es) ≡ e ∷ es
  by Less rest at = absurd cc
  by Equal rest at = let same : e.value ≡ l = cc in ap (λ (x : Lock). entry_of e.key x ∷ es) (sym same)
  by Greater rest at = ap (λ (xs : List (KeyedEntry Lock)). e ∷ xs) (rest at)

nobody-leaves : (p : Address) (view : ViewId) (last : Token) (l : Lock) → stands_in p (queue l) ≡ false → left_to (others p) view last l ≡ record { lock = Some l; last = last }
nobody-leaves p view last l st =
    let parts = or_parts (same_address p l.holder) (stands_in p l.waiters) st in
    rw (parts.0, all-others p l.waiters parts.1) refl

released-same : (p : Address) (view : ViewId) (name : List ℕ) (s : Table) → stands_in p (queue_of name s) ≡ false → released p view name s ≡ s
released-same p view name s st = by (value_of name s.entries) refl where
  by : (o : Option Lock) → value_of name s.entries ≡ o → gone_from p view name s o ≡ s
  by None at = refl
  by (Some l) at =
      let here : stands_in p (queue l) ≡ false = ap (λ (o : Option Lock). stands_in p (option_map_or queue o [])) (sym at) ∙ st in
      ap (λ (o : Outcome). table_of o.last (with_lock name o.lock s.entries)) (nobody-leaves p view s.last l here) ∙ ap (table_of s.last) (put-same name l s.entries at)

pub other-release : (s : Table) (m : Message) (view : ViewId) (name : List ℕ) → command_of m.payload ≡ Some (Release view name) → stands_in m.from (queue_of name s) ≡ false → after s m ≡ s
other-release s m view name e st = ap (after_command m.from s) e ∙ by (is_used_up view s) where
  by : (b : Bool) → cond b s (released m.from view name s) ≡ s
  by true = refl
  by false = released-same m.from view name s st

-- ---- a second roll

-- all who stand at a lock stay
record Stays (stays : Address → Bool) (l : Lock) : Type 0 where
  holder : stays l.holder ≡ true
  waiters : AllByRecursion (λ p. stays p ≡ true) l.waiters

filter-passed : (stays : Address → Bool) (ps : List Address) → AllByRecursion (λ p. stays p ≡ true) ps → filter stays ps ≡ ps
filter-passed stays [] all = refl
filter-passed stays (p ∷ ps) all = rw all.0 (ap (λ (l : List Address). p ∷ l) (filter-passed stays ps all.1))

-- who is left at a lock stays
left-stays : (stays : Address → Bool) (view : ViewId) (last : Token) (l k : Lock) → (left_to stays view last l).lock ≡ Some k → Stays stays k
left-stays stays view last l k = by (stays l.holder) refl where
  by-first : (ps : List Address) → AllByRecursion (λ p. stays p ≡ true) ps → (passed_on last (next_token view last) ps).lock ≡ Some k → Stays stays k
  by-first [] all e = absurd cc
  by-first (p ∷ ps) all e = subst (Stays stays) (same_Some (record { holder = p; token = next_token view last; waiters = ps }) k e) (record { holder = all.0; waiters = all.1 })

  by : (b : Bool) → stays l.holder ≡ b → (cond b (record { lock = Some (record { holder = l.holder; token = l.token; waiters = filter stays l.waiters }); last = last }) (passed_on last (next_token view last) (filter stays l.waiters))).lock ≡ Some k → Stays stays k
  by true is e = subst (Stays stays) (same_Some (record { holder = l.holder; token = l.token; waiters = filter stays l.waiters }) k e) (record { holder = is; waiters = passes-filter stays l.waiters })
  by false is e = by-first (filter stays l.waiters) (passes-filter stays l.waiters) e

rolled-stay : (stays : Address → Bool) (view : ViewId) (last : Token) (es : List (KeyedEntry Lock)) → AllByRecursion (λ e. Stays stays e.value) (rolled stays view last es).entries
rolled-stay stays view last [] = tt
rolled-stay stays view last (e ∷ es) = by (left_to stays view last e.value).lock (left-stays stays view last e.value) (rolled-stay stays view (left_to stays view last e.value).last es) where
  rest : Table
  rest = rolled stays view (left_to stays view last e.value).last es

  by : (k : Option Lock) → ((l : Lock) → k ≡ Some l → Stays stays l) → AllByRecursion (λ x. Stays stays x.value) rest.entries → AllByRecursion (λ x. Stays stays x.value) (before e.key k rest).entries
  by None one all = all
  by (Some l) one all = (one l refl, all)

-- a roll without which nobody is left changes nothing
rolled-same : (stays : Address → Bool) (view : ViewId) (last : Token) (es : List (KeyedEntry Lock)) → AllByRecursion (λ e. Stays stays e.value) es → rolled stays view last es ≡ table_of last es
rolled-same stays view last [] all = refl
rolled-same stays view last (e ∷ es) all =
    rw (all.0.holder, filter-passed stays e.value.waiters all.0.waiters) (ap (λ (t : Table). table_of t.last (e ∷ t.entries)) (rolled-same stays view last es all.1))

roll-twice : (from : Address) (view : View) (s : Table) → carried_out from (Roll view) (carried_out from (Roll view) s) ≡ carried_out from (Roll view) s
roll-twice from view s = by (is_used_up view.id s) refl where
  again : (t : Table) → obeyed from (Roll view) t ≡ t → carried_out from (Roll view) t ≡ t
  again t e = either (is_used_up view.id t) where
    either : (b : Bool) → cond b t (obeyed from (Roll view) t) ≡ t
    either true = refl
    either false = e

  rolls : (b : Bool) → same_address from view.id.creator ≡ b → (t : Table) → t ≡ cond b (rolled (members view) view.id s.last s.entries) s → obeyed from (Roll view) t ≡ t
  rolls true e t is =
      let all = rolled-stay (members view) view.id s.last s.entries in
      let stay : AllByRecursion (λ x. Stays (members view) x.value) t.entries = subst (λ (u : Table). AllByRecursion (λ x. Stays (members view) x.value) u.entries) (sym is) all in
      ap (λ (b : Bool). cond b (rolled (members view) view.id t.last t.entries) t) e ∙ rolled-same (members view) view.id t.last t.entries stay
  rolls false e t is = ap (λ (b : Bool). cond b (rolled (members view) view.id t.last t.entries) t) e

  by : (b : Bool) → is_used_up view.id s ≡ b → carried_out from (Roll view) (cond b s (obeyed from (Roll view) s)) ≡ cond b s (obeyed from (Roll view) s)
  by true e = ap (λ (b : Bool). cond b s (obeyed from (Roll view) s)) e
  by false e = again (obeyed from (Roll view) s) (rolls (same_address from view.id.creator) refl (obeyed from (Roll view) s) refl)

pub second-roll : (s : Table) (m : Message) (view : View) → command_of m.payload ≡ Some (Roll view) → after (after s m) m ≡ after s m
second-roll s m view e = rw e (roll-twice m.from view s)
