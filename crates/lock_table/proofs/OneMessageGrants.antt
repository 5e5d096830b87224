-- The tokens that one message grants rise along the names of the locks.
use Rattle.std.proofs.Common.{◌≡◌, ◌≢◌, ℕ, Bool, true, false, cond, leb, List, [], ◌∷◌, Option, Some, None, refl, sym, ap, subst, ◌∙◌}
use Rattle.std.specs.Ordering.{match_ordering, is_eq}
use Rattle.std.specs.declared.cmp.Ordering.{Ordering}
use Rattle.std.specs.declared.cmp.Ordering.TheVariants.{Less, Equal, Greater}
use Rattle.address.specs.declared.limits.TheConstants.{STATE}
use Rattle.address.specs.Ids.{Address, ViewId, same_address}
use Rattle.keyed_state.specs.declared.entries.KeyedEntry.{KeyedEntry}
use Rattle.keyed_state.specs.Entries.{key_cmp, value_of, Rises}
use Rattle.keyed_state.specs.declared.token.Token.{Token}
use Rattle.lock_table.specs.declared.command.Command.{Command}
use Rattle.lock_table.specs.declared.command.Command.TheVariants.{Acquire, Release, Roll}
use Rattle.keyed_state.specs.Tokens.{next_token, is_up_to, IsBelow}
use Rattle.lock_table.specs.Locks.{Lock, Table, IsTable, lock_of, table_size, left_to, members, rolled, acquired, gone_from, view_of, is_used_up, obeyed, carried_out}
use Rattle.lock_table.specs.Commands.{command_of, after_command}
use Rattle.keyed_state.specs.TokenLaws.{up-below, next-above}
use Rattle.lock_table.specs.Turns.{Message, token_of, Grants}
use Rattle.lock_table.proofs.MessagesTurnLocks.{came, came-up, left_at, found-rolled, same-name, acquired-beside, gone-beside}
use Rattle.lock_table.proofs.GrantsRise.{token-in, some-lock, left-new, left-token}

-- ---- one name alone

-- a new lock was granted in a table: a name has a token that it had not before
pub record IsNew (name : List ℕ) (s t : Table) (l : Lock) : Type 0 where
  pub stands : lock_of name t ≡ Some l
  pub new : token_of name s ≢ Some l.token

-- a command that names one lock leaves the others
named-alone : (n : List ℕ) (s t : Table) → ((q : List ℕ) → is_eq (key_cmp q n) ≡ false → lock_of q t ≡ lock_of q s) → (a b : List ℕ) (l k : Lock) → IsNew a s t l → IsNew b s t k → key_cmp a b ≡ Less → IsBelow l.token k.token
named-alone n s t others a b l k one two less = by (is_eq (key_cmp a n)) refl (is_eq (key_cmp b n)) refl where
  by : (x : Bool) → is_eq (key_cmp a n) ≡ x → (y : Bool) → is_eq (key_cmp b n) ≡ y → IsBelow l.token k.token
  by false e y f = absurd (one.new (ap token-in (sym (others a e)) ∙ ap token-in one.stands))
  by true e false f = absurd (two.new (ap token-in (sym (others b f)) ∙ ap token-in two.stands))
  by true e true f =
      let equal : is_eq (key_cmp a b) ≡ true = ap (λ (q : List ℕ). is_eq (key_cmp a q)) (same-name b n f) ∙ e in
      let n = sym equal ∙ ap is_eq less in absurd cc

unchanged-alone : (s t : Table) (a : List ℕ) (l : Lock) → t ≡ s → IsNew a s t l → {P : Type 0} → P
unchanged-alone s t a l same one = absurd (one.new (ap (token_of a) (sym same) ∙ ap token-in one.stands))

-- ---- a roll

-- a name above another one is not a name at or below it
not-equal : (a b q : List ℕ) → key_cmp a b ≡ Less → (o : Ordering) → key_cmp a q ≡ o → o ≢ Less → is_eq (key_cmp b q) ≡ false
not-equal a b q less o at other = by (is_eq (key_cmp b q)) refl where
  by : (x : Bool) → is_eq (key_cmp b q) ≡ x → x ≡ false
  by false e = refl
  by true e = absurd (other (sym at ∙ ap (key_cmp a) (sym (same-name b q e)) ∙ less))

came-later : (stays : Address → Bool) (view : ViewId) (last : Token) (a b : List ℕ) (es : List (KeyedEntry Lock)) (x : Lock) → key_cmp a b ≡ Less → value_of a es ≡ Some x
    → is_up_to (left_to stays view (came stays view last a es) x).last (came stays view last b es) ≡ true
came-later stays view last a b [] x less at = absurd cc
came-later stays view last a b (e ∷ es) x less at = by (key_cmp a e.key) refl (came-later stays view (left_to stays view last e.value).last a b es x less) at where
  next : Token
  next = (left_to stays view last e.value).last

  by : (o : Ordering) → key_cmp a e.key ≡ o → (value_of a es ≡ Some x → is_up_to (left_to stays view (came stays view next a es) x).last (came stays view next b es) ≡ true) → match_ordering o None (Some e.value) (value_of a es) ≡ Some x
      → is_up_to (left_to stays view (cond (is_eq o) last (came stays view next a es)) x).last (cond (is_eq (key_cmp b e.key)) last (came stays view next b es)) ≡ true
  by Less is rest at = absurd cc
  by Equal is rest at =
      let past = not-equal a b e.key less Equal is (λ n. absurd cc) in
      let same : e.value ≡ x = some-lock e.value x at in
      rw past (subst (λ (y : Lock). is_up_to (left_to stays view last y).last (came stays view next b es) ≡ true) same (came-up stays view next b es))
  by Greater is rest at =
      let past = not-equal a b e.key less Greater is (λ n. absurd cc) in
      rw past (rest at)

rolled-rise : (stays : Address → Bool) (view : ViewId) (s : Table) (a b : List ℕ) (l k : Lock) → Rises s.entries → IsNew a s (rolled stays view s.last s.entries) l → IsNew b s (rolled stays view s.last s.entries) k → key_cmp a b ≡ Less → IsBelow l.token k.token
rolled-rise stays view s a b l k up one two less = by (value_of a s.entries) refl (value_of b s.entries) refl where
  found : (q : List ℕ) (o : Option Lock) → value_of q s.entries ≡ o → lock_of q (rolled stays view s.last s.entries) ≡ left_at stays view (came stays view s.last q s.entries) o
  found q o at = found-rolled stays view s.last q s.entries up ∙ ap (left_at stays view (came stays view s.last q s.entries)) at

  by : (o : Option Lock) → value_of a s.entries ≡ o → (p : Option Lock) → value_of b s.entries ≡ p → IsBelow l.token k.token
  by None at p other = let n = sym (found a None at) ∙ one.stands in absurd cc
  by (Some x) at None other = let n = sym (found b None other) ∙ two.stands in absurd cc
  by (Some x) at (Some y) other =
      let given = left-new stays view (came stays view s.last a s.entries) x l (sym (found a (Some x) at) ∙ one.stands) (λ e. one.new (ap token-in at ∙ e)) in
      let first = given.0 ∙ sym given.1 in
      let second = left-token stays view (came stays view s.last b s.entries) y k (sym (found b (Some y) other) ∙ two.stands) (λ e. two.new (ap token-in other ∙ e)) in
      let later = came-later stays view s.last a b s.entries x less at in
      let low : is_up_to l.token (came stays view s.last b s.entries) ≡ true = ap (λ (t : Token). is_up_to t (came stays view s.last b s.entries)) first ∙ later in
      subst (IsBelow l.token) (sym second) (up-below l.token (came stays view s.last b s.entries) (next_token view (came stays view s.last b s.entries)) low (next-above view (came stays view s.last b s.entries)))

-- ---- each command

obeyed-rise : (from : Address) (c : Command) (s : Table) (a b : List ℕ) (l k : Lock) → Rises s.entries → IsNew a s (obeyed from c s) l → IsNew b s (obeyed from c s) k → key_cmp a b ≡ Less → IsBelow l.token k.token
obeyed-rise from (Acquire view n) s a b l k up = by (leb (table_size (acquired from view n s).entries) STATE) where
  by : (x : Bool) → IsNew a s (cond x (acquired from view n s) s) l → IsNew b s (cond x (acquired from view n s) s) k → key_cmp a b ≡ Less → IsBelow l.token k.token
  by true one two less = named-alone n s (acquired from view n s) (λ q e. acquired-beside q from view n s e) a b l k one two less
  by false one two less = unchanged-alone s s a l refl one
obeyed-rise from (Release view n) s a b l k up = by (value_of n s.entries) where
  by : (o : Option Lock) → IsNew a s (gone_from from view n s o) l → IsNew b s (gone_from from view n s o) k → key_cmp a b ≡ Less → IsBelow l.token k.token
  by None one two less = unchanged-alone s s a l refl one
  by (Some x) one two less = named-alone n s (gone_from from view n s (Some x)) (λ q e. gone-beside q from view n s x up e) a b l k one two less
obeyed-rise from (Roll view) s a b l k up = by (same_address from view.id.creator) where
  by : (x : Bool) → IsNew a s (cond x (rolled (members view) view.id s.last s.entries) s) l → IsNew b s (cond x (rolled (members view) view.id s.last s.entries) s) k → key_cmp a b ≡ Less → IsBelow l.token k.token
  by true one two less = rolled-rise (members view) view.id s a b l k up one two less
  by false one two less = unchanged-alone s s a l refl one

carried-rise : (from : Address) (c : Command) (s : Table) (a b : List ℕ) (l k : Lock) → Rises s.entries → IsNew a s (carried_out from c s) l → IsNew b s (carried_out from c s) k → key_cmp a b ≡ Less → IsBelow l.token k.token
carried-rise from c s a b l k up = by (is_used_up (view_of c) s) where
  by : (x : Bool) → IsNew a s (cond x s (obeyed from c s)) l → IsNew b s (cond x s (obeyed from c s)) k → key_cmp a b ≡ Less → IsBelow l.token k.token
  by true one two less = unchanged-alone s s a l refl one
  by false one two less = obeyed-rise from c s a b l k up one two less

pub one-message-rises : (s : Table) (m : Message) (a b : List ℕ) (l k : Lock) → IsTable s → Grants a m s l → Grants b m s k → key_cmp a b ≡ Less → IsBelow l.token k.token
one-message-rises s m a b l k is first second less =
    by (command_of m.payload) (record { stands = first.stands; new = first.new }) (record { stands = second.stands; new = second.new })
  where
    by : (o : Option Command) → IsNew a s (after_command m.from s o) l → IsNew b s (after_command m.from s o) k → IsBelow l.token k.token
    by None one two = unchanged-alone s s a l refl one
    by (Some c) one two = carried-rise m.from c s a b l k is.rises one two less
