-- What a command of a view makes of tokens: the last token's view stays at most that view, and what is granted has a token of that view.
use Rattle.std.proofs.Common.{◌≡◌, ℕ, ◌≤◌, Bool, true, false, cond, leb, List, [], ◌∷◌, Option, Some, None, inl, inr, refl, sym, ap, subst, ◌+◌, ◌++◌, ◌∙◌, arith}
use Rattle.std.specs.List.{filter}
use Rattle.std.specs.Ordering.{is_eq, is_lt}
use Rattle.std.specs.declared.cmp.Ordering.{Ordering}
use Rattle.std.specs.declared.cmp.Ordering.TheVariants.{Less, Equal, Greater}
use Rattle.std.proofs.lemmas.Bool.Decides.{nat_tests}
use Rattle.std.proofs.lemmas.Map.Text.{is_eq-slice_cmp}
use Rattle.std.proofs.lemmas.Slice.Eq.{bytes_eq-Decides}
use Rattle.address.specs.declared.limits.TheConstants.{STATE}
use Rattle.address.specs.Ids.{Address, ViewId, view_id_cmp, same_address}
use Rattle.address.proofs.SameIds.{same_view_id-true}
use Rattle.view.specs.Members.{stands_in}
use Rattle.trace_props.proofs.EqualByTests.{is_eq-view_id}
use Rattle.trace_props.proofs.InstallsOfRisingViews.{IsUpTo}
use Rattle.keyed_state.specs.declared.entries.KeyedEntry.{KeyedEntry}
use Rattle.keyed_state.specs.Entries.{key_cmp, value_of, put, Rises}
use Rattle.keyed_state.proofs.LookUpsFind.{found-put, found-without}
use Rattle.keyed_state.specs.declared.token.Token.{Token}
use Rattle.lock_table.specs.declared.command.Command.{Command}
use Rattle.lock_table.specs.declared.command.Command.TheVariants.{Acquire, Release, Roll}
use Rattle.keyed_state.specs.Tokens.{IsViewId, next_token, least_token}
use Rattle.lock_table.specs.Locks.{Lock, Table, lock_of, queue, table_size, within, granted, joined_by, left_to, others, members, passed_on, with_lock, before, acquired, asked, gone_from, rolled, view_of, is_used_up, obeyed, carried_out}
use Rattle.lock_table.proofs.MessagesTurnLocks.{came, left_at, found-rolled, same-name, acquired-beside, gone-beside}
use Rattle.lock_table.proofs.GrantsRise.{token-in, some-lock, left-token}
use Rattle.lock_table.proofs.OneMessageGrants.{IsNew}

-- ---- views

-- the least token's view is at most each view there is
below-or-equal : (v w : ViewId) → (view_id_cmp v w ≡ Greater → ⊥) → IsUpTo v w
below-or-equal v w never = by (view_id_cmp v w) refl where
  by : (o : Ordering) → view_id_cmp v w ≡ o → IsUpTo v w
  by Less e = inr e
  by Equal e = inl (same_view_id-true v w (sym (is_eq-view_id v w) ∙ ap is_eq e))
  by Greater e = absurd (never e)

pub least-up : (v : ViewId) → IsViewId v → IsUpTo least_token.view v
least-up v is =
    let counter : 1 ≤ v.counter = is.counter in
    let node : 1 ≤ v.creator.node = is.creator.node in
    let incarnation : 1 ≤ v.creator.incarnation = is.creator.incarnation in
    below-or-equal least_token.view v (λ e. grind (arith, nat_tests))

-- ---- the next token

pub next-in : (v : ViewId) (last : Token) → IsUpTo last.view v → (next_token v last).view ≡ v
next-in v last up = by (is_lt (view_id_cmp last.view v)) refl up where
  by : (b : Bool) → is_lt (view_id_cmp last.view v) ≡ b → IsUpTo last.view v → (cond {A = Token} b (record { view = v; count = 1 }) (record { view = last.view; count = last.count + 1 })).view ≡ v
  by true e up = refl
  by false e (inl same) = same
  by false e (inr below) = let n = sym e ∙ ap is_lt below in absurd cc

next-stays : (v : ViewId) (last : Token) → IsUpTo last.view v → IsUpTo (next_token v last).view v
next-stays v last up = inl (next-in v last up)

left-stays : (stays : Address → Bool) (v : ViewId) (last : Token) (l : Lock) → IsUpTo last.view v → IsUpTo (left_to stays v last l).last.view v
left-stays stays v last l up = by (stays l.holder) where
  by-first : (ps : List Address) → IsUpTo (passed_on last (next_token v last) ps).last.view v
  by-first [] = up
  by-first (p ∷ ps) = next-stays v last up

  by : (b : Bool) → IsUpTo (cond b (record { lock = Some (record { holder = l.holder; token = l.token; waiters = filter stays l.waiters }); last = last }) (passed_on last (next_token v last) (filter stays l.waiters))).last.view v
  by true = up
  by false = by-first (filter stays l.waiters)

came-stays : (stays : Address → Bool) (v : ViewId) (last : Token) (name : List ℕ) (es : List (KeyedEntry Lock)) → IsUpTo last.view v → IsUpTo (came stays v last name es).view v
came-stays stays v last name [] up = up
came-stays stays v last name (e ∷ es) up = by (is_eq (key_cmp name e.key)) (came-stays stays v (left_to stays v last e.value).last name es (left-stays stays v last e.value up)) where
  by : (b : Bool) → IsUpTo (came stays v (left_to stays v last e.value).last name es).view v → IsUpTo (cond b last (came stays v (left_to stays v last e.value).last name es)).view v
  by true rest = up
  by false rest = rest

rolled-stays : (stays : Address → Bool) (v : ViewId) (last : Token) (es : List (KeyedEntry Lock)) → IsUpTo last.view v → IsUpTo (rolled stays v last es).last.view v
rolled-stays stays v last [] up = up
rolled-stays stays v last (e ∷ es) up = by (left_to stays v last e.value).lock (rolled-stays stays v (left_to stays v last e.value).last es (left-stays stays v last e.value up)) where
  by : (k : Option Lock) → IsUpTo (rolled stays v (left_to stays v last e.value).last es).last.view v → IsUpTo (before e.key k (rolled stays v (left_to stays v last e.value).last es)).last.view v
  by None rest = rest
  by (Some l) rest = rest

within-by : (P : Table → Type 0) (s new : Table) → P s → P new → P (within s new)
within-by P s new old fresh = by (leb (table_size new.entries) STATE) where
  by : (b : Bool) → P (cond b new s)
  by true = fresh
  by false = old

-- ---- a command leaves the last token's view at most its own

obeyed-stays : (from : Address) (c : Command) (s : Table) → IsUpTo s.last.view (view_of c) → IsUpTo (obeyed from c s).last.view (view_of c)
obeyed-stays from (Acquire v name) s up = within-by (λ t. IsUpTo t.last.view v) s (acquired from v name s) up (by (value_of name s.entries)) where
  by : (o : Option Lock) → IsUpTo (asked from v name s o).last.view v
  by None = next-stays v s.last up
  by (Some l) = up
obeyed-stays from (Release v name) s up = by (value_of name s.entries) where
  by : (o : Option Lock) → IsUpTo (gone_from from v name s o).last.view v
  by None = up
  by (Some l) = left-stays (others from) v s.last l up
obeyed-stays from (Roll view) s up = by (same_address from view.id.creator) where
  by : (b : Bool) → IsUpTo (cond b (rolled (members view) view.id s.last s.entries) s).last.view view.id
  by true = rolled-stays (members view) view.id s.last s.entries up
  by false = up

pub carried-stays : (from : Address) (c : Command) (s : Table) → IsUpTo s.last.view (view_of c) → IsUpTo (carried_out from c s).last.view (view_of c)
carried-stays from c s up = by (is_used_up (view_of c) s) where
  by : (b : Bool) → IsUpTo (cond b s (obeyed from c s)).last.view (view_of c)
  by true = up
  by false = obeyed-stays from c s up

-- ---- what it grants has a token of its view

same-key : (k : List ℕ) → is_eq (key_cmp k k) ≡ true
same-key k = is_eq-slice_cmp k k ∙ (bytes_eq-Decides k k).1 refl

found-there : (name : List ℕ) (l : Lock) (es : List (KeyedEntry Lock)) → value_of name (put name l es) ≡ Some l
found-there name l es = found-put name l es name ∙ ap (λ (b : Bool). cond b (Some l) (value_of name es)) (same-key name)

-- where nothing changes nothing is granted
unchanged-alone : (name : List ℕ) (s : Table) (l : Lock) → IsNew name s s l → {P : Type 0} → P
unchanged-alone name s l one = absurd (one.new (ap token-in one.stands))

-- by a token that a lock had nothing is granted
kept-token : (name : List ℕ) (s t : Table) (x y l : Lock) → value_of name s.entries ≡ Some x → lock_of name t ≡ Some y → y.token ≡ x.token → IsNew name s t l → {P : Type 0} → P
kept-token name s t x y l here there same one =
    let is : y ≡ l = some-lock y l (sym there ∙ one.stands) in
    absurd (one.new (ap token-in here ∙ ap Some (sym same ∙ ap (λ (z : Lock). z.token) is)))

joined-token : (p : Address) (l : Lock) → (joined_by p l).token ≡ l.token
joined-token p l = by (stands_in p (queue l)) where
  by : (b : Bool) → (cond b l (record { holder = l.holder; token = l.token; waiters = l.waiters ++ p ∷ [] })).token ≡ l.token
  by true = refl
  by false = refl

acquire-new : (from : Address) (v : ViewId) (n name : List ℕ) (s : Table) (l : Lock) → IsUpTo s.last.view v → IsNew name s (acquired from v n s) l → l.token.view ≡ v
acquire-new from v n name s l up one = by (is_eq (key_cmp name n)) refl where
  found : (o : Option Lock) → value_of name s.entries ≡ o → IsNew name s (asked from v name s o) l → l.token.view ≡ v
  found None at new =
      let lock : granted from (next_token v s.last) ≡ l = some-lock (granted from (next_token v s.last)) l (sym (found-there name (granted from (next_token v s.last)) s.entries) ∙ new.stands) in
      ap (λ (x : Lock). x.token.view) (sym lock) ∙ next-in v s.last up
  found (Some x) at new = kept-token name s (asked from v name s (Some x)) x (joined_by from x) l at (found-there name (joined_by from x) s.entries) (joined-token from x) new

  by : (b : Bool) → is_eq (key_cmp name n) ≡ b → l.token.view ≡ v
  by true e = found (value_of name s.entries) refl (subst (λ (k : List ℕ). IsNew name s (acquired from v k s) l) (sym (same-name name n e)) one)
  by false e = absurd (one.new (ap token-in (sym (acquired-beside name from v n s e)) ∙ ap token-in one.stands))

release-new : (from : Address) (v : ViewId) (n name : List ℕ) (s : Table) (l : Lock) → Rises s.entries → IsUpTo s.last.view v → IsNew name s (gone_from from v n s (value_of n s.entries)) l → l.token.view ≡ v
release-new from v n name s l rises up = by (value_of n s.entries) refl where
  same : (x : Lock) → value_of n s.entries ≡ Some x → (b : Bool) → is_eq (key_cmp name n) ≡ b → IsNew name s (gone_from from v n s (Some x)) l → l.token.view ≡ v
  same x at false e new = absurd (new.new (ap token-in (sym (gone-beside name from v n s x rises e)) ∙ ap token-in new.stands))
  same x at true e new =
      let named : name ≡ n = same-name name n e in
      let here : value_of name s.entries ≡ Some x = ap (λ (k : List ℕ). value_of k s.entries) named ∙ at in
      let found : (k : Option Lock) → value_of name (with_lock name k s.entries) ≡ k = found-left in
      let stands : (left_to (others from) v s.last x).lock ≡ Some l =
      sym (found (left_to (others from) v s.last x).lock) ∙ ap (λ (k : List ℕ). value_of name (with_lock k (left_to (others from) v s.last x).lock s.entries)) named ∙ new.stands in
      ap (λ (t : Token). t.view) (left-token (others from) v s.last x l stands (λ f. new.new (ap token-in here ∙ f))) ∙ next-in v s.last up
    where
      found-left : (k : Option Lock) → value_of name (with_lock name k s.entries) ≡ k
      found-left None = found-without name s.entries name rises ∙ ap (λ (b : Bool). cond b None (value_of name s.entries)) (same-key name)
      found-left (Some y) = found-there name y s.entries

  by : (o : Option Lock) → value_of n s.entries ≡ o → IsNew name s (gone_from from v n s o) l → l.token.view ≡ v
  by None at new = unchanged-alone name s l new
  by (Some x) at new = same x at (is_eq (key_cmp name n)) refl new

roll-new : (stays : Address → Bool) (v : ViewId) (name : List ℕ) (s : Table) (l : Lock) → Rises s.entries → IsUpTo s.last.view v → IsNew name s (rolled stays v s.last s.entries) l → l.token.view ≡ v
roll-new stays v name s l rises up new = by (value_of name s.entries) refl where
  last : Token
  last = came stays v s.last name s.entries

  by : (o : Option Lock) → value_of name s.entries ≡ o → l.token.view ≡ v
  by None at = let n = sym (found-rolled stays v s.last name s.entries rises ∙ ap (left_at stays v last) at) ∙ new.stands in absurd cc
  by (Some x) at =
      let stands : (left_to stays v last x).lock ≡ Some l = sym (found-rolled stays v s.last name s.entries rises ∙ ap (left_at stays v last) at) ∙ new.stands in
      ap (λ (t : Token). t.view) (left-token stays v last x l stands (λ f. new.new (ap token-in at ∙ f))) ∙ next-in v last (came-stays stays v s.last name s.entries up)

obeyed-new : (from : Address) (c : Command) (name : List ℕ) (s : Table) (l : Lock) → Rises s.entries → IsUpTo s.last.view (view_of c) → IsNew name s (obeyed from c s) l → l.token.view ≡ view_of c
obeyed-new from (Acquire v n) name s l rises up =
    within-by (λ t. IsNew name s t l → l.token.view ≡ v) s (acquired from v n s) (λ new. unchanged-alone name s l new) (acquire-new from v n name s l up)
obeyed-new from (Release v n) name s l rises up = release-new from v n name s l rises up
obeyed-new from (Roll view) name s l rises up = by (same_address from view.id.creator) where
  by : (b : Bool) → IsNew name s (cond b (rolled (members view) view.id s.last s.entries) s) l → l.token.view ≡ view.id
  by true new = roll-new (members view) view.id name s l rises up new
  by false new = unchanged-alone name s l new

pub carried-new : (from : Address) (c : Command) (name : List ℕ) (s : Table) (l : Lock) → Rises s.entries → IsUpTo s.last.view (view_of c) → IsNew name s (carried_out from c s) l → l.token.view ≡ view_of c
carried-new from c name s l rises up = by (is_used_up (view_of c) s) where
  by : (b : Bool) → IsNew name s (cond b s (obeyed from c s)) l → l.token.view ≡ view_of c
  by true new = unchanged-alone name s l new
  by false new = obeyed-new from c name s l rises up new
