-- Each step of the table leaves it a table.
use Rattle.std.proofs.Common.{◌≡◌, ℕ, suc, ◌+◌, ◌≤◌, Bool, true, false, cond, leb, List, [], ◌∷◌, ◌++◌, length, Option, Some, None, refl, ap, subst, ◌∙◌, arith}
use Rattle.std.specs.List.{AllByRecursion, filter, sum_by}
use Rattle.std.proofs.lemmas.Bool.{leb-true}
use Rattle.std.proofs.lemmas.Option.{same_Some}
use Rattle.std.proofs.lemmas.List.Sums.{sum_by-cons}
use Rattle.address.specs.Ids.{Address, ViewId, IsAddress}
use Rattle.view.specs.Members.{stands_in}
use Rattle.address.specs.declared.limits.TheConstants.{STATE, GREATEST_NUMBER}
use Rattle.keyed_state.specs.declared.entries.KeyedEntry.{KeyedEntry}
use Rattle.keyed_state.specs.Entries.{entry_of, value_of, Rises}
use Rattle.keyed_state.specs.EntryLaws.{IsBelowAll}
use Rattle.keyed_state.specs.Keys.{IsKey}
use Rattle.keyed_state.specs.declared.token.Token.{Token}
use Rattle.keyed_state.specs.Tokens.{next_token, is_up_to, IsViewId, IsToken}
use Rattle.keyed_state.specs.StateLaws as states
use Rattle.lock_table.specs.Forms.{lock_form}
use Rattle.lock_table.specs.Locks.{Lock, Outcome, Table, queue, granted, joined_by, passed_on, left_to, table_of, lock_size, table_size, acquired, asked, with_lock, others, gone_from, released, before, rolled, within, IsLock, IsEntry, AreUpTo, IsTable}
use Rattle.keyed_state.specs.TokenLaws.{up-trans, up-refl, below-is-up, next-above, next-next, next-is-token}

-- ---- lists

all-filter : {X : Type 0} (P : X → Type 0) (test : X → Bool) (xs : List X) → AllByRecursion P xs → AllByRecursion P (filter test xs)
all-filter P test [] all = tt
all-filter P test (x ∷ xs) all = by (test x) (all-filter P test xs all.1) where
  by : (b : Bool) → AllByRecursion P (filter test xs) → AllByRecursion P (cond b (x ∷ filter test xs) (filter test xs))
  by true rest = (all.0, rest)
  by false rest = rest

pub all-push : {X : Type 0} (P : X → Type 0) (xs : List X) (x : X) → AllByRecursion P xs → P x → AllByRecursion P (xs ++ x ∷ [])
all-push P [] x all one = (one, tt)
all-push P (y ∷ xs) x all one = (all.0, all-push P xs x all.1 one)

few-filter : {X : Type 0} (test : X → Bool) (xs : List X) → length (filter test xs) ≤ length xs
few-filter test [] = omega arith
few-filter test (x ∷ xs) = by (test x) (few-filter test xs) where
  by : (b : Bool) → length (filter test xs) ≤ length xs → length (cond b (x ∷ filter test xs) (filter test xs)) ≤ suc (length xs)
  by true rest = omega (arith, rest)
  by false rest = omega (arith, rest)

-- what a filter leaves passes it
pub passes-filter : {X : Type 0} (test : X → Bool) (xs : List X) → AllByRecursion (λ x. test x ≡ true) (filter test xs)
passes-filter test [] = tt
passes-filter test (x ∷ xs) = by (test x) refl (passes-filter test xs) where
  by : (b : Bool) → test x ≡ b → AllByRecursion (λ y. test y ≡ true) (filter test xs) → AllByRecursion (λ y. test y ≡ true) (cond b (x ∷ filter test xs) (filter test xs))
  by true is rest = (is, rest)
  by false is rest = rest

-- ---- tokens

pub next-up : (view : ViewId) (last : Token) → is_up_to last (next_token view last) ≡ true
next-up view last = below-is-up last (next_token view last) (next-above view last)

-- ---- a lock that some leave

-- what holds of a lock that is left by some, and of the last token
pub record IsKept (l : Lock) (last : Token) (o : Outcome) (k : Lock) : Type 0 where
  pub is : IsLock k
  pub up : is_up_to k.token o.last ≡ true
  pub few : length k.waiters ≤ length l.waiters

pub record IsSound (view : ViewId) (l : Lock) (before : Token) (o : Outcome) : Type 0 where
  pub token : IsToken o.last
  pub up : is_up_to before o.last ≡ true
  pub next : (next_token view o.last).count ≤ (next_token view before).count + 1
  pub lock : (k : Lock) → o.lock ≡ Some k → IsKept l before o k

pub left-sound : (stays : Address → Bool) (view : ViewId) (last : Token) (l : Lock) → IsLock l → is_up_to l.token last ≡ true → IsToken last → IsViewId view → (next_token view last).count ≤ GREATEST_NUMBER → IsSound view l last (left_to stays view last l)
left-sound stays view last l is up token id few = by (stays l.holder) where
  next : Token
  next = next_token view last

  unchanged : (o : Option Lock) → ((k : Lock) → o ≡ Some k → IsKept l last (record { lock = o; last = last }) k) → IsSound view l last (record { lock = o; last = last })
  unchanged o lock = record { token = token; up = up-refl last; next = omega arith; lock = lock }

  waiting : AllByRecursion IsAddress (filter stays l.waiters)
  waiting = all-filter IsAddress stays l.waiters is.waiters

  by-first : (ps : List Address) → AllByRecursion IsAddress ps → length ps ≤ length l.waiters → IsSound view l last (passed_on last (next_token view last) ps)
  by-first [] all less = unchanged None (λ k e. absurd cc)
  by-first (p ∷ ps) all less = record {
    token = next-is-token view last id token few;
    up = next-up view last;
    next = omega (arith, next-next view last);
    lock = λ k e. subst (λ (x : Lock). IsKept l last (record { lock = Some (record { holder = p; token = next_token view last; waiters = ps }); last = next_token view last }) x) (same_Some (record { holder = p; token = next_token view last; waiters = ps }) k e) (record {
      is = record { holder = all.0; token = next-is-token view last id token few; waiters = all.1 };
      up = up-refl (next_token view last);
      few = omega (arith, less);
    });
  }

  by : (b : Bool) → IsSound view l last (cond b (record { lock = Some (record { holder = l.holder; token = l.token; waiters = filter stays l.waiters }); last = last }) (passed_on last (next_token view last) (filter stays l.waiters)))
  by true = unchanged (Some (record { holder = l.holder; token = l.token; waiters = filter stays l.waiters })) (λ k e. held k e) where
    held : (k : Lock) → Some (record { holder = l.holder; token = l.token; waiters = filter stays l.waiters }) ≡ Some k → IsKept l last (record { lock = Some (record { holder = l.holder; token = l.token; waiters = filter stays l.waiters }); last = last }) k
    held k e =
        let same : record { holder = l.holder; token = l.token; waiters = filter stays l.waiters } ≡ k = cc in
        subst (λ (x : Lock). IsKept l last (record { lock = Some (record { holder = l.holder; token = l.token; waiters = filter stays l.waiters }); last = last }) x) same (record { is = record { holder = is.holder; token = is.token; waiters = waiting }; up = up; few = few-filter stays l.waiters })
  by false = by-first (filter stays l.waiters) waiting (few-filter stays l.waiters)

-- ---- a roll

-- what holds of the locks, and of the last token, after a roll
pub record IsRolled (last : Token) (es : List (KeyedEntry Lock)) (s : Table) : Type 0 where
  pub token : IsToken s.last
  pub up : is_up_to last s.last ≡ true
  pub entries : AllByRecursion IsEntry s.entries
  pub tokens : AreUpTo s.last s.entries
  pub below : (k : List ℕ) → IsBelowAll k es → IsBelowAll k s.entries
  pub rises : Rises s.entries
  pub size : sum_by lock_size s.entries ≤ sum_by lock_size es

-- what is needed of them before it
pub record MayRoll (view : ViewId) (last : Token) (es : List (KeyedEntry Lock)) : Type 0 where
  pub id : IsViewId view
  pub token : IsToken last
  pub entries : AllByRecursion IsEntry es
  pub tokens : AreUpTo last es
  pub rises : Rises es
  pub few : (next_token view last).count + length es ≤ GREATEST_NUMBER

pub roll-goes-on : (view : ViewId) (last : Token) (e : KeyedEntry Lock) (es : List (KeyedEntry Lock)) (o : Outcome) → MayRoll view last (e ∷ es) → IsSound view e.value last o → MayRoll view o.last es
roll-goes-on view last e es o may sound = record {
  id = may.id;
  token = sound.token;
  entries = may.entries.1;
  tokens = states.all-up lock_form last o.last es may.tokens.1 sound.up;
  rises = may.rises.1;
  few = let few : (next_token view last).count + suc (length es) ≤ GREATEST_NUMBER = may.few in omega (arith, few, sound.next);
}

pub first-sound : (stays : Address → Bool) (view : ViewId) (last : Token) (e : KeyedEntry Lock) (es : List (KeyedEntry Lock)) → MayRoll view last (e ∷ es) → IsSound view e.value last (left_to stays view last e.value)
first-sound stays view last e es may =
    let few : (next_token view last).count + suc (length es) ≤ GREATEST_NUMBER = may.few in
    left-sound stays view last e.value may.entries.0.value may.tokens.0 may.token may.id (omega (arith, few))

pub rolled-is : (stays : Address → Bool) (view : ViewId) (last : Token) (es : List (KeyedEntry Lock)) → MayRoll view last es → IsRolled last es (rolled stays view last es)
rolled-is stays view last [] may = record { token = may.token; up = up-refl last; entries = tt; tokens = tt; below = λ k all. tt; rises = tt; size = omega arith }
rolled-is stays view last (e ∷ es) may =
    let o = left_to stays view last e.value in
    let sound = first-sound stays view last e es may in
    by o.lock sound.lock sound.up (rolled-is stays view o.last es (roll-goes-on view last e es o may sound))
  where
    by : (k : Option Lock) → ((l : Lock) → k ≡ Some l → IsKept e.value last (left_to stays view last e.value) l) → is_up_to last (left_to stays view last e.value).last ≡ true
        → IsRolled (left_to stays view last e.value).last es (rolled stays view (left_to stays view last e.value).last es)
        → IsRolled last (e ∷ es) (before e.key k (rolled stays view (left_to stays view last e.value).last es))
    by None lock up rest = record {
      token = rest.token;
      up = up-trans last _ _ up rest.up;
      entries = rest.entries;
      tokens = rest.tokens;
      below = λ k all. rest.below k all.1;
      rises = rest.rises;
      size = omega (arith, rest.size, sum_by-cons lock_size e es);
    }
    by (Some l) lock up rest =
        let kept = lock l refl in
        record {
          token = rest.token;
          up = up-trans last _ _ up rest.up;
          entries = (record { key = may.entries.0.key; value = kept.is }, rest.entries);
          tokens = (up-trans l.token _ _ kept.up rest.up, rest.tokens);
          below = λ k all. (all.0, rest.below k all.1);
          rises = (rest.below e.key may.rises.0, rest.rises);
          size = omega (arith, rest.size, kept.few, sum_by-cons lock_size e es, sum_by-cons lock_size (entry_of e.key l) (rolled stays view (left_to stays view last e.value).last es).entries);
        }

pub rolled-is-table : (stays : Address → Bool) (view : ViewId) (s : Table) → IsViewId view → IsTable s → (next_token view s.last).count + length s.entries ≤ GREATEST_NUMBER → IsTable (rolled stays view s.last s.entries)
rolled-is-table stays view s id is few =
    let r = rolled-is stays view s.last s.entries (record { id = id; token = is.last; entries = is.entries; tokens = is.tokens; rises = is.rises; few = few }) in
    let fits : table_size s.entries ≤ STATE = is.fits in
    record { last = r.token; entries = r.entries; tokens = r.tokens; rises = r.rises; fits = omega (arith, fits, r.size) }

-- ---- a release

released-by : (p : Address) (view : ViewId) (name : List ℕ) (s : Table) (l : Lock) → IsTable s → IsViewId view → IsKey name → value_of name s.entries ≡ Some l → (next_token view s.last).count ≤ GREATEST_NUMBER → IsTable (gone_from p view name s (Some l))
released-by p view name s l is id key at few = by o.lock sound.lock where
  o : Outcome
  o = left_to (others p) view s.last l

  sound : IsSound view l s.last o
  sound = left-sound (others p) view s.last l (states.value-is lock_form name l s is at) (states.token-up lock_form name l s is at) is.last id few

  by : (k : Option Lock) → ((x : Lock) → k ≡ Some x → IsKept l s.last o x) → IsTable (table_of o.last (with_lock name k s.entries))
  by None lock = states.without_is_state lock_form name o.last s is sound.token sound.up
  by (Some x) lock =
      let fits : table_size s.entries ≤ STATE = is.fits in
      let kept = lock x refl in
      states.put_is_state lock_form name x o.last s is key kept.is sound.token sound.up kept.up (omega (arith, fits, kept.few, states.size-put lock_form name s.entries l x at))

pub released-is-table : (p : Address) (view : ViewId) (name : List ℕ) (s : Table) → IsTable s → IsViewId view → IsKey name → (next_token view s.last).count ≤ GREATEST_NUMBER → IsTable (released p view name s)
released-is-table p view name s is id key few = by (value_of name s.entries) refl where
  by : (o : Option Lock) → value_of name s.entries ≡ o → IsTable (gone_from p view name s o)
  by None at = is
  by (Some l) at = released-by p view name s l is id key at few

-- ---- an acquisition

pub within-is-table : (s new : Table) → IsTable s → (table_size new.entries ≤ STATE → IsTable new) → IsTable (within s new)
within-is-table s new is fits = by (leb (table_size new.entries) STATE) refl where
  by : (b : Bool) → leb (table_size new.entries) STATE ≡ b → IsTable (cond b new s)
  by true e = fits (leb-true _ _ e)
  by false e = is

joined-is-lock : (p : Address) (l : Lock) → IsAddress p → IsLock l → IsLock (joined_by p l)
joined-is-lock p l address is = by (stands_in p (queue l)) where
  by : (b : Bool) → IsLock (cond b l (record { holder = l.holder; token = l.token; waiters = l.waiters ++ p ∷ [] }))
  by true = is
  by false = record { holder = is.holder; token = is.token; waiters = all-push IsAddress l.waiters p is.waiters address }

joined-token : (p : Address) (l : Lock) → (joined_by p l).token ≡ l.token
joined-token p l = by (stands_in p (queue l)) where
  by : (b : Bool) → (cond b l (record { holder = l.holder; token = l.token; waiters = l.waiters ++ p ∷ [] })).token ≡ l.token
  by true = refl
  by false = refl

pub acquired-is-table : (p : Address) (view : ViewId) (name : List ℕ) (s : Table) → IsTable s → IsAddress p → IsViewId view → IsKey name → (next_token view s.last).count ≤ GREATEST_NUMBER → IsTable (within s (acquired p view name s))
acquired-is-table p view name s is address id key few = within-is-table s (acquired p view name s) is (by (value_of name s.entries) refl) where
  by : (o : Option Lock) → value_of name s.entries ≡ o → table_size (asked p view name s o).entries ≤ STATE → IsTable (asked p view name s o)
  by None at small =
      let next = next_token view s.last in
      let token = next-is-token view s.last id is.last few in
      states.put_is_state lock_form name (granted p next) next s is key (record { holder = address; token = token; waiters = tt }) token (next-up view s.last) (up-refl next) small
  by (Some l) at small =
      let lock = joined-is-lock p l address (states.value-is lock_form name l s is at) in
      let up : is_up_to (joined_by p l).token s.last ≡ true = ap (λ (t : Token). is_up_to t s.last) (joined-token p l) ∙ states.token-up lock_form name l s is at in
      states.put_is_state lock_form name (joined_by p l) s.last s is key lock is.last (up-refl s.last) up small
