-- What an acquisition and a release make of the locks in their places.
use Rattle.std.proofs.Common.{◌≡◌, ℕ, zero, suc, ◌+◌, ◌<◌, ◌≤◌, Bool, true, false, cond, leb, not, List, [], ◌∷◌, ◌++◌, length, set, Option, Some, None, refl, sym, ap, ◌∙◌, arith}
use Rattle.std.specs.List.{slice_get, insert, remove}
use Rattle.std.proofs.lemmas.Bool.{leb-true, le-leb, cond-true}
use Rattle.std.proofs.lemmas.List.{length-append}
use Rattle.std.proofs.lemmas.List.Sums.{sum_by-insert}
use Rattle.address.specs.declared.limits.TheConstants.{STATE}
use Rattle.address.specs.Ids.{Address, ViewId, same_address}
use Rattle.view.specs.Members.{stands_in}
use Rattle.keyed_state.specs.declared.entries.KeyedEntry.{KeyedEntry}
use Rattle.keyed_state.specs.Entries.{entry_of, value_of, put, IsHeldAt, IsFreeAt}
use Rattle.keyed_state.specs.declared.token.Token.{Token}
use Rattle.keyed_state.specs.Tokens.{next_token}
use Rattle.lock_table.specs.Locks.{Lock, Table, queue, granted, joined_by, left_to, others, with_lock, table_of, lock_size, table_size, acquired, asked, gone_from, released, within, IsLeft}
use Rattle.lock_table.specs.Forms.{lock_form}
use Rattle.keyed_state.specs.StateLaws.{size-put}

remove-set : {X : Type 0} (xs : List X) (i : ℕ) (y : X) → remove (set xs i y) i ≡ remove xs i
remove-set [] i y = refl
remove-set (x ∷ xs) zero y = refl
remove-set (x ∷ xs) (suc i) y = ap (λ (l : List _). x ∷ l) (remove-set xs i y)

-- ---- a release

pub gone-freed : (p : Address) (view : ViewId) (k : List ℕ) (last : Token) (entries : List (KeyedEntry Lock)) (i : ℕ) (x : KeyedEntry Lock) (l : Lock) (token : Token) → IsHeldAt k entries i → slice_get entries i ≡ Some x
    → IsLeft (others p) (left_to (others p) view last x.value) l token → same_address p l.holder ≡ true → table_of token (remove (set entries i (entry_of x.key l)) i) ≡ released p view k (table_of last entries)
gone-freed p view k last entries i x l token held stands left is =
    let at : value_of k entries ≡ Some x.value = held.value x stands in
    let o = left_to (others p) view last x.value in
    let free : o.lock ≡ None = left.lock ∙ ap (λ (b : Bool). cond (not b) (Some l) None) is in
    let entries-are : remove (set entries i (entry_of x.key l)) i ≡ with_lock k o.lock entries = remove-set entries i (entry_of x.key l) ∙ sym held.takes ∙ ap (λ (m : Option Lock). with_lock k m entries) (sym free) in
    ap (table_of token) entries-are ∙ ap (λ (t : Token). table_of t (with_lock k o.lock entries)) (sym left.last) ∙ ap (gone_from p view k (table_of last entries)) (sym at)

pub gone-kept : (p : Address) (view : ViewId) (k : List ℕ) (last : Token) (entries : List (KeyedEntry Lock)) (i : ℕ) (x : KeyedEntry Lock) (l : Lock) (token : Token) → IsHeldAt k entries i → slice_get entries i ≡ Some x
    → IsLeft (others p) (left_to (others p) view last x.value) l token → same_address p l.holder ≡ false → table_of token (set entries i (entry_of x.key l)) ≡ released p view k (table_of last entries)
gone-kept p view k last entries i x l token held stands left is =
    let at : value_of k entries ≡ Some x.value = held.value x stands in
    let o = left_to (others p) view last x.value in
    let kept : o.lock ≡ Some l = left.lock ∙ ap (λ (b : Bool). cond (not b) (Some l) None) is in
    let entries-are : set entries i (entry_of x.key l) ≡ with_lock k o.lock entries = sym (held.puts x l stands) ∙ ap (λ (m : Option Lock). with_lock k m entries) (sym kept) in
    ap (table_of token) entries-are ∙ ap (λ (t : Token). table_of t (with_lock k o.lock entries)) (sym left.last) ∙ ap (gone_from p view k (table_of last entries)) (sym at)

-- ---- an acquisition

stays-away : (s new : Table) → STATE < table_size new.entries → s ≡ within s new
stays-away s new more = by (leb (table_size new.entries) STATE) refl where
  by : (b : Bool) → leb (table_size new.entries) STATE ≡ b → s ≡ cond b new s
  by true test = let small : table_size new.entries ≤ STATE = leb-true _ _ test in absurd (omega (arith, small, more))
  by false test = refl

pub comes-in : (s new : Table) → table_size new.entries ≤ STATE → new ≡ within s new
comes-in s new few = sym (cond-true (leb (table_size new.entries) STATE) new s (le-leb _ _ few))

either-way : (s new : Table) → new ≡ s → s ≡ within s new
either-way s new same = by (leb (table_size new.entries) STATE) where
  by : (b : Bool) → s ≡ cond b new s
  by true = sym same
  by false = refl

-- what is asked for where a lock is held
asked-held : (p : Address) (view : ViewId) (k : List ℕ) (last : Token) (entries : List (KeyedEntry Lock)) (l : Lock) → value_of k entries ≡ Some l → acquired p view k (table_of last entries) ≡ table_of last (put k (joined_by p l) entries)
asked-held p view k last entries l at = ap (asked p view k (table_of last entries)) at

pub set-same : (xs : List (KeyedEntry Lock)) (i : ℕ) (x : KeyedEntry Lock) → slice_get xs i ≡ Some x → set xs i x ≡ xs
set-same [] i x e = refl
set-same (y ∷ xs) zero x e = let same : y ≡ x = cc in ap (λ (z : KeyedEntry Lock). z ∷ xs) (sym same)
set-same (y ∷ xs) (suc i) x e = ap (λ (l : List (KeyedEntry Lock)). y ∷ l) (set-same xs i x e)

joined-there : (p : Address) (l : Lock) → stands_in p (queue l) ≡ true → joined_by p l ≡ l
joined-there p l e = ap (λ (b : Bool). cond b l (record { holder = l.holder; token = l.token; waiters = l.waiters ++ p ∷ [] })) e

joined-new : (p : Address) (l : Lock) → stands_in p (queue l) ≡ false → length (joined_by p l).waiters ≡ length l.waiters + 1
joined-new p l e = ap (λ (b : Bool). length (cond b l (record { holder = l.holder; token = l.token; waiters = l.waiters ++ p ∷ [] })).waiters) e ∙ length-append l.waiters (p ∷ [])

-- one stands there already
pub stands-already : (p : Address) (view : ViewId) (k : List ℕ) (last : Token) (entries : List (KeyedEntry Lock)) (i : ℕ) (x : KeyedEntry Lock) → IsHeldAt k entries i → slice_get entries i ≡ Some x → stands_in p (queue x.value) ≡ true
    → table_of last entries ≡ within (table_of last entries) (acquired p view k (table_of last entries))
stands-already p view k last entries i x held stands e =
    either-way (table_of last entries) (acquired p view k (table_of last entries))
    (asked-held p view k last entries x.value (held.value x stands) ∙ ap (λ (l : Lock). table_of last (put k l entries)) (joined-there p x.value e) ∙ ap (table_of last) (held.puts x x.value stands ∙ set-same entries i x stands))

-- one waits
pub joins : (p : Address) (view : ViewId) (k : List ℕ) (last : Token) (entries : List (KeyedEntry Lock)) (i : ℕ) (x : KeyedEntry Lock) (l : Lock) → IsHeldAt k entries i → slice_get entries i ≡ Some x → stands_in p (queue x.value) ≡ false → l ≡ joined_by p x.value → table_size entries + 6 ≤ STATE
    → table_of last (set entries i (entry_of x.key l)) ≡ within (table_of last entries) (acquired p view k (table_of last entries))
joins p view k last entries i x l held stands e is few =
    let at = held.value x stands in
    let new = asked-held p view k last entries x.value at in
    let size = size-put lock_form k entries x.value (joined_by p x.value) at in
    let puts : set entries i (entry_of x.key l) ≡ put k (joined_by p x.value) entries = ap (λ (m : Lock). set entries i (entry_of x.key m)) is ∙ sym (held.puts x (joined_by p x.value) stands) in
    let sizes : table_size (acquired p view k (table_of last entries)).entries ≡ table_size (put k (joined_by p x.value) entries) = ap (λ (t : Table). table_size t.entries) new in
    ap (table_of last) puts ∙ sym new ∙ comes-in (table_of last entries) (acquired p view k (table_of last entries)) (omega (arith, sizes, size, joined-new p x.value e, few))

-- one may not wait, since the state would be too long
pub joins-not : (p : Address) (view : ViewId) (k : List ℕ) (last : Token) (entries : List (KeyedEntry Lock)) (i : ℕ) (x : KeyedEntry Lock) → IsHeldAt k entries i → slice_get entries i ≡ Some x → stands_in p (queue x.value) ≡ false → STATE < table_size entries + 6
    → table_of last entries ≡ within (table_of last entries) (acquired p view k (table_of last entries))
joins-not p view k last entries i x held stands e more =
    let at = held.value x stands in
    let new = asked-held p view k last entries x.value at in
    let size = size-put lock_form k entries x.value (joined_by p x.value) at in
    let sizes : table_size (acquired p view k (table_of last entries)).entries ≡ table_size (put k (joined_by p x.value) entries) = ap (λ (t : Table). table_size t.entries) new in
    stays-away (table_of last entries) (acquired p view k (table_of last entries)) (omega (arith, sizes, size, joined-new p x.value e, more))

-- a lock that is free
asked-free : (p : Address) (view : ViewId) (k : List ℕ) (last : Token) (entries : List (KeyedEntry Lock)) (i : ℕ) → IsFreeAt k entries i
    → acquired p view k (table_of last entries) ≡ table_of (next_token view last) (insert entries i (entry_of k (granted p (next_token view last))))
asked-free p view k last entries i free = ap (asked p view k (table_of last entries)) free.value ∙ ap (table_of (next_token view last)) (free.puts (granted p (next_token view last)))

size-free : (p : Address) (view : ViewId) (k : List ℕ) (last : Token) (entries : List (KeyedEntry Lock)) (i : ℕ) → IsFreeAt k entries i → table_size (acquired p view k (table_of last entries)).entries ≡ table_size entries + 33 + length k
size-free p view k last entries i free =
    let sums = sum_by-insert lock_size entries i (entry_of k (granted p (next_token view last))) in
    let sizes : table_size (acquired p view k (table_of last entries)).entries ≡ table_size (insert entries i (entry_of k (granted p (next_token view last)))) = ap (λ (t : Table). table_size t.entries) (asked-free p view k last entries i free) in
    omega (arith, sums, sizes)

pub grants : (p : Address) (view : ViewId) (k : List ℕ) (last : Token) (entries : List (KeyedEntry Lock)) (i : ℕ) → IsFreeAt k entries i → table_size entries + 33 + length k ≤ STATE
    → table_of (next_token view last) (insert entries i (entry_of k (granted p (next_token view last)))) ≡ within (table_of last entries) (acquired p view k (table_of last entries))
grants p view k last entries i free few =
    sym (asked-free p view k last entries i free) ∙ comes-in (table_of last entries) (acquired p view k (table_of last entries)) (omega (arith, size-free p view k last entries i free, few))
