use Rattle.std.proofs.Common.{◌≡◌, ℕ, ◌≤◌, List, true, false, length, get_or, set, Some, refl, sym, ap, subst, ◌∙◌, arith}
use Rattle.std.specs.List.{slice_get, insert}
use Rattle.std.proofs.lemmas.Bool.{ltb-false}
use Rattle.std.proofs.lemmas.List.{set-get_or}
use Rattle.std.proofs.lemmas.Option.{slice_get_read}
use Rattle.address.specs.declared.limits.TheConstants.{GREATEST_NUMBER}
use Rattle.view.specs.Members.{stands_in}
use Rattle.keyed_state.specs.Entries.{IsHeldAt, IsFreeAt, entry_of}
use Rattle.keyed_state.specs.declared.entries.KeyedEntry.{KeyedEntry}
use Rattle.keyed_state.specs.Tokens.{next_token}
use Rattle.lock_table.specs.Locks.{IsTable, table_of, table_size, queue, granted}
use Rattle.lock_table.specs.declared.lock.Lock.{Lock}
use Rattle.lock_table.specs.StepLaws.{acquired-is-table}
use Rattle.lock_table.proofs.LocksInPlaces.{set-same, stands-already, joins, joins-not, grants}
use Rattle.lock_table.proofs.held.Held.acquire.Goals as goal

-- an entry that is put back as it was changes nothing
put-back : (entries : List (KeyedEntry Lock)) (i : ℕ) (x : KeyedEntry Lock) → x ≡ get_or entries i x → set entries i x ≡ entries
put-back entries i x e = ap (set entries i) e ∙ set-get_or entries i x

pub returns-then-has-clause-ok : goal.returns-then-has-clause-ok
returns-then-has-clause-ok c =
    let entries = c.args.self.now.entries.items in
    let k = c.args.name.now in
    let i = c.in-Held.i in
    let x = c.index_mut.result.now in
    let held : IsHeldAt k entries i = rw (c.as_slice-3.ensures.bytes, c.as_slice-2.ensures.value) at c.in-Held.ensures in
    let stands : slice_get entries i ≡ Some x = slice_get_read entries (length entries) i x refl held.within c.index_mut.ensures.value in
    let is : stands_in c.args.from (queue x.value) ≡ true = sym c.has.ensures ∙ c.if-has.true in
    ap (table_of c.args.self.now.last) (set-same entries i x stands) ∙ stands-already c.args.from c.args.view k c.args.self.now.last entries i x held stands is

pub returns-in_ok-join-in-Held-clause-ok : goal.returns-in_ok-join-in-Held-clause-ok
returns-in_ok-join-in-Held-clause-ok c =
    let entries = c.args.self.now.entries.items in
    let k = c.args.name.now in
    let i = c.in-Held.i in
    let x = c.index_mut.result.now in
    let held : IsHeldAt k entries i = rw (c.as_slice-3.ensures.bytes, c.as_slice-2.ensures.value) at c.in-Held.ensures in
    let stands : slice_get entries i ≡ Some x = slice_get_read entries (length entries) i x refl held.within c.index_mut.ensures.value in
    let is : stands_in c.args.from (queue x.value) ≡ false = sym c.has.ensures ∙ c.if-has.false in
    let size : c.size_of_all-size.result ≡ table_size entries = rw c.as_slice.ensures.value at c.size_of_all-size.ensures in
    joins c.args.from c.args.view k c.args.self.now.last entries i x c.join.new.self held stands is c.in_ok-join-in-Held.ensures.ok (omega (arith, size, c.if-size-le-STATE.true))

pub returns-else-size-le-STATE-clause-ok : goal.returns-else-size-le-STATE-clause-ok
returns-else-size-le-STATE-clause-ok c =
    let entries = c.args.self.now.entries.items in
    let k = c.args.name.now in
    let i = c.in-Held.i in
    let x = c.index_mut.result.now in
    let held : IsHeldAt k entries i = rw (c.as_slice-3.ensures.bytes, c.as_slice-2.ensures.value) at c.in-Held.ensures in
    let stands : slice_get entries i ≡ Some x = slice_get_read entries (length entries) i x refl held.within c.index_mut.ensures.value in
    let is : stands_in c.args.from (queue x.value) ≡ false = sym c.has.ensures ∙ c.if-has.false in
    let size : c.size_of_all-size.result ≡ table_size entries = rw c.as_slice.ensures.value at c.size_of_all-size.ensures in
    ap (table_of c.args.self.now.last) (set-same entries i x stands) ∙ joins-not c.args.from c.args.view k c.args.self.now.last entries i x held stands is (omega (arith, size, c.if-size-le-STATE.false))

pub returns-in_ok-insert-in-Free-clause-ok : goal.returns-in_ok-insert-in-Free-clause-ok
returns-in_ok-insert-in-Free-clause-ok c =
    let entries = c.args.self.now.entries.items in
    let k = c.args.name.now in
    let i = c.in-Free.i in
    let next = next_token c.args.view c.args.self.now.last in
    let free : IsFreeAt k entries i = rw (c.as_slice-3.ensures.bytes, c.as_slice-2.ensures.value) at c.in-Free.ensures in
    let size : c.size_of_all-size.result ≡ table_size entries = rw c.as_slice.ensures.value at c.size_of_all-size.ensures in
    let short : length c.as_slice-in-Free.result.now ≡ length k = ap length c.as_slice-in-Free.ensures.bytes in
    let entry : c.in_ok-entry-in-Free.entry ≡ entry_of k (granted c.args.from next) = c.in_ok-entry-in-Free.ensures ∙ ap (λ t. entry_of k (granted c.args.from t)) c.next-token.ensures in
    let items : c.insert.new.self.items ≡ insert entries i (entry_of k (granted c.args.from next)) = c.in_ok-insert-in-Free.ensures.items ∙ ap (insert entries i) entry in
    ap (λ t. table_of t c.insert.new.self.items) c.next-token.ensures ∙ ap (table_of next) items
    ∙ grants c.args.from c.args.view k c.args.self.now.last entries i free (omega (arith, size, short, c.if-size-as_slice-le-STATE.true))

pub returns-in_ok-join-in-Held-clause-kept : goal.returns-in_ok-join-in-Held-clause-kept
returns-in_ok-join-in-Held-clause-kept c =
    let s = table_of c.args.self.now.last c.args.self.now.entries.items in
    let few : (next_token c.args.view s.last).count ≤ GREATEST_NUMBER = omega (arith, ltb-false _ _ c.requires.numbers) in
    subst IsTable (sym (returns-in_ok-join-in-Held-clause-ok c)) (acquired-is-table c.args.from c.args.view c.args.name.now s c.requires.table c.known_address.ensures c.known_view_id.ensures (rw c.as_slice-3.ensures.bytes at c.as_slice-3.ensures.key) few)

pub returns-in_ok-insert-in-Free-clause-kept : goal.returns-in_ok-insert-in-Free-clause-kept
returns-in_ok-insert-in-Free-clause-kept c =
    let s = table_of c.args.self.now.last c.args.self.now.entries.items in
    let few : (next_token c.args.view s.last).count ≤ GREATEST_NUMBER = omega (arith, ltb-false _ _ c.requires.numbers) in
    subst IsTable (sym (returns-in_ok-insert-in-Free-clause-ok c)) (acquired-is-table c.args.from c.args.view c.args.name.now s c.requires.table c.known_address.ensures c.known_view_id.ensures (rw c.as_slice-3.ensures.bytes at c.as_slice-3.ensures.key) few)

pub returns-then-has-clause-kept : goal.returns-then-has-clause-kept
returns-then-has-clause-kept c =
    subst IsTable (ap (table_of c.args.self.now.last) (sym (put-back c.args.self.now.entries.items c.in-Held.i c.index_mut.result.now c.index_mut.ensures.value))) c.requires.table

pub returns-else-size-le-STATE-clause-kept : goal.returns-else-size-le-STATE-clause-kept
returns-else-size-le-STATE-clause-kept c =
    subst IsTable (ap (table_of c.args.self.now.last) (sym (put-back c.args.self.now.entries.items c.in-Held.i c.index_mut.result.now c.index_mut.ensures.value))) c.requires.table

pub returns-in_err-join-in-Held-clause-kept : goal.returns-in_err-join-in-Held-clause-kept
returns-in_err-join-in-Held-clause-kept c =
    let entries = c.args.self.now.entries.items in
    let x = c.index_mut.result.now in
    let same = ap (λ l. set entries c.in-Held.i (entry_of x.key l)) c.in_err-join-in-Held.ensures.err ∙ put-back entries c.in-Held.i x c.index_mut.ensures.value in
    subst IsTable (ap (table_of c.args.self.now.last) (sym same)) c.requires.table
