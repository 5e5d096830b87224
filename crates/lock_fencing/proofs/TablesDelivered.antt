-- What is delivered are messages of the table, and so each state is one that a table can be in.
use Rattle.std.proofs.Common.{◌≡◌, ℕ, zero, suc, ◌≤◌, Bool, true, false, cond, ◌&&◌, List, [], ◌∷◌, ◌++◌, map, length, take, drop, Option, Some, None, refl, sym, subst, ◌∙◌, arith}
use Rattle.std.specs.Prelude.{unwrap_or}
use Rattle.std.specs.List.{AllByRecursion, slice_get}
use Rattle.std.specs.Option.{option_and_then}
use Rattle.std.proofs.lemmas.Option.{none-some, same_Some, cond_some}
use Rattle.std.proofs.lemmas.List.{take_all}
use Rattle.address.specs.Ids.{Address, ViewId, same_address, same_view_id}
use Rattle.trace_props.specs.declared.event.Event.{Event}
use Rattle.trace_props.specs.declared.event.Event.TheVariants.{Started, Sent, Delivered, Blocked, Installed, Left, Crashed}
use Rattle.trace_props.specs.declared.event.Message.{Message as Carried}
use Rattle.trace_props.specs.Observed.{delivered_message, delivered_in}
use Rattle.trace_props.specs.State.{state_of}
use Rattle.trace_props.proofs.RulesAlongLists.{take-next}
use Rattle.trace_props.proofs.RuleOfEntry.{state_of-push}
use Rattle.law_processes.proofs.ElementsComeFrom.{comes-at}
use Rattle.lock_table.specs.Locks.{Table, IsTable}
use Rattle.lock_table.specs.Encoding.{table_decode}
use Rattle.lock_table.specs.Commands.{table_apply}
use Rattle.lock_table.specs.CommandLaws.{applied_is_table}
use Rattle.lock_table.specs.TableLaws.{decoded_is_table, no_locks_is_table}
use Rattle.lock_table.specs.Meanings.{table_meaning}
use Rattle.lock_table.specs.Turns.{IsMessage}
use Rattle.lock_fencing.specs.Fencing.{message_in, CarriesMessages}

-- ---- lists

pub all-from : {X : Type 0} (P : X → Type 0) (xs : List X) → ((k : ℕ) (x : X) → slice_get xs k ≡ Some x → P x) → AllByRecursion P xs
all-from P [] each = tt
all-from P (x ∷ xs) each = (each 0 x refl, all-from P xs (λ k y e. each (suc k) y e))

pub past : {X : Type 0} (n : ℕ) (xs : List X) → slice_get xs n ≡ None → length xs ≤ n
past n [] none = omega arith
past zero (x ∷ xs) none = absurd (none-some x (sym none))
past (suc n) (x ∷ xs) none = let rest = past n xs none in omega (arith, rest)

-- ---- messages

abbrev pub AreMessages : List Carried → Type 0
AreMessages ms = AllByRecursion IsMessage (map message_in ms)

mapped : (ms : List Carried) → AllByRecursion (λ m. IsMessage (message_in m)) ms → AreMessages ms
mapped [] all = tt
mapped (m ∷ ms) all = (all.0, mapped ms all.1)

pub messages-take : (n : ℕ) (ms : List Carried) → AreMessages ms → AreMessages (take n ms)
messages-take zero ms all = tt
messages-take (suc n) [] all = tt
messages-take (suc n) (m ∷ ms) all = (all.0, messages-take n ms all.1)

pub messages-drop : (n : ℕ) (ms : List Carried) → AreMessages ms → AreMessages (drop n ms)
messages-drop zero ms all = all
messages-drop (suc n) [] all = tt
messages-drop (suc n) (m ∷ ms) all = messages-drop n ms all.1

pub message-at : (n : ℕ) (ms : List Carried) (m : Carried) → AreMessages ms → slice_get ms n ≡ Some m → IsMessage (message_in m)
message-at n [] m all e = absurd (none-some m e)
message-at zero (x ∷ ms) m all e = subst (λ (y : Carried). IsMessage (message_in y)) (same_Some x m e) all.0
message-at (suc n) (x ∷ ms) m all e = message-at n ms m all.1 e

module _ (t : List Event) (carries : CarriesMessages t) where
  delivered-is : (q : Address) (v : ViewId) (m : Carried) (k : ℕ) (h : Event) → slice_get t k ≡ Some h → delivered_message q v h ≡ Some m → IsMessage (message_in m)
  delivered-is q v m k (Started p) at e = absurd (none-some m e)
  delivered-is q v m k (Sent s) at e = absurd (none-some m e)
  delivered-is q v m k (Delivered d) at e =
      subst (λ (x : Carried). IsMessage (message_in x)) (cond_some (same_address d.member q && same_view_id d.view v) d.message m e).1 (carries k d at)
  delivered-is q v m k (Blocked p) at e = absurd (none-some m e)
  delivered-is q v m k (Installed i) at e = absurd (none-some m e)
  delivered-is q v m k (Left p) at e = absurd (none-some m e)
  delivered-is q v m k (Crashed p) at e = absurd (none-some m e)

  pub delivered-are : (q : Address) (v : ViewId) → AreMessages (delivered_in q v t)
  delivered-are q v = mapped (delivered_in q v t) (all-from (λ m. IsMessage (message_in m)) (delivered_in q v t) (λ k m e.
      let from = comes-at (delivered_message q v) t k m e in
      delivered-is q v m from.place from.it from.stands from.gives))

  -- ---- states

  given-by : (o : Option (List ℕ)) (s : Table) → IsTable s → IsTable (unwrap_or (option_and_then table_meaning.decode o) s)
  given-by None s is = is
  given-by (Some bytes) s is = by (table_decode bytes) refl where
    by : (r : Option Table) → table_decode bytes ≡ r → IsTable (unwrap_or r s)
    by None e = is
    by (Some x) e = decoded_is_table bytes x e

  either : (b : Bool) (x s : Table) → IsTable x → IsTable s → IsTable (cond b x s)
  either true x s new old = new
  either false x s new old = old

  table-next : (p : Address) (n : ℕ) (h : Event) → slice_get t n ≡ Some h → IsTable (state_of table_meaning p (take n t)) → IsTable (state_of table_meaning p (take n t ++ h ∷ []))
  table-next p n (Started q) at is = subst IsTable (sym (state_of-push table_meaning p (take n t) (Started q))) is
  table-next p n (Sent s) at is = subst IsTable (sym (state_of-push table_meaning p (take n t) (Sent s))) is
  table-next p n (Delivered d) at is =
      let one = carries n d at in
      let s = state_of table_meaning p (take n t) in
      subst IsTable (sym (state_of-push table_meaning p (take n t) (Delivered d)))
      (either (same_address d.member p) (table_apply s d.message.sender d.message.payload) s (applied_is_table s d.message.sender d.message.payload is one.from one.payload) is)
  table-next p n (Blocked q) at is = subst IsTable (sym (state_of-push table_meaning p (take n t) (Blocked q))) is
  table-next p n (Installed i) at is =
      let s = state_of table_meaning p (take n t) in
      subst IsTable (sym (state_of-push table_meaning p (take n t) (Installed i))) (either (same_address i.member p) _ s (given-by i.given s is) is)
  table-next p n (Left q) at is = subst IsTable (sym (state_of-push table_meaning p (take n t) (Left q))) is
  table-next p n (Crashed q) at is = subst IsTable (sym (state_of-push table_meaning p (take n t) (Crashed q))) is

  pub states-are : (n : ℕ) (p : Address) → IsTable (state_of table_meaning p (take n t))
  states-are zero p = no_locks_is_table
  states-are (suc n) p = by (slice_get t n) refl (states-are n p) where
    by : (o : Option Event) → slice_get t n ≡ o → IsTable (state_of table_meaning p (take n t)) → IsTable (state_of table_meaning p (take (suc n) t))
    by None at is =
        let le : length t ≤ n = past n t at in
        subst (λ (l : List Event). IsTable (state_of table_meaning p l)) (take_all n t le ∙ sym (take_all (suc n) t (omega (arith, le)))) is
    by (Some h) at is = subst (λ (l : List Event). IsTable (state_of table_meaning p l)) (sym (take-next n t h at)) (table-next p n h at is)
