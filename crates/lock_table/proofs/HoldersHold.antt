-- A holder holds on until it leaves.
use Rattle.std.proofs.Common.{◌≡◌, ℕ, Bool, true, false, not, List, [], ◌∷◌, ◌++◌, Option, Some, refl, sym, ap, subst, ◌∙◌}
use Rattle.std.specs.List.{filter, AllByRecursion, list_any}
use Rattle.std.specs.Option.{option_map, IsSomeAnd}
use Rattle.std.proofs.lemmas.Bool.{or_parts}
use Rattle.std.proofs.lemmas.Option.{same_Some}
use Rattle.address.specs.Ids.{Address, ViewId}
use Rattle.keyed_state.specs.declared.token.Token.{Token}
use Rattle.lock_table.specs.declared.command.Command.{Command}
use Rattle.lock_table.specs.Locks.{Lock, Table, IsTable, lock_of, left_to}
use Rattle.lock_table.specs.Commands.{command_of}
use Rattle.lock_table.specs.StepLaws.{all-push}
use Rattle.lock_table.specs.CommandLaws.{applied_is_table}
use Rattle.lock_table.specs.Turns.{Message, IsMessage, after, after_all, token_of, leaves_by, leaves, Grants}
use Rattle.lock_table.proofs.MessagesTurnLocks.{IsTurn, Unchanged, Aside, Free, Granted, Joined, Left, with_one, turn}

-- a lock with the holder and the token of another
pub record HeldOn (l : Lock) (o : Option Lock) : Type 0 where
  pub lock : Lock
  pub at : o ≡ Some lock
  pub holder : lock.holder ≡ l.holder
  pub token : lock.token ≡ l.token

the-same : (l : Lock) (o : Option Lock) → o ≡ Some l → HeldOn l o
the-same l o at = record { lock = l; at = at; holder = refl; token = refl }

left-holds : (stays : Address → Bool) (view : ViewId) (last : Token) (l : Lock) → stays l.holder ≡ true → HeldOn l (left_to stays view last l).lock
left-holds stays view last l e = record {
  lock = record { holder = l.holder; token = l.token; waiters = filter stays l.waiters };
  at = rw e refl;
  holder = refl;
  token = refl;
}

pub holds-one : (name : List ℕ) (from : Address) (o : Option Command) (s t : Table) (l : Lock) → IsTurn name from o s t → lock_of name s ≡ Some l → leaves_by name l.holder from o ≡ false → HeldOn l (lock_of name t)
holds-one name from o s t l (Unchanged e) here stays = the-same l (lock_of name t) (ap (lock_of name) e ∙ here)
holds-one name from o s t l (Aside at none comes) here stays = the-same l (lock_of name t) (at ∙ here)
holds-one name from o s t l (Free before new comes) here stays = let n = sym before ∙ here in absurd cc
holds-one name from o s t l (Granted view before new none comes) here stays = let n = sym before ∙ here in absurd cc
holds-one name from o s t l (Joined x at new none comes) here stays =
    let same : x ≡ l = same_Some x l (sym at ∙ here) in
    record { lock = with_one from x; at = new; holder = ap (λ (y : Lock). y.holder) same; token = ap (λ (y : Lock). y.token) same }
holds-one name from o s t l (Left view last x at up new comes) here stays =
    let same : x ≡ l = same_Some x l (sym at ∙ here) in
    let held = left-holds (λ p. not (leaves_by name p from o)) view last l (ap not stays) in
    record { lock = held.lock; at = new ∙ ap (λ (y : Lock). (left_to (λ p. not (leaves_by name p from o)) view last y).lock) same ∙ held.at; holder = held.holder; token = held.token }

pub after-is-table : (s : Table) (m : Message) → IsTable s → IsMessage m → IsTable (after s m)
after-is-table s m is one = applied_is_table s m.from m.payload is one.from one.payload

pub all-is-table : (ms : List Message) (s : Table) → IsTable s → AllByRecursion IsMessage ms → IsTable (after_all s ms)
all-is-table [] s is all = is
all-is-table (m ∷ ms) s is all = all-is-table ms (after s m) (after-is-table s m is all.0) all.1

pub holds-on : (ms : List Message) (s : Table) (name : List ℕ) (l : Lock) → IsTable s → AllByRecursion IsMessage ms → lock_of name s ≡ Some l → list_any (leaves name l.holder) ms ≡ false → HeldOn l (lock_of name (after_all s ms))
holds-on [] s name l is all here stays = the-same l (lock_of name s) here
holds-on (m ∷ ms) s name l is all here stays =
    let parts = or_parts (leaves name l.holder m) (list_any (leaves name l.holder) ms) stays in
    let one = holds-one name m.from (command_of m.payload) s (after s m) l (turn name m.from (command_of m.payload) s is.rises) here parts.0 in
    let rest = holds-on ms (after s m) name one.lock (after-is-table s m is all.0) all.1 one.at (ap (λ (p : Address). list_any (leaves name p) ms) one.holder ∙ parts.1) in
    record { lock = rest.lock; at = rest.at; holder = rest.holder ∙ one.holder; token = rest.token ∙ one.token }

pub holds-said : (l : Lock) (o : Option Lock) → HeldOn l o → IsSomeAnd o (λ k. (k.holder ≡ l.holder) × (k.token ≡ l.token))
holds-said l o held = subst (λ (x : Option Lock). IsSomeAnd x (λ k. (k.holder ≡ l.holder) × (k.token ≡ l.token))) (sym held.at) (held.holder, held.token)

-- after one more message
pub after-push : (ms : List Message) (s : Table) (m : Message) → after_all s (ms ++ m ∷ []) ≡ after (after_all s ms) m
after-push [] s m = refl
after-push (x ∷ ms) s m = after-push ms (after s x) m

any-push : (f : Message → Bool) (ms : List Message) (m : Message) → list_any f (ms ++ m ∷ []) ≡ false → list_any f ms ≡ false
any-push f [] m e = refl
any-push f (x ∷ ms) m e = let parts = or_parts (f x) (list_any f (ms ++ m ∷ [])) e in rw (parts.0, any-push f ms m parts.1) refl

-- between two grants the first holder leaves
pub leaves-between : (s : Table) (m : Message) (ms : List Message) (n : Message) (name : List ℕ) (l k : Lock) → IsTable s → IsMessage m → AllByRecursion IsMessage ms → IsMessage n
    → Grants name m s l → Grants name n (after_all (after s m) ms) k → list_any (leaves name l.holder) (ms ++ n ∷ []) ≡ true
leaves-between s m ms n name l k is one all other first second = by (list_any (leaves name l.holder) (ms ++ n ∷ [])) refl where
  start : Table
  start = after s m

  by : (b : Bool) → list_any (leaves name l.holder) (ms ++ n ∷ []) ≡ b → b ≡ true
  by true e = refl
  by false e =
      let is-start = after-is-table s m is one in
      let before = holds-on ms start name l is-start all first.stands (any-push (leaves name l.holder) ms n e) in
      let later = holds-on (ms ++ n ∷ []) start name l is-start (all-push IsMessage ms n all other) first.stands e in
      let stands : lock_of name (after_all start (ms ++ n ∷ [])) ≡ Some k = ap (lock_of name) (after-push ms start n) ∙ second.stands in
      let same : later.lock ≡ k = same_Some later.lock k (sym later.at ∙ stands) in
      let token : k.token ≡ l.token = ap (λ (x : Lock). x.token) (sym same) ∙ later.token in
      let had : token_of name (after_all start ms) ≡ Some k.token = ap (option_map (λ x. x.token)) before.at ∙ ap (λ (t : Token). Some t) (before.token ∙ sym token) in
      absurd (second.new had)
