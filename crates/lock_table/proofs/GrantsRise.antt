-- The tokens of grants rise along the messages, and along the names that one message grants.
use Rattle.std.proofs.Common.{◌≡◌, ◌≢◌, ℕ, Bool, true, false, cond, not, List, [], ◌∷◌, Option, Some, None, refl, sym, ap, subst, ◌∙◌}
use Rattle.std.specs.List.{filter, AllByRecursion}
use Rattle.std.specs.Option.{option_map}
use Rattle.address.specs.Ids.{Address, ViewId}
use Rattle.keyed_state.specs.declared.token.Token.{Token}
use Rattle.lock_table.specs.declared.command.Command.{Command}
use Rattle.keyed_state.specs.Tokens.{next_token, is_up_to, IsBelow}
use Rattle.lock_table.specs.Locks.{Lock, Table, IsTable, lock_of, left_to, passed_on}
use Rattle.lock_table.specs.Commands.{command_of, after_command}
use Rattle.keyed_state.specs.TokenLaws.{up-refl, up-trans, up-below, next-above}
use Rattle.lock_table.specs.Forms.{lock_form}
use Rattle.keyed_state.specs.StateLaws.{token-up}
use Rattle.lock_table.specs.Turns.{Message, IsMessage, after, after_all, token_of, leaves_by, Grants}
use Rattle.lock_table.proofs.MessagesTurnLocks.{IsTurn, Unchanged, Aside, Free, Granted, Joined, Left, with_one, turn, carried-up}
use Rattle.lock_table.proofs.HoldersHold.{after-is-table, all-is-table}

abbrev pub token-in : Option Lock → Option Token
token-in o = option_map (λ (x : Lock). x.token) o

pub some-lock : (x y : Lock) → Some x ≡ Some y → x ≡ y
some-lock x y e = cc

-- a lock that some left has the token that it had, or the next one, which is the last one then
pub left-new : (stays : Address → Bool) (view : ViewId) (last : Token) (x l : Lock) → (left_to stays view last x).lock ≡ Some l → Some x.token ≢ Some l.token
    → (l.token ≡ next_token view last) × ((left_to stays view last x).last ≡ next_token view last)
left-new stays view last x l = by (stays x.holder) where
  by-first : (ps : List Address) → (passed_on last (next_token view last) ps).lock ≡ Some l → (l.token ≡ next_token view last) × ((passed_on last (next_token view last) ps).last ≡ next_token view last)
  by-first [] e = absurd cc
  by-first (p ∷ ps) e = (ap (λ (y : Lock). y.token) (sym (some-lock (record { holder = p; token = next_token view last; waiters = ps }) l e)), refl)

  by : (b : Bool) → (cond b (record { lock = Some (record { holder = x.holder; token = x.token; waiters = filter stays x.waiters }); last = last }) (passed_on last (next_token view last) (filter stays x.waiters))).lock ≡ Some l
      → Some x.token ≢ Some l.token → (l.token ≡ next_token view last) × ((cond b (record { lock = Some (record { holder = x.holder; token = x.token; waiters = filter stays x.waiters }); last = last }) (passed_on last (next_token view last) (filter stays x.waiters))).last ≡ next_token view last)
  by true e new = absurd (new (ap (λ (y : Lock). Some y.token) (some-lock (record { holder = x.holder; token = x.token; waiters = filter stays x.waiters }) l e)))
  by false e new = by-first (filter stays x.waiters) e

pub left-token : (stays : Address → Bool) (view : ViewId) (last : Token) (x l : Lock) → (left_to stays view last x).lock ≡ Some l → Some x.token ≢ Some l.token → l.token ≡ next_token view last
left-token stays view last x l e new = (left-new stays view last x l e new).0

-- a new token is above the last one
new-above : (name : List ℕ) (from : Address) (o : Option Command) (s t : Table) (l : Lock) → IsTurn name from o s t → lock_of name t ≡ Some l → token_of name s ≢ Some l.token → IsBelow s.last l.token
new-above name from o s t l (Unchanged e) at new = absurd (new (ap (λ (x : Table). token-in (lock_of name x)) (sym e) ∙ ap token-in at))
new-above name from o s t l (Aside same none comes) at new = absurd (new (ap token-in (sym same) ∙ ap token-in at))
new-above name from o s t l (Free before after comes) at new = let n = sym after ∙ at in absurd cc
new-above name from o s t l (Granted view before after none comes) at new =
    let token : next_token view s.last ≡ l.token = ap (λ (y : Lock). y.token) (some-lock _ l (sym after ∙ at)) in
    subst (IsBelow s.last) token (next-above view s.last)
new-above name from o s t l (Joined x before after none comes) at new =
    let token : x.token ≡ l.token = ap (λ (y : Lock). y.token) (some-lock (with_one from x) l (sym after ∙ at)) in
    absurd (new (ap token-in before ∙ ap (λ (k : Token). Some k) token))
new-above name from o s t l (Left view last x before up after comes) at new =
    let token = left-token (λ p. not (leaves_by name p from o)) view last x l (sym after ∙ at) (λ e. new (ap token-in before ∙ e)) in
    subst (IsBelow s.last) (sym token) (up-below s.last last (next_token view last) up (next-above view last))

pub grant-above : (s : Table) (m : Message) (name : List ℕ) (l : Lock) → IsTable s → Grants name m s l → IsBelow s.last l.token
grant-above s m name l is grant = new-above name m.from (command_of m.payload) s (after s m) l (turn name m.from (command_of m.payload) s is.rises) grant.stands grant.new

-- the last token only rises
last-up : (s : Table) (m : Message) → is_up_to s.last (after s m).last ≡ true
last-up s m = by (command_of m.payload) where
  by : (o : Option Command) → is_up_to s.last (after_command m.from s o).last ≡ true
  by None = up-refl s.last
  by (Some c) = carried-up m.from c s

lasts-up : (ms : List Message) (s : Table) → is_up_to s.last (after_all s ms).last ≡ true
lasts-up [] s = up-refl s.last
lasts-up (m ∷ ms) s = up-trans s.last (after s m).last (after_all (after s m) ms).last (last-up s m) (lasts-up ms (after s m))

-- a later grant has a token above an earlier one
pub later-above : (s : Table) (m : Message) (ms : List Message) (n : Message) (name other : List ℕ) (l k : Lock) → IsTable s → IsMessage m → AllByRecursion IsMessage ms
    → Grants name m s l → Grants other n (after_all (after s m) ms) k → IsBelow l.token k.token
later-above s m ms n name other l k is one all first second =
    let start = after-is-table s m is one in
    let then = all-is-table ms (after s m) start all in
    let held : is_up_to l.token (after s m).last ≡ true = token-up lock_form name l (after s m) start first.stands in
    up-below l.token (after_all (after s m) ms).last k.token (up-trans l.token (after s m).last (after_all (after s m) ms).last held (lasts-up ms (after s m))) (grant-above (after_all (after s m) ms) n other k then second)
