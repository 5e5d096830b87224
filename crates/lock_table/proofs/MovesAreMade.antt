-- A command does what it says if the state has room and numbers are left.
use Rattle.std.proofs.Common.{◌≡◌, ℕ, ◌+◌, ◌≤◌, Bool, true, false, cond, List, [], ◌∷◌, ◌++◌, length, Option, Some, None, refl, sym, ap, ◌∙◌, arith}
use Rattle.std.specs.List.{filter}
use Rattle.std.specs.Option.{option_map, option_map_or}
use Rattle.std.proofs.lemmas.List.{length_push}
use Rattle.address.specs.declared.limits.TheConstants.{STATE}
use Rattle.address.specs.Ids.{Address, ViewId}
use Rattle.view.specs.Members.{stands_in}
use Rattle.keyed_state.specs.Entries.{value_of}
use Rattle.keyed_state.proofs.LookUpsFind.{found-there, same-key-is}
use Rattle.lock_table.specs.declared.command.Command.TheVariants.{Acquire, Roll}
use Rattle.keyed_state.specs.Tokens.{next_token}
use Rattle.lock_table.specs.Locks.{Lock, Table, queue, granted, joined_by, left_to, others, members, table_size, lock_of, asked, gone_from, released, rolled, within, is_used_up, obeyed}
use Rattle.lock_table.specs.Commands.{command_of, after_command}
use Rattle.lock_table.specs.Forms.{lock_form}
use Rattle.keyed_state.specs.StateLaws.{size-new, size-put}
use Rattle.lock_table.specs.Moves.{FreeIsGranted, HeldIsWaitedFor, ReleasedIsLeft, RolledIsLeft}
use Rattle.lock_table.specs.Turns.{Message, after, queue_of}
use Rattle.lock_table.proofs.LocksInPlaces.{comes-in}
use Rattle.lock_table.proofs.MessagesTurnLocks.{came, left_at, found-rolled, with-found}
use Rattle.lock_table.proofs.QueuesKeepOrder.{queue-left}

-- one who waits more, at most
joined-many : (p : Address) (l : Lock) → length (joined_by p l).waiters ≤ length l.waiters + 1
joined-many p l = by (stands_in p (queue l)) where
  by : (b : Bool) → length (cond b l (record { holder = l.holder; token = l.token; waiters = l.waiters ++ p ∷ [] })).waiters ≤ length l.waiters + 1
  by true = omega arith
  by false = omega (arith, length_push l.waiters p)

-- ---- an acquire

after-acquire : (s : Table) (m : Message) (view : ViewId) (name : List ℕ) (o : Option Lock) → command_of m.payload ≡ Some (Acquire view name) → is_used_up view s ≡ false
    → value_of name s.entries ≡ o → table_size (asked m.from view name s o).entries ≤ STATE → after s m ≡ asked m.from view name s o
after-acquire s m view name o e left at fits =
    ap (after_command m.from s) e ∙ ap (λ (b : Bool). cond b s (obeyed m.from (Acquire view name) s)) left
    ∙ ap (λ (t : Table). within s t) (ap (asked m.from view name s) at) ∙ sym (comes-in s (asked m.from view name s o) fits)

pub free-granted : FreeIsGranted
free-granted s m view name e left free room =
    let lock = granted m.from (next_token view s.last) in
    let size = size-new lock_form name lock s.entries free in
    let done = after-acquire s m view name None e left free (omega (arith, size, room)) in
    record {
      stands = ap (lock_of name) done ∙ found-there name lock s.entries;
      new = λ same. let none : None ≡ Some lock.token = sym (ap (option_map (λ (l : Lock). l.token)) free) ∙ same in absurd cc;
    }

pub held-waits : HeldIsWaitedFor
held-waits s m view name l e left held room =
    let size = size-put lock_form name s.entries l (joined_by m.from l) held in
    let few = joined-many m.from l in
    ap (lock_of name) (after-acquire s m view name (Some l) e left held (omega (arith, size, few, room))) ∙ found-there name (joined_by m.from l) s.entries

-- ---- a release

pub release-leaves : ReleasedIsLeft
release-leaves s m view name is e left =
    ap (queue_of name) (ap (after_command m.from s) e ∙ ap (λ (b : Bool). cond b s (released m.from view name s)) left) ∙ by (value_of name s.entries) refl
  where
    by : (o : Option Lock) → value_of name s.entries ≡ o → queue_of name (gone_from m.from view name s o) ≡ filter (others m.from) (option_map_or queue o [])
    by None at = ap (λ (o : Option Lock). option_map_or queue o []) at
    by (Some l) at = ap (λ (o : Option Lock). option_map_or queue o []) (with-found name (left_to (others m.from) view s.last l).lock s.entries is.rises (same-key-is name)) ∙ queue-left (others m.from) view s.last l

-- ---- a roll

pub roll-leaves : RolledIsLeft
roll-leaves s m view name is e left own =
    ap (queue_of name) (ap (after_command m.from s) e ∙ ap (λ (b : Bool). cond b s (obeyed m.from (Roll view) s)) left ∙ ap (λ (b : Bool). cond b (rolled (members view) view.id s.last s.entries) s) own)
    ∙ ap (λ (o : Option Lock). option_map_or queue o []) (found-rolled (members view) view.id s.last name s.entries is.rises) ∙ by (value_of name s.entries)
  where
    by : (o : Option Lock) → option_map_or queue (left_at (members view) view.id (came (members view) view.id s.last name s.entries) o) [] ≡ filter (members view) (option_map_or queue o [])
    by None = refl
    by (Some l) = queue-left (members view) view.id (came (members view) view.id s.last name s.entries) l
