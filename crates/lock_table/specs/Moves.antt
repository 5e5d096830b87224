-- What a command does if the state has room and numbers are left (docs/RECEIVERS.md, "The commands of the table of locks").
use Rattle.std.specs.Prelude.{◌≡◌, ◌+◌, ◌≤◌, ℕ, List, Some, None, true, false, length}
use Rattle.std.specs.List.{filter}
use Rattle.address.specs.Ids.{ViewId, same_address}
use Rattle.view.specs.Members.{View}
use Rattle.address.specs.declared.limits.TheConstants.{STATE}
use Rattle.lock_table.specs.declared.command.Command.TheVariants.{Acquire, Release, Roll}
use Rattle.keyed_state.specs.Tokens.{next_token}
use Rattle.lock_table.specs.Locks.{Lock, Table, IsTable, granted, is_used_up, joined_by, lock_of, members, others, table_size}
use Rattle.lock_table.specs.Commands.{command_of}
use Rattle.lock_table.specs.Turns.{Message, after, queue_of, Grants}

-- FREE IS GRANTED: a free lock is granted to the member that asks for it, with the next token. A lock that nobody waits for takes 33 bytes and its name
abbrev pub FreeIsGranted : Type 0
FreeIsGranted = (s : Table) (m : Message) (view : ViewId) (name : List ℕ) → command_of m.payload ≡ Some (Acquire view name) → is_used_up view s ≡ false
    → lock_of name s ≡ None → table_size s.entries + 33 + length name ≤ STATE → Grants name m s (granted m.from (next_token view s.last))

-- HELD IS WAITED FOR: a member that asks for a held lock waits for it, if it does not stand there already. One more member that waits takes 6 bytes
abbrev pub HeldIsWaitedFor : Type 0
HeldIsWaitedFor = (s : Table) (m : Message) (view : ViewId) (name : List ℕ) (l : Lock) → command_of m.payload ≡ Some (Acquire view name) → is_used_up view s ≡ false
    → lock_of name s ≡ Some l → table_size s.entries + 6 ≤ STATE → lock_of name (after s m) ≡ Some (joined_by m.from l)

-- RELEASED IS LEFT: a release removes its sender from the lock's queue, and nobody else
abbrev pub ReleasedIsLeft : Type 0
ReleasedIsLeft = (s : Table) (m : Message) (view : ViewId) (name : List ℕ) → IsTable s → command_of m.payload ≡ Some (Release view name) → is_used_up view s ≡ false
    → queue_of name (after s m) ≡ filter (others m.from) (queue_of name s)

-- ROLLED IS LEFT: a roll from its view's creator removes those from each lock's queue who are not members of the view, and nobody else
abbrev pub RolledIsLeft : Type 0
RolledIsLeft = (s : Table) (m : Message) (view : View) (name : List ℕ) → IsTable s → command_of m.payload ≡ Some (Roll view) → is_used_up view.id s ≡ false
    → same_address m.from view.id.creator ≡ true → queue_of name (after s m) ≡ filter (members view) (queue_of name s)
