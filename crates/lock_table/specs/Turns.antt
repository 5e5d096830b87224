-- What messages make of the locks, one after another: who leaves a lock, who is granted one, and who stands before whom.
use Rattle.std.specs.Prelude.{◌≡◌, ◌≢◌, ◌≤◌, ℕ, length, Bool, true, false, ◌&&◌, not, List, [], ◌∷◌, Option, Some, None, fold, if◌then◌else◌}
use Rattle.std.specs.List.{filter}
use Rattle.std.specs.Option.{option_map, option_map_or}
use Rattle.std.specs.Ordering.{is_eq}
use Rattle.address.specs.Ids.{Address, same_address, IsAddress}
use Rattle.address.specs.declared.limits.TheConstants.{PAYLOAD}
use Rattle.view.specs.Members.{stands_in}
use Rattle.keyed_state.specs.Entries.{key_cmp}
use Rattle.keyed_state.specs.declared.token.Token.{Token}
use Rattle.lock_table.specs.declared.command.Command.{Command}
use Rattle.lock_table.specs.declared.command.Command.TheVariants.{Acquire, Release, Roll}
use Rattle.lock_table.specs.Locks.{Lock, Table, queue, lock_of}
use Rattle.lock_table.specs.Commands.{command_of, table_apply}

-- a message: who sent it, and its payload
pub record Message : Type 0 where
  pub from : Address
  pub payload : List ℕ

-- the messages that there are: an address sends them, and their payloads are short
pub record IsMessage (m : Message) : Type 0 where
  pub from : IsAddress m.from
  pub payload : length m.payload ≤ PAYLOAD

abbrev pub after : Table → Message → Table
after s m = table_apply s m.from m.payload

abbrev pub after_all : Table → List Message → Table
after_all s messages = fold after s messages

-- ---- a lock, by its name

abbrev pub token_of : List ℕ → Table → Option Token
token_of name s = option_map (λ l. l.token) (lock_of name s)

-- who stand at a lock: its holder, and behind it those who wait; nobody where it is free
abbrev pub queue_of : List ℕ → Table → List Address
queue_of name s = option_map_or queue (lock_of name s) []

-- a message grants a lock: the lock has a token then, which it had not before
pub record Grants (name : List ℕ) (m : Message) (s : Table) (l : Lock) : Type 0 where
  pub stands : lock_of name (after s m) ≡ Some l
  pub new : token_of name s ≢ Some l.token

-- ---- who leaves

-- whether one leaves a lock by a command: by its own release, or by a roll without it, from the creator of the view
abbrev pub leaves_by : List ℕ → Address → Address → Option Command → Bool
leaves_by name p from None = false
leaves_by name p from (Some (Acquire view n)) = false
leaves_by name p from (Some (Release view n)) = same_address from p && is_eq (key_cmp name n)
leaves_by name p from (Some (Roll view)) = same_address from view.id.creator && not (stands_in p view.members)

abbrev pub leaves : List ℕ → Address → Message → Bool
leaves name p m = leaves_by name p m.from (command_of m.payload)

-- whether one stays at it
abbrev pub stays : List ℕ → Message → Address → Bool
stays name m p = not (leaves name p m)

-- ---- who comes

-- whom a command adds behind those who stand at a lock: who asks for it and does not stand there
abbrev pub comes_by : List ℕ → Address → List Address → Option Command → List Address
comes_by name from standing None = []
comes_by name from standing (Some (Acquire view n)) = if is_eq (key_cmp name n) && not (stands_in from standing) then from ∷ [] else []
comes_by name from standing (Some (Release view n)) = []
comes_by name from standing (Some (Roll view)) = []

abbrev pub comes : List ℕ → List Address → Message → List Address
comes name standing m = comes_by name m.from standing (command_of m.payload)

-- those who stand before one
abbrev pub ahead : Address → List Address → List Address
ahead p [] = []
ahead p (q ∷ qs) = if same_address p q then [] else q ∷ ahead p qs

-- one stands at a lock still, and before it only those who stood before it already, in their order
pub record StandsOn (p : Address) (old new : List Address) : Type 0 where
  pub stands : stands_in p new ≡ true
  pub left : Address → Bool
  pub before : ahead p new ≡ filter left (ahead p old)
