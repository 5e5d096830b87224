-- The table of locks, and what each command makes of it.
use Rattle.std.specs.Prelude.{◌≡◌, ℕ, ◌+◌, Bool, List, [], ◌∷◌, ◌++◌, length, Option, Some, None, unwrap_or, not, nat_le, nat_lt, if◌then◌else◌}
use Rattle.std.specs.List.{filter}
use Rattle.std.specs.Option.{option_map}
use Rattle.std.specs.Borrow.{Bor}
use Rattle.address.specs.Ids.{Address, ViewId, same_address}
use Rattle.view.specs.Members.{View, stands_in}
use Rattle.address.specs.declared.limits.TheConstants.{STATE, GREATEST_NUMBER}
use Rattle.keyed_state.specs.declared.entries.KeyedEntry.{KeyedEntry}
use Rattle.keyed_state.specs.Entries.{entry_of, value_of, put, without}
use Rattle.keyed_state.specs.States.{KeyedState, state_of, entry_size, state_size, IsState, IsEntry as IsEntryOf, AreUpTo as AreAllUpTo}
use Rattle.keyed_state.specs.declared.token.Token.{Token}
use Rattle.keyed_state.specs.Tokens.{next_token}
pub use Rattle.lock_table.specs.Forms.{Lock, IsLock, queue, granted}
use Rattle.lock_table.specs.Forms.{lock_form}
use Rattle.lock_table.specs.declared.command.Command.{Command}
use Rattle.lock_table.specs.declared.command.Command.TheVariants.{Acquire, Release, Roll}

-- ---- what becomes of a lock

-- who asks for a lock that is held waits behind the others, if it does not stand there already
abbrev pub joined_by : Address → Lock → Lock
joined_by p l = if stands_in p (queue l) then l else record { holder = l.holder; token = l.token; waiters = l.waiters ++ p ∷ [] }

-- what becomes of a lock, and the last token that was granted
pub record Outcome : Type 0 where
  pub lock : Option Lock
  pub last : Token

-- the first of those who wait holds the lock, with the next token; where none waits it is free
abbrev pub passed_on : Token → Token → List Address → Outcome
passed_on last next [] = record { lock = None; last = last }
passed_on last next (p ∷ ps) = record { lock = Some (record { holder = p; token = next; waiters = ps }); last = next }

-- the holder of a lock holds on, with its token, if it stays; else the lock is passed on
abbrev pub passed : Bool → ViewId → Token → Lock → Outcome
passed stays view last l = if stays then record { lock = Some l; last = last } else passed_on last (next_token view last) l.waiters

-- only some stay at a lock
abbrev pub left_to : (Address → Bool) → ViewId → Token → Lock → Outcome
left_to stays view last l = passed (stays l.holder) view last (record { holder = l.holder; token = l.token; waiters = filter stays l.waiters })

-- what a lock becomes in its place, and the last token: a lock that is free then stays as it was
abbrev pub in_place : Lock → Outcome → Lock × Token
in_place l o = (unwrap_or o.lock l, o.last)

-- a lock as it was left in its place: it is held where its holder stays, and otherwise free
pub record IsLeft (stays : Address → Bool) (o : Outcome) (left : Lock) (token : Token) : Type 0 where
  pub lock : o.lock ≡ (if stays left.holder then Some left else None)
  pub last : o.last ≡ token

-- ---- the table

-- whether a lock's holder stays
abbrev pub holder_in : (Address → Bool) → KeyedEntry Lock → Bool
holder_in stays e = stays e.value.holder

-- the last token that was granted, and the locks that are held, by their names
abbrev pub Table : Type 0
Table = KeyedState Lock

abbrev pub table_of : Token → List (KeyedEntry Lock) → Table
table_of last entries = state_of last entries

-- how many bytes a lock is encoded in, with its name
abbrev pub lock_size : KeyedEntry Lock → ℕ
lock_size e = entry_size lock_form e

-- how many bytes a table with these locks is encoded in: the last token in 22, the number of locks in 4, and each lock with its name
abbrev pub table_size : List (KeyedEntry Lock) → ℕ
table_size entries = state_size lock_form entries

-- one asks for a lock
abbrev pub asked : Address → ViewId → List ℕ → Table → Option Lock → Table
asked p view name s None = record { last = next_token view s.last; entries = put name (granted p (next_token view s.last)) s.entries }
asked p view name s (Some l) = record { last = s.last; entries = put name (joined_by p l) s.entries }

abbrev pub acquired : Address → ViewId → List ℕ → Table → Table
acquired p view name s = asked p view name s (value_of name s.entries)

-- the locks with what became of a name's
abbrev pub with_lock : List ℕ → Option Lock → List (KeyedEntry Lock) → List (KeyedEntry Lock)
with_lock name None entries = without name entries
with_lock name (Some l) entries = put name l entries

-- all but one stay
abbrev pub others : Address → Address → Bool
others p q = not (same_address p q)

-- one leaves a lock, which it holds or waits for
abbrev pub gone_from : Address → ViewId → List ℕ → Table → Option Lock → Table
gone_from p view name s None = s
gone_from p view name s (Some l) = record { last = (left_to (others p) view s.last l).last; entries = with_lock name (left_to (others p) view s.last l).lock s.entries }

abbrev pub released : Address → ViewId → List ℕ → Table → Table
released p view name s = gone_from p view name s (value_of name s.entries)

-- a lock, if it is held, before others
abbrev pub before : List ℕ → Option Lock → Table → Table
before name None rest = rest
before name (Some l) rest = record { last = rest.last; entries = entry_of name l ∷ rest.entries }

-- only some stay, at each lock, in the order of the names
abbrev pub rolled : (Address → Bool) → ViewId → Token → List (KeyedEntry Lock) → Table
rolled stays view last [] = record { last = last; entries = [] }
rolled stays view last (e ∷ es) = before e.key (left_to stays view last e.value).lock (rolled stays view (left_to stays view last e.value).last es)

-- a table by which the state would no longer fit stays away
abbrev pub within : Table → Table → Table
within s new = if nat_le (table_size new.entries) STATE then new else s

-- the lock of a name
abbrev pub lock_of : List ℕ → Table → Option Lock
lock_of name s = value_of name s.entries

-- ---- what is lent of it

abbrev pub lock_lent : Option (Bor Lock) → Option Lock
lock_lent found = option_map (λ l. l.now) found

abbrev pub entry_lent : Option (Bor (List ℕ) × Bor Lock) → Option (KeyedEntry Lock)
entry_lent found = option_map (λ e. entry_of e.0.now e.1.now) found

-- ---- the commands

abbrev pub view_of : Command → ViewId
view_of (Acquire view name) = view
view_of (Release view name) = view
view_of (Roll view) = view.id

-- whether so few numbers are left that not each lock could be granted once more, and one beside them
abbrev pub is_used_up : ViewId → Table → Bool
is_used_up view s = nat_lt GREATEST_NUMBER ((next_token view s.last).count + length s.entries)

-- what a command makes of the table
abbrev pub members : View → Address → Bool
members view p = stands_in p view.members

abbrev pub obeyed : Address → Command → Table → Table
obeyed from (Acquire view name) s = within s (acquired from view name s)
obeyed from (Release view name) s = released from view name s
obeyed from (Roll view) s = if same_address from view.id.creator then rolled (members view) view.id s.last s.entries else s

abbrev pub carried_out : Address → Command → Table → Table
carried_out from c s = if is_used_up (view_of c) s then s else obeyed from c s

-- ---- the tables that there are: the names rise, no token is above the last, and the encoding fits into a state

abbrev pub IsTable : Table → Type 0
IsTable s = IsState lock_form s

abbrev pub IsEntry : KeyedEntry Lock → Type 0
IsEntry e = IsEntryOf lock_form e

-- no lock has a token above the last
abbrev pub AreUpTo : Token → List (KeyedEntry Lock) → Type 0
AreUpTo last entries = AreAllUpTo lock_form last entries
