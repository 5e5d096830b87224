-- The line of a table of locks.
use Rattle.std.specs.Prelude.{ℕ, ◌∷◌, [], ◌++◌, List, codes, flat_map}
use Rattle.address.specs.Ids.{Address, text_of_address}
use Rattle.keyed_state.specs.declared.entries.KeyedEntry.{KeyedEntry}
use Rattle.vsync_text.specs.TraceText.{hex_of, dash, field, line_with, text_of_addresses}
use Rattle.keyed_state.specs.TokenText.{text_of_token}
use Rattle.lock_table.specs.Locks.{Lock, Table}

-- who holds a lock, with which token, and who waits, joined by commas: `:HOLDER:TOKEN:WAITERS`
abbrev pub text_of_queue : Lock → List ℕ
text_of_queue l = 58 ∷ text_of_address l.holder ++ 58 ∷ text_of_token l.token ++ 58 ∷ text_of_addresses l.waiters

-- a lock: its name in hexadecimal, and who stand at it
abbrev pub text_of_lock : KeyedEntry Lock → List ℕ
text_of_lock e = hex_of e.key ++ text_of_queue e.value

-- locks, each behind a space
abbrev pub text_of_more : List (KeyedEntry Lock) → List ℕ
text_of_more entries = flat_map (λ e. field (text_of_lock e)) entries

-- locks, the names rising, each a field; ` -` for none
abbrev pub text_of_locks : List (KeyedEntry Lock) → List ℕ
text_of_locks [] = field dash
text_of_locks (e ∷ entries) = text_of_more (e ∷ entries)

-- the line of a member whose table this is: `locks P LAST LOCK ..`, with its line feed
abbrev pub table_line : Address → Table → List ℕ
table_line member s = line_with (codes "locks") (field (text_of_address member) ++ field (text_of_token s.last) ++ text_of_locks s.entries)
