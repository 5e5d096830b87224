-- What the table means as a receiver.
use Rattle.std.specs.Prelude.{[]}
use Rattle.state_transfer.specs.Meanings.{Meaning}
use Rattle.keyed_state.specs.Tokens.{least_token}
use Rattle.lock_table.specs.Locks.{Table, IsTable}
use Rattle.lock_table.specs.Encoding.{table_encode, table_decode}
use Rattle.lock_table.specs.Commands.{table_apply}

-- at the beginning no lock is held, and none was granted
abbrev pub no_locks : Table
no_locks = record { last = least_token; entries = [] }

abbrev pub table_meaning : Meaning Table
table_meaning = record { opening = no_locks; apply = table_apply; encode = table_encode; decode = table_decode; is_state = IsTable }
