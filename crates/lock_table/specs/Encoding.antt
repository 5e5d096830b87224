-- The table as bytes, and the table that bytes stand for: the last token, the number of locks in four bytes, and the locks, their names rising.
use Rattle.std.specs.Prelude.{ℕ, List, Option}
use Rattle.keyed_state.specs.States.{state_encode, state_decode}
use Rattle.lock_table.specs.Forms.{lock_form}
use Rattle.lock_table.specs.Locks.{Table}

abbrev pub table_encode : Table → List ℕ
table_encode s = state_encode lock_form s

-- nothing follows the last lock, the bytes are few enough, the names rise, and no token is above the last
abbrev pub table_decode : List ℕ → Option Table
table_decode bytes = state_decode lock_form bytes
