-- The laws of the table as a receiver, and of its encoding.
use Rattle.std.proofs.Common.{◌≡◌, ℕ, ◌≤◌, List, length, Some}
use Rattle.address.specs.declared.limits.TheConstants.{STATE}
use Rattle.keyed_state.specs.StateLaws as states
use Rattle.lock_table.specs.Forms.{lock_form}
use Rattle.lock_table.specs.Locks.{Table, IsTable}
use Rattle.lock_table.specs.Encoding.{table_encode, table_decode}
use Rattle.lock_table.specs.EncodingLaws.{lock_laws}
use Rattle.lock_table.specs.Meanings.{no_locks}

pub decoded_is_table : (bytes : List ℕ) (s : Table) → table_decode bytes ≡ Some s → IsTable s
decoded_is_table bytes s e = states.decoded_is_state lock_form lock_laws bytes s e

pub decoded_is_encoded : (bytes : List ℕ) (s : Table) → table_decode bytes ≡ Some s → table_encode s ≡ bytes
decoded_is_encoded bytes s e = states.decoded_is_encoded lock_form lock_laws bytes s e

pub encoded_short : (s : Table) → IsTable s → length (table_encode s) ≤ STATE
encoded_short s is = states.encoded_short lock_form lock_laws s is

pub encoded_is_decoded : (s : Table) → IsTable s → table_decode (table_encode s) ≡ Some s
encoded_is_decoded s is = states.encoded_is_decoded lock_form lock_laws s is

pub no_locks_is_table : IsTable no_locks
no_locks_is_table = states.none_is_state lock_form
