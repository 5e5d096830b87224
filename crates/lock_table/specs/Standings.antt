-- How a member stands at a lock.
use Rattle.std.specs.Prelude.{Bool, true, false, ℕ, List, Option, Some, None, if◌then◌else◌}
use Rattle.address.specs.Ids.{Address, same_address}
use Rattle.view.specs.Members.{stands_in}
use Rattle.lock_table.specs.Locks.{Lock, Table, lock_of, queue}
use Rattle.lock_table.specs.declared.standing.Standing.{Standing}
use Rattle.lock_table.specs.declared.standing.Standing.TheVariants.{Holds, Waits, Apart}

-- it holds the lock if it is the holder, and waits if it stands behind it
abbrev pub standing_at : Address → Option Lock → Standing
standing_at p None = Apart
standing_at p (Some l) = if same_address p l.holder then Holds l.token else if stands_in p (queue l) then Waits else Apart

abbrev pub standing : Address → List ℕ → Table → Standing
standing p name s = standing_at p (lock_of name s)

abbrev pub is_waiting : Standing → Bool
is_waiting (Holds token) = false
is_waiting Waits = true
is_waiting Apart = false
