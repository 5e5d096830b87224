-- How the keys of tables are hashed.
use Rattle.std.specs.Prelude.{ℕ, ◌+◌, ◌*◌}
use Rattle.address.specs.Ids.{Address}

-- an address as one number
abbrev pub packed : Address → ℕ
packed a = 4294967296 * a.node + a.incarnation
