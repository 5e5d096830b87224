-- Who makes a step.
use Rattle.std.specs.Prelude.{ℕ, List}
use Rattle.address.specs.Ids.{Address}
use Rattle.step_output.specs.declared.identity.Identity.{Identity}

-- who a member is: its address and the name of its group
pub record Who : Type 0 where
  pub address : Address
  pub group : List ℕ

-- the member of an address in a group
abbrev pub who : Address → List ℕ → Who
who p group = record { address = p; group = group }

-- who an identity names
abbrev pub who_of : Identity → Who
who_of i = who i.address i.group
