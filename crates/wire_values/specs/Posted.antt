-- A packet without the name of its group: from whom, to whom, and what it says.
use Rattle.address.specs.Ids.{Address}
use Rattle.wire_values.specs.declared.packet.Body.{Body}

-- a packet that was put out
pub record Posted : Type 0 where
  pub source : Address
  pub destination : Address
  pub body : Body

-- a packet from one to another
abbrev pub packet : Address → Body → Address → Posted
packet p body q = record { source = p; destination = q; body = body }
