-- A member as contracts see it: who it is, what it decides by while it runs, and why it refuses an input.
use Rattle.std.specs.Prelude.{ℕ, Bool, true, false, is_some, List, Result, Ok, Err, Option, None, Some, if◌then◌else◌}
use Rattle.std.specs.Option.{option_map, option_map_or, option_and_then}
use Rattle.address.specs.Ids.{Address}
use Rattle.address.specs.declared.refusal.Refusal.TheVariants.{AlreadyConnected, Closed}
use Rattle.wire_values.specs.declared.error.WireError.{WireError}
use Rattle.wire_values.specs.declared.packet.Packet.{Packet}
use Rattle.wire_values.specs.Posted.{Posted}
use Rattle.wire.specs.Packets.{packet_of, wire_refusal}
use Rattle.state_transfer.specs.Meanings.{Meaning}
use Rattle.law_acts.specs.Cores.{Core}
use Rattle.law_acts.specs.Acts.{handed}
pub use Rattle.law_acts.specs.Decisions.{promise_of, is_fitting, is_entry, is_readable}
use Rattle.step_output.specs.Names.{same_name}
use Rattle.membership.specs.declared.member_state.MemberState.{MemberState}
use Rattle.membership.specs.MemberStates.{core_of as core_at}
pub use Rattle.wire_values.specs.Kinds.{install_said}
pub use Rattle.member.specs.Hearing.{entry_of, is_unreadable_by}
pub use Rattle.member_rules.specs.Firsts.{lone_install}
pub use Rattle.member_rules.specs.Refusals.{send_refusal}
use Rattle.member.specs.declared.error.Error.{Error}
use Rattle.member.specs.declared.error.Error.TheVariants.{Refused, Wire}
use Rattle.member.specs.declared.input.Input.{Input}
use Rattle.member.specs.declared.input.Input.TheVariants.{Create, Join, Send, Datagram, Tick, Suspect, MergeHint, Leave}

-- its address, its group, and what it is while it runs; nothing once it has ended
pub record MemberModel (S : Type 0) : Type 0 where
  pub address : Address
  pub group : List ℕ
  pub member_state : Option (MemberState S)

-- what it decides by while it runs, in the words of agreement
abbrev pub core_of : {S : Type 0} → MemberModel S → Option (Core S)
core_of m = option_map (core_at m.address) m.member_state

-- whether a member ends by an input that it takes
abbrev pub leaves : Input → Bool
leaves Create = false
leaves (Join contact) = false
leaves (Send payload) = false
leaves (Datagram bytes) = false
leaves Tick = false
leaves (Suspect q) = false
leaves (MergeHint q) = false
leaves Leave = true

-- ---- the packet that came

-- a packet of its group is handed to it, where it is connected, for it and from another
abbrev pub came_in : {S : Type 0} → MemberModel S → Result Packet WireError → Option Posted
came_in m (Err e) = None
came_in m (Ok p) =
    if same_name p.group m.group
    then option_and_then (λ c. handed c (record { source = p.source; destination = p.destination; body = p.body })) (core_of m)
    else None

abbrev pub came_at : {S : Type 0} → MemberModel S → Input → Option Posted
came_at m Create = None
came_at m (Join contact) = None
came_at m (Send payload) = None
came_at m (Datagram bytes) = came_in m (packet_of bytes.now)
came_at m Tick = None
came_at m (Suspect q) = None
came_at m (MergeHint q) = None
came_at m Leave = None

-- ---- an INSTALL that it would enter

-- whether it is handed an INSTALL that it would enter, and the receiver cannot read the state that it is given
abbrev pub is_unreadable : {S : Type 0} → Meaning S → MemberModel S → Input → Bool
is_unreadable meaning m input = option_map_or (λ l. option_map_or (is_unreadable_by meaning m.address l) (came_at m input) false) m.member_state false

-- ---- refusals

-- why a running member refuses an input, but for want of memory
abbrev pub refusal_in : {S : Type 0} → Core S → Input → Option Error
refusal_in c Create = if c.connected then Some (Refused AlreadyConnected) else None
refusal_in c (Join contact) = if is_some c.view then Some (Refused AlreadyConnected) else None
refusal_in c (Send payload) = option_map Refused (send_refusal c payload.now)
refusal_in c (Datagram bytes) = option_map Wire (wire_refusal bytes.now)
refusal_in c Tick = None
refusal_in c (Suspect q) = None
refusal_in c (MergeHint q) = None
refusal_in c Leave = None

abbrev pub refusal_of : {S : Type 0} → MemberModel S → Input → Option Error
refusal_of m input = option_map_or (λ c. refusal_in c input) (core_of m) (Some (Refused Closed))
