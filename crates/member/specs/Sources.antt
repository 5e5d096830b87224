-- What a packet was that is for a member, and what a step by a datagram comes to.
use Rattle.std.specs.Prelude.{ℕ, List, Option, None, Some, Result, Ok, Err, if◌then◌else◌}
use Rattle.address.specs.Ids.{Address, ViewId}
use Rattle.wire_values.specs.Kinds.{kind_of}
use Rattle.wire_values.specs.declared.error.WireError.{WireError}
use Rattle.wire_values.specs.declared.packet.Body.{Body}
use Rattle.wire_values.specs.declared.packet.Body.TheVariants as bodies
use Rattle.wire_values.specs.declared.packet.Packet.{Packet}
use Rattle.wire.specs.Packets.{packet_of}
use Rattle.step_output.specs.declared.output.Output.{Output}
use Rattle.step_output.specs.Outputs.{is_for}
use Rattle.member.specs.declared.error.Error.{Error}
use Rattle.member.specs.declared.heard.Heard.{Heard}
use Rattle.member.specs.declared.taken.Taken.{Taken}

-- the view or the proposal that a packet is about
abbrev pub about_of : Body → Option ViewId
about_of bodies.Join = None
about_of (bodies.Redirect coordinator) = None
about_of bodies.Leave = None
about_of (bodies.Forward view number payload) = Some view
about_of (bodies.Order view place entry) = Some view
about_of (bodies.Nak view missing) = Some view
about_of (bodies.Ack view delivered) = Some view
about_of (bodies.Status view progress) = Some view
about_of (bodies.Flush proposal) = Some proposal.id
about_of (bodies.Behind proposal counter) = Some proposal
about_of (bodies.Report proposal report) = Some proposal
about_of (bodies.Install install) = Some install.view.id
about_of (bodies.Merge view) = Some view.id
about_of (bodies.State proposal chunk) = Some proposal

-- what it was, where it is of this group, to this address, and from another
abbrev pub heard_in : Address → List ℕ → Result Packet WireError → Option Heard
heard_in p group (Ok packet) =
    if is_for p group packet then Some (record { source = packet.source; kind = kind_of packet.body; about = about_of packet.body }) else None
heard_in p group (Err e) = None

-- the same of the bytes of a datagram
abbrev pub heard_of : Address → List ℕ → List ℕ → Option Heard
heard_of p group bytes = heard_in p group (packet_of bytes)

-- what a step by a datagram put out, or its refusal
abbrev pub output_of : Result Taken Error → Result Output Error
output_of (Ok taken) = Ok taken.out
output_of (Err e) = Err e
