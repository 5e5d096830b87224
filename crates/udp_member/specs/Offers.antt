-- What a net is offered of a channel's packets.
use Rattle.std.specs.Prelude.{◌≡◌, ℕ, List, [], ◌++◌, map, Option}
use Rattle.step_output.specs.declared.output.Outgoing.{Outgoing}
use Rattle.channel.specs.Channels.{ChannelModel}
use Rattle.udp_net.specs.Logs.{Log, NetEvent, Offered, Lists}

-- a packet, as a net is offered it: for the node of its destination
abbrev pub offered_as : Outgoing → NetEvent
offered_as packet = Offered (record { node = packet.destination.node; bytes = packet.bytes })

-- each of these packets was offered, in order
abbrev pub offering_all : List Outgoing → Log → Log
offering_all packets l = l ++ map offered_as packets

-- what waited in the channel was offered to the net, in order, and nothing else
pub record Offers {N S : Type 0} (log : N → Option Log) (failed : N → ℕ) (net : N) (channel : ChannelModel S) (new_net : N) (new_channel : ChannelModel S) : Type 0 where
  pub lists : Lists (log net) (offering_all channel.outgoing) (log new_net)
  pub failed_is : failed new_net ≡ failed net
  pub channel_is : new_channel ≡ record channel { outgoing = [] }
