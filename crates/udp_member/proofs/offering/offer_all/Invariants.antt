use Rattle.std.proofs.Common.{◌≡◌, [], length, Option}
use Rattle.udp_net.specs.Logs.{Log, Lists}
use Rattle.udp_member.specs.Offers.{offering_all}
use Rattle.udp_member.proofs.offering.offer_all.Given as goal

-- what is offered so far, and then what waits, is all that waited
abbrev pub invariant-loop-packet : goal.invariant-loop-packet
invariant-loop-packet g l = record {
  lists : (x : Option Log) → Lists (g.N.Net.log l.net) (offering_all l.channel.outgoing) x → Lists (g.N.Net.log l.initial.net) (offering_all l.initial.channel.outgoing) x;
  failed_is : g.N.Net.failed l.net ≡ g.N.Net.failed l.initial.net;
  channel_is : record l.channel { outgoing = [] } ≡ record l.initial.channel { outgoing = [] };
}

abbrev pub decreases-loop-packet : goal.decreases-loop-packet
decreases-loop-packet g l = length l.channel.outgoing
