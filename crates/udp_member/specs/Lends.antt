-- What a runner is once a `&mut` to a part of it has ended: as it was, with that part as it was left.
use Rattle.std.specs.Borrow.{Lends, Fml, RattleType, MutBor}
use Rattle.state_transfer.specs.declared.Receiver.{Ghosts as ReceiverGhosts}
use Rattle.udp_net.specs.declared.net.Net.{Ghosts as NetGhosts}
use Rattle.channel.specs.Channels.{ChannelModel}
use Rattle.channel.specs.contracts.channel.Channel.{the_row as channel_row}
use Rattle.udp_member.specs.contracts.runner.Runner.{the_row}
use Rattle.udp_member.specs.Turns.{Driven}

module _ (N R : RattleType) (net : NetGhosts N.Denot) (receiver : ReceiverGhosts R.Denot) (runner : MutBor (Driven N.Denot R.Denot)) where
  abbrev pub lends_channel : MutBor (ChannelModel R.Denot) → Fml
  lends_channel r = Lends (the_row N R net receiver) (channel_row R receiver) runner r (λ w. record runner.now { channel = w })

  abbrev pub lends_net : MutBor N.Denot → Fml
  lends_net r = Lends (the_row N R net receiver) N runner r (λ w. record runner.now { net = w })
