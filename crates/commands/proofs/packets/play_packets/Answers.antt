use Rattle.world.specs.Worlds.{shown}
use Rattle.vsync_text.specs.PacketText.{packet_lines}
use Rattle.commands.proofs.RunsPrint.{ran-to-end, stopped}
use Rattle.commands.proofs.packets.play_packets.Goals as goal

pub returns-in-Ok : goal.returns-in-Ok
returns-in-Ok g c =
    ran-to-end g.R.Receiver.meaning (λ h. packet_lines h.pool) c.args.script.now _ (shown c.new-world.result) (shown c.run.new.self) _ _ _
    c.events.ensures c.new-world.ensures
    (record { faithful = c.run.ensures.faithful; ordered = c.run.ensures.ordered; synchronous = c.run.ensures.synchronous; agreeing = c.run.ensures.agreeing })
    c.in-Ok.ensures.all c.print_packets.ensures

pub returns : goal.returns
returns g c = stopped g.R.Receiver.meaning (λ h. packet_lines h.pool) c.args.script.now _ _ _ c.end_in_memory.ensures
