use Rattle.std.proofs.Common.{sym, ap, ◌∙◌, Err}
use Rattle.membership.specs.declared.stop.Stop.{Stop}
use Rattle.member.proofs.StepsPromise.{from-some}
use Rattle.member.proofs.DatagramsStep.{wire-handled, packet-handled, packet-stopped}
use Rattle.member.proofs.handling.take_datagram.Goals as goal

pub take_packet-requires : goal.take_packet-requires
take_packet-requires g c =
    record { running = (c.requires.alive c.in-Some.running c.in-Some.is) }

pub returns-in-Err-clause-handled : goal.returns-in-Err-clause-handled
returns-in-Err-clause-handled g c =
    from-some g.R.Receiver.meaning c.args.who.now.address c.args.who.now.group c.args.member_state.now c.in-Some.running _ _ _ c.in-Some.is
    (wire-handled g.R.Receiver.meaning c.args.who.now.address c.args.who.now.group
    c.args.bytes c.in-Err.refusal c.in-Some.running (sym c.decode.ensures.exact ∙ c.in-Err.is) (c.requires.alive c.in-Some.running c.in-Some.is))

pub returns-in-Ok-take_packet-clause-handled : goal.returns-in-Ok-take_packet-clause-handled
returns-in-Ok-take_packet-clause-handled g c =
    from-some g.R.Receiver.meaning c.args.who.now.address c.args.who.now.group c.args.member_state.now c.in-Some.running _ _ _ c.in-Some.is
    (packet-handled g.R.Receiver.meaning c.args.who.now.address c.args.who.now.group c.args.bytes c.in-Ok.packet c.in-Some.running c.take_packet.new.member_state c.nothing-out.result c.take_packet.new.out (sym c.decode.ensures.exact ∙ c.in-Ok.is) c.nothing-out.ensures c.in-Ok-take_packet.ensures.does c.in-Ok-take_packet.ensures.did c.in-Ok-take_packet.ensures.connected c.in-Ok-take_packet.ensures.calm
    (λ i. (c.in-Ok-take_packet.ensures.ignored i).1) c.in-Ok-take_packet.ensures.running)

pub returns-in-Err-take_packet-clause-handled : goal.returns-in-Err-take_packet-clause-handled
returns-in-Err-take_packet-clause-handled g c =
    from-some g.R.Receiver.meaning c.args.who.now.address c.args.who.now.group c.args.member_state.now c.in-Some.running _ _ _ c.in-Some.is
    (packet-stopped g.R.Receiver.meaning c.args.who.now.address c.args.who.now.group c.in-Err-take_packet.stop c.from.result c.args.bytes c.in-Ok.packet c.in-Some.running c.from.ensures (sym c.decode.ensures.exact ∙ c.in-Ok.is)
    (λ i. let y = c.in-Err-take_packet.ensures.ignored i in let n = y.0 in absurd (cc)) (λ e. c.in-Err-take_packet.ensures.unreadable (ap (λ (s : Stop). Err s) e)))
