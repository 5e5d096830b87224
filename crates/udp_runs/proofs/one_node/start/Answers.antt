use Rattle.std.proofs.Common.{refl}
use Rattle.udp_runs.proofs.MemberCommandsEnd.{goes-alone, silent-first, start-failed, start-lacked, start-went}
use Rattle.udp_runs.proofs.LinesKept.{earlier-refl, owes-new}
use Rattle.udp_runs.proofs.one_node.start.Goals as goal

pub returns-in-Err : goal.returns-in-Err
returns-in-Err g c fresh = start-failed _ _ _ _ _ _ _ _ _ _ _ _ _ c.in-Err.why refl c.in-Err.ensures

pub returns-in-Err-member_at : goal.returns-in-Err-member_at
returns-in-Err-member_at g c fresh = start-lacked _ _ _ _ _ _ _ _ _ _ _ _ _ refl c.in-Ok.ensures

pub returns : goal.returns
returns g c fresh =
    start-went _ _ _ _ _ _ _ _ _ _ _ _ _ _ _ c.in-Ok.ensures (goes-alone _ _ _ _ _ _ (record { played = c.runners_are_synchronous.ensures.played; own = c.runners_are_synchronous.ensures.own; known = c.runners_are_synchronous.ensures.known }) c.is_real.ensures _ _ _ _ _
    (silent-first c.args.manner.finds c.args.plan.now.contact) c.in-Ok-member_at.member _ _ _ _ c.in-Ok-member_at.ensures.channel (rw c.in-Ok-member_at.ensures.net fresh)
    (rw (c.new-lone.ensures.member, c.new-lone.ensures.voice, c.new-lone.ensures.manner, c.new-lone.ensures.once) at c.play-played.ensures.plays (g.L.Lines.came c.args.lines.now) (g.L.Lines.came c.give_back.new.lines)
    (rw (c.new-lone.ensures.outbox, c.new-lone.ensures.unsaid) (owes-new (g.L.Lines.came c.args.lines.now))) (rw c.give_back.ensures (earlier-refl (g.L.Lines.came c.play-played.new.lines))))
    (rw (c.tell.ensures, c.play-played.ensures.gone, c.into_net.ensures) at c.close.ensures))
