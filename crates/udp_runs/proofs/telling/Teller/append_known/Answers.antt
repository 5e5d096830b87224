use Rattle.std.proofs.Common.{refl, rules}
use Rattle.udp_runs.proofs.NodesTell.{appends-known}
use Rattle.udp_runs.proofs.telling.Teller.append_known.Goals as goal

pub returns-clause-text : goal.returns-clause-text
returns-clause-text g c =
    appends-known _ _ c.args.channel.now c.address.result c.id-id.result c.stable-count.result _ _ (search rules) c.address.ensures (rw (← c.view.ensures, c.in-Some.is, c.id-id.ensures) refl)
    c.stable-count.ensures c.in_ok-append_stable.ensures.text
