use Rattle.std.proofs.Common.{refl, rules, sym}
use Rattle.udp_runs.proofs.MemberCommandsEnd.{first-ended, first-none, listed-ended, netless-ended}
use Rattle.udp_runs.proofs.one_node.run_member.Goals as goal

pub returns-in_default-clause-runs : goal.returns-in_default-clause-runs
returns-in_default-clause-runs g c = search rules

pub returns-in_default-clause-first : goal.returns-in_default-clause-first
returns-in_default-clause-first g c is = first-none _ _ _ _ _ _ _ _ _ _ _ _ refl

pub returns-in-Ok-clause-runs : goal.returns-in-Ok-clause-runs
returns-in-Ok-clause-runs g c = rw (sym (rw c.node.ensures at c.in-Some.ensures)) (listed-ended _ _ _ _ _ _ _ _ _ _ _ _ _ _ _ _ (rw c.net.ensures.gone at c.start-written.ensures c.in-Ok.ensures.fresh) c.end.ensures)

pub returns-in-Ok-clause-first : goal.returns-in-Ok-clause-first
returns-in-Ok-clause-first g c = first-ended _ _ _ _ _ _ _ _ _ _ _ _ _ _ _ _ (rw c.net.ensures.gone at c.start-written.ensures c.in-Ok.ensures.fresh) c.end.ensures

pub returns-in-Err-clause-runs : goal.returns-in-Err-clause-runs
returns-in-Err-clause-runs g c = rw (sym (rw c.node.ensures at c.in-Some.ensures)) (netless-ended _ _ _ _ _ _ _ _ _ _ _ _ _ _ _ c.end_without_net-in-Err.ensures)

pub returns-in-Err-clause-first : goal.returns-in-Err-clause-first
returns-in-Err-clause-first g c is = first-none _ _ _ _ _ _ _ _ _ _ _ _ c.net.ensures.gone
