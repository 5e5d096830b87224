use Rattle.std.proofs.Common.{refl, ◌∙◌}
use Rattle.udp_runs.proofs.NodesTell.{quiet-none, quiet-then}
use Rattle.udp_runs.proofs.lone.LoneNode.send_writes.Goals as goal

pub returns-then-holds-clause-drives : goal.returns-then-holds-clause-drives
returns-then-holds-clause-drives g c group start later owed earlier = quiet-none _ _ _ _ group _

pub loop-sent-init : goal.loop-sent-init
loop-sent-init g c = (λ group start later owed earlier. quiet-none _ _ _ _ group _, refl, refl, refl, λ start owed. owed)

pub returns-in_err-send_write-clause-drives : goal.returns-in_err-send_write-clause-drives
returns-in_err-send_write-clause-drives g c group start later owed earlier = let (drives, voice, once, came, keeps) = c.loop-sent.invariant in quiet-then _ _ _ _ group _ _ _ (drives group start later owed (rw c.send_write.ensures.came at earlier)) (rw once at c.send_write.ensures.drives group start later (keeps start owed) earlier)

pub returns-then-not-branch-clause-drives : goal.returns-then-not-branch-clause-drives
returns-then-not-branch-clause-drives g c group start later owed earlier = let (drives, voice, once, came, keeps) = c.loop-sent.invariant in quiet-then _ _ _ _ group _ _ _ (drives group start later owed (rw c.send_write.ensures.came at earlier)) (rw once at c.send_write.ensures.drives group start later (keeps start owed) earlier)

pub loop-sent-preserved : goal.loop-sent-preserved
loop-sent-preserved g c = let (drives, voice, once, came, keeps) = c.loop-sent.invariant in (
  λ group start later owed earlier. quiet-then _ _ _ _ group _ _ _ (drives group start later owed (rw c.send_write.ensures.came at earlier)) (rw once at c.send_write.ensures.drives group start later (keeps start owed) earlier),
  c.send_write.ensures.same.0 ∙ voice,
  c.send_write.ensures.same.1 ∙ once,
  c.send_write.ensures.came ∙ came,
  λ start owed. c.in_ok-send_write.ensures.owes start (keeps start owed),
)
