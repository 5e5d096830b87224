use Rattle.std.proofs.Common.{◌∙◌}
use Rattle.udp_runs.proofs.NodesTell.{quiet-none, quiet-then}
use Rattle.udp_runs.proofs.lone.LoneNode.send_lines.Goals as goal

pub returns-in_err-take_back-clause-drives : goal.returns-in_err-take_back-clause-drives
returns-in_err-take_back-clause-drives g c group start came later owed earlier = quiet-none _ _ _ _ group _

pub returns-then-holds-clause-drives : goal.returns-then-holds-clause-drives
returns-then-holds-clause-drives g c group start came later owed earlier = quiet-none _ _ _ _ group _

pub returns-then-holds-clause-owes : goal.returns-then-holds-clause-owes
returns-then-holds-clause-owes g c = c.in_ok-take_back.ensures

pub returns-in_err-send_first-clause-drives : goal.returns-in_err-send_first-clause-drives
returns-in_err-send_first-clause-drives g c group start came later owed earlier = c.send_first.ensures.drives group start later

pub loop-sent-init : goal.loop-sent-init
loop-sent-init g c = (
  λ group start came later owed earlier. c.send_first.ensures.drives group start later,
  c.send_first.ensures.same.0,
  c.send_first.ensures.same.1,
  λ start came owed. c.in_ok-send_first.ensures.owes start came (c.in_ok-take_back.ensures start came owed),
)

pub returns-in_err-send_line-clause-drives : goal.returns-in_err-send_line-clause-drives
returns-in_err-send_line-clause-drives g c group start came later owed earlier = let (drives, voice, once, keeps) = c.loop-sent.invariant in quiet-then _ _ _ _ group _ _ _ (drives group start came later owed earlier) (rw once at c.send_line.ensures.drives group start came later (keeps start came owed) earlier)

pub returns-then-not-branch-clause-drives : goal.returns-then-not-branch-clause-drives
returns-then-not-branch-clause-drives g c group start came later owed earlier = let (drives, voice, once, keeps) = c.loop-sent.invariant in quiet-then _ _ _ _ group _ _ _ (drives group start came later owed earlier) (rw once at c.send_line.ensures.drives group start came later (keeps start came owed) earlier)

pub returns-then-not-branch-clause-owes : goal.returns-then-not-branch-clause-owes
returns-then-not-branch-clause-owes g c start came owed = let (drives, voice, once, keeps) = c.loop-sent.invariant in c.in_ok-send_line.ensures.owes start came (keeps start came owed)

pub loop-sent-preserved : goal.loop-sent-preserved
loop-sent-preserved g c = let (drives, voice, once, keeps) = c.loop-sent.invariant in (
  λ group start came later owed earlier. quiet-then _ _ _ _ group _ _ _ (drives group start came later owed earlier) (rw once at c.send_line.ensures.drives group start came later (keeps start came owed) earlier),
  c.send_line.ensures.same.0 ∙ voice,
  c.send_line.ensures.same.1 ∙ once,
  λ start came owed. c.in_ok-send_line.ensures.owes start came (keeps start came owed),
)

pub returns-clause-owes : goal.returns-clause-owes
returns-clause-owes g c = let (drives, voice, once, keeps) = c.loop-sent.invariant in keeps
