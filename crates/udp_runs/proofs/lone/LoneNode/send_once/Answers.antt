use Rattle.std.proofs.Common.{ap, inl}
use Rattle.std.specs.Option.{option_copied}
use Rattle.udp_runs.proofs.NodesTell.{quiet-none}
use Rattle.udp_runs.proofs.LinesKept.{earlier-refl}
use Rattle.udp_runs.proofs.lone.LoneNode.send_once.Goals as goal

pub returns-in_default-clause-drives : goal.returns-in_default-clause-drives
returns-in_default-clause-drives g c group start later = quiet-none _ _ _ _ group _

pub returns-in_default-2-clause-drives : goal.returns-in_default-2-clause-drives
returns-in_default-2-clause-drives g c group start later = quiet-none _ _ _ _ group _

pub returns-in_err-says-clause-drives : goal.returns-in_err-says-clause-drives
returns-in_err-says-clause-drives g c group start later = c.says.ensures.drives group start later later (inl (ap option_copied c.in-true-Some.is-1)) (earlier-refl later)

pub returns-in-Taken-clause-drives : goal.returns-in-Taken-clause-drives
returns-in-Taken-clause-drives g c group start later = c.says.ensures.drives group start later later (inl (ap option_copied c.in-true-Some.is-1)) (earlier-refl later)

pub returns-in-Waits-clause-drives : goal.returns-in-Waits-clause-drives
returns-in-Waits-clause-drives g c group start later = c.says.ensures.drives group start later later (inl (ap option_copied c.in-true-Some.is-1)) (earlier-refl later)

pub returns-in-Bad-clause-drives : goal.returns-in-Bad-clause-drives
returns-in-Bad-clause-drives g c group start later = c.says.ensures.drives group start later later (inl (ap option_copied c.in-true-Some.is-1)) (earlier-refl later)
