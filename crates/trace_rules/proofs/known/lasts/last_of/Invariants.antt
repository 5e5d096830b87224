use Rattle.std.proofs.Common.{◌≡◌, drop}
use Rattle.trace_rules.specs.Lasts.{number_of}
use Rattle.trace_rules.proofs.known.lasts.last_of.Given as goal

-- the number is not among those so far
abbrev pub invariant-loop-last : goal.invariant-loop-last
invariant-loop-last l = number_of l.lasts l.sender ≡ number_of (drop l.last-index l.lasts) l.sender
