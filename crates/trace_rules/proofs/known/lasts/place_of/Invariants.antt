use Rattle.std.proofs.Common.{◌≡◌, drop}
use Rattle.std.specs.List.{position_from}
use Rattle.address.specs.Ids.{same_address}
use Rattle.trace_rules.proofs.known.lasts.place_of.Given as goal

-- the sender is not among those so far
abbrev pub invariant-loop-index : goal.invariant-loop-index
invariant-loop-index l = position_from (λ x. same_address x.sender l.sender) 0 l.lasts ≡ position_from (λ x. same_address x.sender l.sender) l.index (drop l.index l.lasts)
