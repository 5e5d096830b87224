use Rattle.std.proofs.Common.{rules}
use Rattle.std.proofs.lemmas.List.Sorted.{IsNonDecreasingBy-from_sort_by_key}
use Rattle.udp_runs.specs.Carrying.{place_of}
use Rattle.udp_runs.proofs.nodes.sorted.Goals as goal

pub returns-clause-by_number : goal.returns-clause-by_number
returns-clause-by_number c = IsNonDecreasingBy-from_sort_by_key place_of _ c.in_ok-sort_by_key.ensures.sorted (λ a r q k. search rules)
