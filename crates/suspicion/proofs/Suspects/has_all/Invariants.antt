use Rattle.std.proofs.Common.{◌≡◌, drop}
use Rattle.std.specs.List.{list_all}
use Rattle.view.specs.Members.{stands_in}
use Rattle.suspicion.proofs.Suspects.has_all.Given as goal

-- those so far are suspected
abbrev pub invariant-loop-member : goal.invariant-loop-member
invariant-loop-member l = list_all (λ m. stands_in m l.self) l.members ≡ list_all (λ m. stands_in m l.self) (drop l.member-index l.members)
