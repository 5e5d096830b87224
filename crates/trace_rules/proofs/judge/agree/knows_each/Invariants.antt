use Rattle.std.proofs.Common.{◌≡◌, drop}
use Rattle.std.specs.List.{list_all}
use Rattle.trace_props.specs.Observed.{entry_of}
use Rattle.trace_rules.specs.Judged.{know_each_other}
use Rattle.trace_rules.proofs.judge.agree.knows_each.Given as goal

-- those so far are known
abbrev pub invariant-loop-member : goal.invariant-loop-member
invariant-loop-member l = list_all (λ q. know_each_other (entry_of q l.install.view.id l.past) l.install) l.members ≡ list_all (λ q. know_each_other (entry_of q l.install.view.id l.past) l.install) (drop l.member-index l.members)
