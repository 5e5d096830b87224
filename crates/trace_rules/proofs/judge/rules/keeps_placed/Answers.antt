use Rattle.std.proofs.Common.{Bool, subst, sym}
use Rattle.std.specs.Bool.{Decides}
use Rattle.trace_props.specs.Rules.{MayStand}
use Rattle.trace_rules.proofs.TestsOfOneView.{stands-decides}
use Rattle.trace_rules.proofs.judge.rules.keeps_placed.Goals as goal

-- the test decides
pub returns : goal.returns
returns c = subst (λ (b : Bool). Decides b (MayStand c.args.past.now c.args.event.now)) (sym c.may_stand.ensures) (stands-decides c.args.past.now c.args.event.now)
