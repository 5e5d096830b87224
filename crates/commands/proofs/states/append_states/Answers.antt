use Rattle.std.proofs.Common.{◌≡◌, ◌∙◌, arith, rules}
use Rattle.commands.proofs.StateLinesFollow.{printed-next, printed-some, printed-all}
use Rattle.commands.proofs.states.append_states.Goals as goal
use Rattle.address.proofs.Plain.{on-err}
use Rattle.address.specs.declared.limits.TheConstants.{GREATEST_NODE}

pub returns-in_err-append_state_at-clause-err : goal.returns-in_err-append_state_at-clause-err
returns-in_err-append_state_at-clause-err g c =
    on-err c.from_residual.result _
    (printed-some g.A.Receiver.meaning g.A.Application.line_of c.args.world.now.history.trace c.loop-before.before _ _ c.loop-before.auto.before-end
    (c.in_err-append_state_at.ensures.err ∙ c.loop-before.invariant))

pub loop-before-preserved : goal.loop-before-preserved
loop-before-preserved g c =
    printed-next g.A.Receiver.meaning g.A.Application.line_of c.args.world.now.history.trace c.loop-before.before _ _ _ c.loop-before.invariant
    c.in_ok-append_state_at.ensures.ok

pub returns-clause-ok : goal.returns-clause-ok
returns-clause-ok g c =
    let all : c.loop-before.before ≡ GREATEST_NODE = omega (arith, c.loop-before.auto.before-end, c.loop-before-test.false) in
    printed-all g.A.Receiver.meaning g.A.Application.line_of c.args.world.now.history.trace c.loop-before.before _ _ all c.loop-before.invariant

pub loop-before-init : goal.loop-before-init
loop-before-init g c = search rules
