use Rattle.std.proofs.Common.{sym, ap, not, ◌∙◌}
use Rattle.std.proofs.lemmas.Result.{on_ok_weaker}
use Rattle.member_rules.proofs.ActsOfRules.{ask-again-did, flush-again-did}
use Rattle.member_rules.proofs.MembersAreOpen.{nothing-did}
use Rattle.member.proofs.hearing.pass_time.Goals as goal
use Rattle.address.proofs.Plain.{is-none}
use Rattle.step_output.specs.Steps.{who_of}

pub returns-then-is_none-clause-did : goal.returns-then-is_none-clause-did
returns-then-is_none-clause-did g c =
    on_ok_weaker c.ask_again.result (λ is came. ask-again-did g.R.Receiver.meaning (who_of c.args.who.now) came c.args.member_state.now c.args.out.now c.ask_again.new.out c.requires.running.member_state
    (is-none c.args.member_state.now.view_state (c.is_none.ensures ∙ ap not c.if-is_none.true)) is) c.ask_again.ensures

pub returns-else-is_installed-clause-did : goal.returns-else-is_installed-clause-did
returns-else-is_installed-clause-did g c =
    on_ok_weaker c.flush_again.result (λ is came. flush-again-did g.R.Receiver.meaning (who_of c.args.who.now) came c.args.member_state.now c.args.out.now c.flush_again.new.out c.requires.running.member_state (c.is_none.ensures ∙ ap not c.if-is_none.false)
    (sym c.is_installed.ensures ∙ c.if-is_installed.false) is) c.flush_again.ensures

pub returns-then-not-is_connected-clause-did : goal.returns-then-not-is_connected-clause-did
returns-then-not-is_connected-clause-did g c = λ came. nothing-did g.R.Receiver.meaning came _ _ _ _
