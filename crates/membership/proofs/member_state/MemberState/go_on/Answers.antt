use Rattle.std.proofs.Common.{sym, ◌∙◌, rules, refl}
use Rattle.std.proofs.lemmas.Result.{on_ok_weaker}
use Rattle.traffic.specs.ViewStates.{view_of}
use Rattle.membership.specs.Installs.{finished_given}
use Rattle.membership.proofs.FlushesAreSayable.{all-sayable}
use Rattle.membership.proofs.KeepMemberState.{finished-member_state, goes-on}
use Rattle.membership.proofs.member_state.MemberState.go_on.Goals as goal
use Rattle.step_output.specs.Steps.{who_of}
use Rattle.membership.specs.InSteps.{in_step}

pub settle-requires-clause-list : goal.settle-requires-clause-list
settle-requires-clause-list g c = (c.requires.member_state.flushing c.unwrap-flush.result (sym c.take.ensures.value ∙ c.unwrap-flush.ensures)).list

pub settle-requires-clause-sound : goal.settle-requires-clause-sound
settle-requires-clause-sound g c =
    all-sayable c.unwrap-flush.result (view_of c.unwrap-view_state.result).id (finished_given g.R.Receiver.meaning c.unwrap-flush.result c.unwrap-view_state.result c.args.self.now.receiver) c.args.who.now.address
    c.kept.ensures (search rules) (c.requires.member_state.flushing c.unwrap-flush.result (sym c.take.ensures.value ∙ c.unwrap-flush.ensures)).list

pub propose-requires : goal.propose-requires
propose-requires g c = record {
  member_state = finished-member_state (who_of c.args.who.now) g.R.Receiver.meaning c.unwrap-flush.result c.unwrap-view_state.result c.args.self.now _ c.settle.new.self _ _ c.requires.member_state
      (sym c.take.ensures.value ∙ c.unwrap-flush.ensures) refl c.in_ok-settle.ensures;
}

pub returns-clause-goes_on : goal.returns-clause-goes_on
returns-clause-goes_on g c =
    on_ok_weaker c.propose.result (λ is. goes-on (who_of c.args.who.now) g.R.Receiver.meaning c.unwrap-flush.result c.unwrap-view_state.result (in_step c.args.self.now c.args.out.now) (in_step c.settle.new.self c.settle.new.out)
    (in_step c.propose.new.self c.propose.new.out)
    (sym c.take.ensures.value ∙ c.unwrap-flush.ensures) (sym c.take-2.ensures.value ∙ c.unwrap-view_state.ensures) (search rules) (search rules) is) c.propose.ensures.proposes
