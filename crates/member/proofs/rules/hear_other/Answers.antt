-- By the rule of each kind of packet.
use Rattle.std.proofs.Common.{◌≡◌, sym, ap, ◌∙◌, refl, subst, rules, Result, Ok, Err, OnOk}
use Rattle.address.specs.Ids.{Address}
use Rattle.state_transfer.specs.Meanings.{Meaning}
use Rattle.wire_values.specs.declared.packet.Body.{Body}
use Rattle.membership.proofs.ActsOfChanges.{takes-chunk-did}
use Rattle.member.specs.Hearing.{Hears, ignores}
use Rattle.member.proofs.KeepOrder.{steady-ordered}
use Rattle.member_rules.proofs.KeepSteady as steady
use Rattle.member_rules.proofs.ActsOfRules as acts
use Rattle.member_rules.proofs.ViewsAreCalm as calm
use Rattle.member.proofs.rules.hear_other.Goals as goal
use Rattle.std.proofs.lemmas.Bool.{not-true}
use Rattle.std.proofs.lemmas.Result.{on_ok_weaker}
use Rattle.step_output.specs.Steps.{Who, who_of}
use Rattle.membership.specs.InSteps.{InStep, in_step}

-- what it does by a packet's kind it does by the packet
by-kind : {S : Type 0} (meaning : Meaning S) (who : Who) (source : Address) (body kind : Body) (old new : InStep S) → body ≡ kind → Hears meaning who source kind old new → Hears meaning who source body old new
by-kind meaning who source body kind old new is = subst (λ b. Hears meaning who source b old new) (sym is)

both-ok : {T E P Q R : Type 0} (r : Result T E) → OnOk r P → OnOk r Q → (P → Q → R) → OnOk r R
both-ok (Ok x) p q f = f p q
both-ok (Err e) p q f = tt

pub returns-in-Join-clause-hears : goal.returns-in-Join-clause-hears
returns-in-Join-clause-hears g c = both-ok c.on_join.result c.on_join.ensures.member_state c.on_join.ensures.does (λ kept does. by-kind g.R.Receiver.meaning (who_of c.args.who.now) c.args.source _ _ (in_step c.args.member_state.now c.args.out.now) (in_step c.on_join.new.member_state c.on_join.new.out) c.in-Join.is record {
  member_state = kept;
  ordered = steady-ordered _ _ c.args.member_state.now c.on_join.new.member_state (steady.join-steady (who_of c.args.who.now) g.R.Receiver.meaning c.args.source (in_step c.args.member_state.now c.args.out.now) (in_step c.on_join.new.member_state c.on_join.new.out) does) kept c.requires.ordered;
  does = does;
  did = acts.join-did g.R.Receiver.meaning (who_of c.args.who.now) _ c.args.source (in_step c.args.member_state.now c.args.out.now) (in_step c.on_join.new.member_state c.on_join.new.out) c.requires.member_state does;
  calm = calm.join-calm (who_of c.args.who.now) g.R.Receiver.meaning c.args.source (in_step c.args.member_state.now c.args.out.now) (in_step c.on_join.new.member_state c.on_join.new.out) does;
})

pub returns-in-Leave-clause-hears : goal.returns-in-Leave-clause-hears
returns-in-Leave-clause-hears g c = both-ok c.on_suspect.result c.on_suspect.ensures.member_state c.on_suspect.ensures.does (λ kept does. by-kind g.R.Receiver.meaning (who_of c.args.who.now) c.args.source _ _ (in_step c.args.member_state.now c.args.out.now) (in_step c.on_suspect.new.member_state c.on_suspect.new.out) c.in-Leave.is record {
  member_state = kept;
  ordered = steady-ordered _ _ c.args.member_state.now c.on_suspect.new.member_state (steady.suspect-steady (who_of c.args.who.now) g.R.Receiver.meaning c.args.source (in_step c.args.member_state.now c.args.out.now) (in_step c.on_suspect.new.member_state c.on_suspect.new.out) does) kept c.requires.ordered;
  does = does;
  did = acts.suspect-did g.R.Receiver.meaning (who_of c.args.who.now) _ c.args.source (in_step c.args.member_state.now c.args.out.now) (in_step c.on_suspect.new.member_state c.on_suspect.new.out) c.requires.member_state does;
  calm = calm.suspect-calm (who_of c.args.who.now) g.R.Receiver.meaning c.args.source (in_step c.args.member_state.now c.args.out.now) (in_step c.on_suspect.new.member_state c.on_suspect.new.out) does;
})

pub returns-in-Flush-clause-hears : goal.returns-in-Flush-clause-hears
returns-in-Flush-clause-hears g c = both-ok c.on_flush.result c.on_flush.ensures.member_state c.on_flush.ensures.does (λ kept does. by-kind g.R.Receiver.meaning (who_of c.args.who.now) c.args.source _ _ (in_step c.args.member_state.now c.args.out.now) (in_step c.on_flush.new.member_state c.on_flush.new.out) c.in-Flush.is record {
  member_state = kept;
  ordered = steady-ordered _ _ c.args.member_state.now c.on_flush.new.member_state (steady.flush-steady (who_of c.args.who.now) g.R.Receiver.meaning c.args.source c.in-Flush.proposal (in_step c.args.member_state.now c.args.out.now) (in_step c.on_flush.new.member_state c.on_flush.new.out) does) kept c.requires.ordered;
  does = does;
  did = acts.flush-did g.R.Receiver.meaning (who_of c.args.who.now) _ c.args.source c.in-Flush.proposal (in_step c.args.member_state.now c.args.out.now) (in_step c.on_flush.new.member_state c.on_flush.new.out) c.requires.member_state c.requires.connected refl does;
  calm = calm.flush-calm (who_of c.args.who.now) g.R.Receiver.meaning c.args.source c.in-Flush.proposal (in_step c.args.member_state.now c.args.out.now) (in_step c.on_flush.new.member_state c.on_flush.new.out) does;
})

pub returns-in-Behind-clause-hears : goal.returns-in-Behind-clause-hears
returns-in-Behind-clause-hears g c = both-ok c.on_behind.result c.on_behind.ensures.member_state c.on_behind.ensures.does (λ kept does. by-kind g.R.Receiver.meaning (who_of c.args.who.now) c.args.source _ _ (in_step c.args.member_state.now c.args.out.now) (in_step c.on_behind.new.member_state c.on_behind.new.out) c.in-Behind.is record {
  member_state = kept;
  ordered = steady-ordered _ _ c.args.member_state.now c.on_behind.new.member_state (steady.behind-steady (who_of c.args.who.now) g.R.Receiver.meaning c.in-Behind.proposal c.in-Behind.counter (in_step c.args.member_state.now c.args.out.now) (in_step c.on_behind.new.member_state c.on_behind.new.out) does) kept c.requires.ordered;
  does = does;
  did = acts.behind-did g.R.Receiver.meaning (who_of c.args.who.now) _ c.in-Behind.proposal c.in-Behind.counter (in_step c.args.member_state.now c.args.out.now) (in_step c.on_behind.new.member_state c.on_behind.new.out) c.requires.member_state does;
  calm = calm.behind-calm (who_of c.args.who.now) g.R.Receiver.meaning c.in-Behind.proposal c.in-Behind.counter (in_step c.args.member_state.now c.args.out.now) (in_step c.on_behind.new.member_state c.on_behind.new.out) does;
})

pub returns-in-Report-clause-hears : goal.returns-in-Report-clause-hears
returns-in-Report-clause-hears g c = both-ok c.on_report.result c.on_report.ensures.member_state c.on_report.ensures.does (λ kept does. by-kind g.R.Receiver.meaning (who_of c.args.who.now) c.args.source _ _ (in_step c.args.member_state.now c.args.out.now) (in_step c.on_report.new.member_state c.on_report.new.out) c.in-Report.is record {
  member_state = kept;
  ordered = steady-ordered _ _ c.args.member_state.now c.on_report.new.member_state (steady.report-steady (who_of c.args.who.now) g.R.Receiver.meaning c.args.source c.in-Report.proposal c.in-Report.report (in_step c.args.member_state.now c.args.out.now) (in_step c.on_report.new.member_state c.on_report.new.out) does) kept c.requires.ordered;
  does = does;
  did = acts.report-did g.R.Receiver.meaning (who_of c.args.who.now) _ c.args.source c.in-Report.proposal c.in-Report.report (in_step c.args.member_state.now c.args.out.now) (in_step c.on_report.new.member_state c.on_report.new.out) c.requires.member_state refl does;
  calm = calm.report-calm (who_of c.args.who.now) g.R.Receiver.meaning c.args.source c.in-Report.proposal c.in-Report.report (in_step c.args.member_state.now c.args.out.now) (in_step c.on_report.new.member_state c.on_report.new.out) does;
})

pub returns-in-Merge-clause-hears : goal.returns-in-Merge-clause-hears
returns-in-Merge-clause-hears g c = both-ok c.on_merge.result c.on_merge.ensures.member_state c.on_merge.ensures.does (λ kept does. by-kind g.R.Receiver.meaning (who_of c.args.who.now) c.args.source _ _ (in_step c.args.member_state.now c.args.out.now) (in_step c.on_merge.new.member_state c.on_merge.new.out) c.in-Merge.is record {
  member_state = kept;
  ordered = steady-ordered _ _ c.args.member_state.now c.on_merge.new.member_state (steady.merge-steady (who_of c.args.who.now) g.R.Receiver.meaning c.args.source c.in-Merge.view (in_step c.args.member_state.now c.args.out.now) (in_step c.on_merge.new.member_state c.on_merge.new.out) does) kept c.requires.ordered;
  does = does;
  did = acts.merge-did g.R.Receiver.meaning (who_of c.args.who.now) _ c.args.source c.in-Merge.view (in_step c.args.member_state.now c.args.out.now) (in_step c.on_merge.new.member_state c.on_merge.new.out) c.requires.member_state does;
  calm = calm.merge-calm (who_of c.args.who.now) g.R.Receiver.meaning c.args.source c.in-Merge.view (in_step c.args.member_state.now c.args.out.now) (in_step c.on_merge.new.member_state c.on_merge.new.out) does;
})

pub returns-in-State-clause-hears : goal.returns-in-State-clause-hears
returns-in-State-clause-hears g c = both-ok c.take_chunk.result c.take_chunk.ensures.member_state c.take_chunk.ensures.takes (λ kept does. by-kind g.R.Receiver.meaning (who_of c.args.who.now) c.args.source _ _ (in_step c.args.member_state.now c.args.out.now) (in_step c.take_chunk.new.self c.take_chunk.new.out) c.in-State.is record {
  member_state = kept;
  ordered = steady-ordered _ _ c.args.member_state.now c.take_chunk.new.self (steady.chunk-steady (who_of c.args.who.now) g.R.Receiver.meaning c.args.source c.in-State.proposal c.in-State.chunk (in_step c.args.member_state.now c.args.out.now) (in_step c.take_chunk.new.self c.take_chunk.new.out) does) kept c.requires.ordered;
  does = does;
  did = takes-chunk-did g.R.Receiver.meaning (who_of c.args.who.now) _ c.args.source c.in-State.proposal c.in-State.chunk (in_step c.args.member_state.now c.args.out.now) (in_step c.take_chunk.new.self c.take_chunk.new.out) does refl;
  calm = calm.chunk-calm (who_of c.args.who.now) g.R.Receiver.meaning c.args.source c.in-State.proposal c.in-State.chunk (in_step c.args.member_state.now c.args.out.now) (in_step c.take_chunk.new.self c.take_chunk.new.out) does;
})

pub returns-in-Forward-clause-hears : goal.returns-in-Forward-clause-hears
returns-in-Forward-clause-hears g c = on_ok_weaker c.on_forward.result (λ e. by-kind g.R.Receiver.meaning (who_of c.args.who.now) c.args.source _ _ (in_step c.args.member_state.now c.args.out.now) (in_step c.on_forward.new.member_state c.on_forward.new.out) c.in-Forward.is record { member_state = e.member_state; ordered = e.ordered; does = e.does; did = e.did; calm = search rules }) c.on_forward.ensures.hears

pub returns-in-Order-clause-hears : goal.returns-in-Order-clause-hears
returns-in-Order-clause-hears g c = on_ok_weaker c.on_order.result (λ e. by-kind g.R.Receiver.meaning (who_of c.args.who.now) c.args.source _ _ (in_step c.args.member_state.now c.args.out.now) (in_step c.on_order.new.member_state c.on_order.new.out) c.in-Order.is record { member_state = e.member_state; ordered = e.ordered; does = e.does; did = e.did; calm = search rules }) c.on_order.ensures.hears

pub returns-in-Nak-clause-hears : goal.returns-in-Nak-clause-hears
returns-in-Nak-clause-hears g c = on_ok_weaker c.on_nak.result (λ e. by-kind g.R.Receiver.meaning (who_of c.args.who.now) c.args.source _ _ (in_step c.args.member_state.now c.args.out.now) (in_step c.on_nak.new.member_state c.on_nak.new.out) c.in-Nak.is record { member_state = e.member_state; ordered = e.ordered; does = e.does; did = e.did; calm = search rules }) c.on_nak.ensures.hears

pub returns-in-Ack-clause-hears : goal.returns-in-Ack-clause-hears
returns-in-Ack-clause-hears g c = on_ok_weaker c.on_ack.result (λ e. by-kind g.R.Receiver.meaning (who_of c.args.who.now) c.args.source _ _ (in_step c.args.member_state.now c.args.out.now) (in_step c.on_ack.new.member_state c.on_ack.new.out) c.in-Ack.is record { member_state = e.member_state; ordered = e.ordered; does = e.does; did = e.did; calm = search rules }) c.on_ack.ensures.hears

pub returns-in-Status-clause-hears : goal.returns-in-Status-clause-hears
returns-in-Status-clause-hears g c = on_ok_weaker c.on_status.result (λ e. by-kind g.R.Receiver.meaning (who_of c.args.who.now) c.args.source _ _ (in_step c.args.member_state.now c.args.out.now) (in_step c.on_status.new.member_state c.on_status.new.out) c.in-Status.is record { member_state = e.member_state; ordered = e.ordered; does = e.does; did = e.did; calm = search rules }) c.on_status.ensures.hears

pub returns-in-Redirect-clause-hears : goal.returns-in-Redirect-clause-hears
returns-in-Redirect-clause-hears g c = both-ok c.on_redirect.result c.on_redirect.ensures.member_state c.on_redirect.ensures.does (λ kept does. by-kind g.R.Receiver.meaning (who_of c.args.who.now) c.args.source _ _ (in_step c.args.member_state.now c.args.out.now) (in_step c.on_redirect.new.member_state c.on_redirect.new.out) c.in-Redirect.is record {
  member_state = kept;
  ordered = search rules;
  does = does;
  did = acts.redirect-did g.R.Receiver.meaning (who_of c.args.who.now) _ c.in-Redirect.coordinator (in_step c.args.member_state.now c.args.out.now) (in_step c.on_redirect.new.member_state c.on_redirect.new.out) c.requires.member_state does;
  calm = calm.redirect-calm (who_of c.args.who.now) g.R.Receiver.meaning c.in-Redirect.coordinator (in_step c.args.member_state.now c.args.out.now) (in_step c.on_redirect.new.member_state c.on_redirect.new.out) does;
})

pub returns-in-Order-clause-ignored : goal.returns-in-Order-clause-ignored
returns-in-Order-clause-ignored g c =
    λ i. c.on_order.ensures.ignored (not-true _ (sym (ap (λ (b : Body). ignores c.args.who.now.address c.args.source b c.args.member_state.now) c.in-Order.is) ∙ i))

pub returns-in-Ack-clause-ignored : goal.returns-in-Ack-clause-ignored
returns-in-Ack-clause-ignored g c =
    λ i. c.on_ack.ensures.ignored (not-true _ (sym (ap (λ (b : Body). ignores c.args.who.now.address c.args.source b c.args.member_state.now) c.in-Ack.is) ∙ i))

pub returns-in-Status-clause-ignored : goal.returns-in-Status-clause-ignored
returns-in-Status-clause-ignored g c =
    λ i. c.on_status.ensures.ignored (not-true _ (sym (ap (λ (b : Body). ignores c.args.who.now.address c.args.source b c.args.member_state.now) c.in-Status.is) ∙ i))

pub returns-in-State-clause-ignored : goal.returns-in-State-clause-ignored
returns-in-State-clause-ignored g c =
    λ i. c.take_chunk.ensures.ignored (not-true _ (sym (ap (λ (b : Body). ignores c.args.who.now.address c.args.source b c.args.member_state.now) c.in-State.is) ∙ i))

pub returns-in-Forward-clause-ignored : goal.returns-in-Forward-clause-ignored
returns-in-Forward-clause-ignored g c =
    λ i. c.on_forward.ensures.ignored (not-true _ (sym (ap (λ (b : Body). ignores c.args.who.now.address c.args.source b c.args.member_state.now) c.in-Forward.is) ∙ i))

pub returns-in-Nak-clause-ignored : goal.returns-in-Nak-clause-ignored
returns-in-Nak-clause-ignored g c =
    λ i. c.on_nak.ensures.ignored (not-true _ (sym (ap (λ (b : Body). ignores c.args.who.now.address c.args.source b c.args.member_state.now) c.in-Nak.is) ∙ i))
