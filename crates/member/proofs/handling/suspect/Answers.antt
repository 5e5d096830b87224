use Rattle.std.proofs.Common.{not, refl}
use Rattle.member.specs.declared.input.Input.TheVariants.{Suspect}
use Rattle.member_rules.specs.Views.{is_suspectable}
use Rattle.member_rules.proofs.KeepSteady.{suspect-steady}
use Rattle.member_rules.proofs.ViewsAreCalm.{suspect-calm}
use Rattle.member.proofs.StepsPromise.{from-some, steady-runs, suspect-handled, memory-handled, unless}
use Rattle.member.proofs.handling.suspect.Goals as goal
use Rattle.std.proofs.lemmas.Bool.{not-true}
use Rattle.step_output.specs.Steps.{who_of}
use Rattle.membership.specs.InSteps.{in_step}

pub on_suspect-requires : goal.on_suspect-requires
on_suspect-requires g c =
    record { member_state = (c.requires.alive c.in-Some.running c.in-Some.is).member_state }

pub returns-in-Ok : goal.returns-in-Ok
returns-in-Ok g c =
    from-some g.R.Receiver.meaning c.args.who.now.address c.args.who.now.group c.args.member_state.now c.in-Some.running _ _ _ c.in-Some.is
    (suspect-handled g.R.Receiver.meaning c.args.who.now.address c.args.who.now.group c.args.address c.in-Some.running c.on_suspect.new.member_state c.nothing-out.result c.on_suspect.new.out (c.requires.alive c.in-Some.running c.in-Some.is).member_state c.nothing-out.ensures c.in-Ok.ensures.does
    (suspect-calm (who_of c.args.who.now) g.R.Receiver.meaning c.args.address (in_step c.in-Some.running c.nothing-out.result) (in_step c.on_suspect.new.member_state c.on_suspect.new.out) c.in-Ok.ensures.does) (λ no. (c.in-Ok.ensures.ignored no).1)
    (steady-runs c.args.who.now.group c.args.who.now.address c.in-Some.running c.on_suspect.new.member_state
    (suspect-steady (who_of c.args.who.now) g.R.Receiver.meaning c.args.address (in_step c.in-Some.running c.nothing-out.result) (in_step c.on_suspect.new.member_state c.on_suspect.new.out) c.in-Ok.ensures.does)
    c.in-Ok.ensures.member_state (c.requires.alive c.in-Some.running c.in-Some.is)))

pub returns-in-Err : goal.returns-in-Err
returns-in-Err g c =
    rw (c.end_without_memory.ensures.memory, c.end_without_memory.ensures.ended) (from-some g.R.Receiver.meaning c.args.who.now.address c.args.who.now.group c.args.member_state.now c.in-Some.running _ _ _ c.in-Some.is
    (memory-handled g.R.Receiver.meaning c.args.who.now.address c.args.who.now.group c.in-Some.running (Suspect c.args.address) refl (unless (not (is_suspectable c.args.who.now.address c.args.address c.in-Some.running)) (λ i. let y = c.in-Err.ensures.ignored (not-true _ i) in let n = y.0 in absurd (cc)))))
