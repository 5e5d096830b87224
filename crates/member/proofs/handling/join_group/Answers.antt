use Rattle.std.proofs.Common.{refl, sym, ap, ◌∙◌}
use Rattle.membership.specs.declared.member_state.MemberState.{MemberState}
use Rattle.member_rules.proofs.KeepSteady.{Same}
use Rattle.member.proofs.StepsPromise.{from-some, memory-handled, steady-runs, viewed-handled, join-handled}
use Rattle.member.proofs.handling.join_group.Goals as goal
use Rattle.address.proofs.Plain.{is-none}

pub returns-then-is_some : goal.returns-then-is_some
returns-then-is_some g c =
    from-some g.R.Receiver.meaning c.args.who.now.address c.args.who.now.group c.args.member_state.now c.in-Some.running _ _ _ c.in-Some.is
    (viewed-handled g.R.Receiver.meaning c.args.who.now.address c.args.who.now.group
    c.args.contact c.in-Some.running (sym c.is_some.ensures ∙ c.if-is_some.true) (c.requires.alive c.in-Some.running c.in-Some.is))

pub returns-in-Ok : goal.returns-in-Ok
returns-in-Ok g c =
    from-some g.R.Receiver.meaning c.args.who.now.address c.args.who.now.group c.args.member_state.now c.in-Some.running _ _ _ c.in-Some.is
    (join-handled g.R.Receiver.meaning c.args.who.now.address c.args.who.now.group c.args.contact c.in-Some.running c.ask.new.member_state c.nothing-out.result c.ask.new.out (c.requires.alive c.in-Some.running c.in-Some.is).member_state (is-none c.in-Some.running.view_state (sym c.is_some.ensures ∙ c.if-is_some.false)) c.nothing-out.ensures c.in-Ok.ensures.does
    (steady-runs c.args.who.now.group c.args.who.now.address c.in-Some.running c.ask.new.member_state
    (Same (ap (λ (l : MemberState g.row.R.Denot). l.view_state) c.in-Ok.ensures.does.member_state)) c.in-Ok.ensures.member_state (c.requires.alive c.in-Some.running c.in-Some.is)))

pub returns-in-Err : goal.returns-in-Err
returns-in-Err g c =
    rw (c.end_without_memory.ensures.memory, c.end_without_memory.ensures.ended) (from-some g.R.Receiver.meaning c.args.who.now.address c.args.who.now.group c.args.member_state.now c.in-Some.running _ _ _ c.in-Some.is
    (memory-handled g.R.Receiver.meaning c.args.who.now.address c.args.who.now.group c.in-Some.running _ (rw (is-none c.in-Some.running.view_state (sym c.is_some.ensures ∙ c.if-is_some.false)) refl) refl))
