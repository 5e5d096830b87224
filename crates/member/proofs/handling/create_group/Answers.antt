use Rattle.std.proofs.Common.{refl, sym, ap, ◌∙◌}
use Rattle.membership.specs.declared.member_state.MemberState.{MemberState}
use Rattle.member_rules.proofs.KeepSteady.{Fresh}
use Rattle.member.proofs.StepsPromise.{from-some, memory-handled, steady-runs, connected-handled, create-handled}
use Rattle.member.proofs.handling.create_group.Goals as goal

pub returns-then-is_connected : goal.returns-then-is_connected
returns-then-is_connected g c =
    from-some g.R.Receiver.meaning c.args.who.now.address c.args.who.now.group c.args.member_state.now c.in-Some.running _ _ _ c.in-Some.is
    (connected-handled g.R.Receiver.meaning c.args.who.now.address c.args.who.now.group
    c.in-Some.running (sym c.is_connected.ensures ∙ c.if-is_connected.true) (c.requires.alive c.in-Some.running c.in-Some.is))

pub returns-in-Ok : goal.returns-in-Ok
returns-in-Ok g c =
    from-some g.R.Receiver.meaning c.args.who.now.address c.args.who.now.group c.args.member_state.now c.in-Some.running _ _ _ c.in-Some.is
    (create-handled g.R.Receiver.meaning c.args.who.now.address c.args.who.now.group c.in-Some.running c.create.new.member_state c.nothing-out.result c.create.new.out (c.requires.alive c.in-Some.running c.in-Some.is).member_state (sym c.is_connected.ensures ∙ c.if-is_connected.false) c.nothing-out.ensures c.in-Ok.ensures.does
    (steady-runs c.args.who.now.group c.args.who.now.address c.in-Some.running c.create.new.member_state
    (Fresh _ (ap (λ (l : MemberState g.row.R.Denot). l.view_state) c.in-Ok.ensures.does.member_state)) c.in-Ok.ensures.member_state (c.requires.alive c.in-Some.running c.in-Some.is)))

pub returns-in-Err : goal.returns-in-Err
returns-in-Err g c =
    rw (c.end_without_memory.ensures.memory, c.end_without_memory.ensures.ended) (from-some g.R.Receiver.meaning c.args.who.now.address c.args.who.now.group c.args.member_state.now c.in-Some.running _ _ _ c.in-Some.is
    (memory-handled g.R.Receiver.meaning c.args.who.now.address c.args.who.now.group c.in-Some.running _ (rw (sym c.is_connected.ensures ∙ c.if-is_connected.false) refl) refl))
