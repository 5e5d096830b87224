use Rattle.std.proofs.Common.{sym, ap, ◌∙◌}
use Rattle.std.specs.Result.{result_err}
use Rattle.member.proofs.StepsPromise.{from-some, unsent-handled, sent-handled, unsaid-handled}
use Rattle.member.proofs.handling.send_message.Goals as goal

pub returns-in-Err : goal.returns-in-Err
returns-in-Err g c =
    from-some g.R.Receiver.meaning c.args.who.now.address c.args.who.now.group c.args.member_state.now c.in-Some.running _ _ _ c.in-Some.is
    (unsent-handled g.R.Receiver.meaning c.args.who.now.address c.args.who.now.group c.args.payload c.in-Some.running c.in-Err.refusal (sym (c.sendable.ensures.refused c.args.who.now.address) ∙ ap result_err c.in-Err.is) (c.requires.alive c.in-Some.running c.in-Some.is))

pub send-requires-clause-member_state : goal.send-requires-clause-member_state
send-requires-clause-member_state g c =
    (c.requires.alive c.in-Some.running c.in-Some.is).member_state

pub send-requires-clause-ordered : goal.send-requires-clause-ordered
send-requires-clause-ordered g c =
    (c.requires.alive c.in-Some.running c.in-Some.is).ordered

pub send-requires-clause-free : goal.send-requires-clause-free
send-requires-clause-free g c =
    rw c.in-Ok.ensures.payload (sym (c.in-Ok.ensures.refused c.args.who.now.address))

pub returns-in-Ok-send : goal.returns-in-Ok-send
returns-in-Ok-send g c =
    from-some g.R.Receiver.meaning c.args.who.now.address c.args.who.now.group c.args.member_state.now c.in-Some.running _ _ _ c.in-Some.is
    (sent-handled g.R.Receiver.meaning c.args.who.now.address c.args.who.now.group c.args.payload c.in-Ok.payload c.in-Some.running c.send.new.member_state c.nothing-out.result c.send.new.out c.in-Ok.ensures.payload
    (c.requires.alive c.in-Some.running c.in-Some.is).ordered (sym (c.in-Ok.ensures.refused c.args.who.now.address)) c.nothing-out.ensures c.in-Ok-send.ensures.does c.in-Ok-send.ensures.did
    c.in-Ok-send.ensures.calm c.in-Ok-send.ensures.prompt (record { member_state = c.in-Ok-send.ensures.member_state; ordered = c.in-Ok-send.ensures.ordered }))

pub returns-in-Err-send : goal.returns-in-Err-send
returns-in-Err-send g c =
    rw (c.end_without_memory.ensures.memory, c.end_without_memory.ensures.ended) (from-some g.R.Receiver.meaning c.args.who.now.address c.args.who.now.group c.args.member_state.now c.in-Some.running _ _ _ c.in-Some.is
    (unsaid-handled g.R.Receiver.meaning c.args.who.now.address c.args.who.now.group c.args.payload c.in-Some.running (sym (c.in-Ok.ensures.refused c.args.who.now.address))))
