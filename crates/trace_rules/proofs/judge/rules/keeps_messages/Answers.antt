use Rattle.trace_props.specs.Following.{MayCarry}
use Rattle.trace_rules.proofs.TestsOfOneView.{of-event, deliver-decides}
use Rattle.trace_rules.proofs.judge.rules.keeps_messages.Goals as goal

-- a message is delivered
pub returns-in-Delivered-clause-messages : goal.returns-in-Delivered-clause-messages
returns-in-Delivered-clause-messages c = of-event (MayCarry c.args.past.now) c.args.event.now _ c.may_deliver.result.0 _ c.in-Delivered.is c.may_deliver.ensures.messages (deliver-decides c.args.past.now c.in-Delivered.delivery)
