use Rattle.trace_rules.proofs.TestsOfOneView.{order-else}
use Rattle.trace_rules.proofs.judge.messages.is_next_in_order.Goals as goal

-- the member is not the view's first
pub returns-else-eq : goal.returns-else-eq
returns-else-eq c = order-else c.args.past.now c.args.delivery.now c.creator-creator.result c.eq.result c.is_message.result c.creator-creator.ensures c.eq.ensures c.if-eq.false (cc (c.beside-of_creator.ensures.delivered, c.requires.member.delivered))
