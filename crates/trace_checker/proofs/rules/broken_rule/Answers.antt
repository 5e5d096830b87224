use Rattle.std.proofs.Common.{rules}
use Rattle.trace_checker.proofs.rules.broken_rule.Goals as goal

pub returns-then-not-keeps_placed : goal.returns-then-not-keeps_placed
returns-then-not-keeps_placed c = let h = c.if-not-keeps_placed.ensures in search rules

pub returns-then-not-keeps_views : goal.returns-then-not-keeps_views
returns-then-not-keeps_views c = let h' = c.if-not-keeps_placed.ensures in let h'' = c.if-not-keeps_views.ensures in search rules

pub returns-then-not-are_sound : goal.returns-then-not-are_sound
returns-then-not-are_sound c = let h' = c.if-not-keeps_placed.ensures in let h'' = c.if-not-keeps_views.ensures in let h'3 = c.keeps_messages-are_sound.ensures.messages in search rules

pub returns-then-not-are_ordered : goal.returns-then-not-are_ordered
returns-then-not-are_ordered c =
    let h' = c.if-not-keeps_views.ensures in let h'' = c.keeps_messages-are_sound.ensures.messages in let h'3 = c.keeps_messages-are_sound.ensures.order in search rules

pub returns-then-not-keeps_next : goal.returns-then-not-keeps_next
returns-then-not-keeps_next c = let h' = c.keeps_messages-are_sound.ensures.messages in let h'' = c.keeps_messages-are_sound.ensures.order in let h'3 = c.if-not-keeps_next.ensures in search rules

pub returns-then-not-keeps_together : goal.returns-then-not-keeps_together
returns-then-not-keeps_together c = let h' = c.keeps_messages-are_sound.ensures.order in let h'' = c.if-not-keeps_next.ensures in let h'3 = c.if-not-keeps_together.ensures in search rules

pub returns-then-not-keeps_handed_back : goal.returns-then-not-keeps_handed_back
returns-then-not-keeps_handed_back c = let h' = c.if-not-keeps_next.ensures in let h'' = c.if-not-keeps_together.ensures in let h'3 = c.if-not-keeps_handed_back.ensures in search rules

pub returns : goal.returns
returns c = search rules
