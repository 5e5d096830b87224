use Rattle.std.proofs.Common.{sym, ◌∙◌}
use Rattle.std.proofs.lemmas.Result.{MatchResult-weaker}
use Rattle.member.proofs.StepsPromise.{stays-connected}
use Rattle.member.proofs.DatagramsStep.{handed, take-did, take-ignored}
use Rattle.member_rules.proofs.MembersAreOpen.{nothing-did}
use Rattle.member.proofs.hearing.take_packet.Goals as goal

pub returns-then-is_handed-clause-did : goal.returns-then-is_handed-clause-did
returns-then-is_handed-clause-did g c =
    MatchResult-weaker c.hear.result c.hear.ensures.hears (λ _ is. take-did g.R.Receiver.meaning c.args.who.now.address c.args.who.now.group c.args.packet.now.source c.args.packet.now.body _ (handed g.R.Receiver.meaning c.args.who.now.address c.args.who.now.group c.args.member_state.now c.args.packet.now (sym c.is_handed.ensures ∙ c.if-is_handed.true)).0 c.args.member_state.now c.hear.new.member_state c.args.out.now c.hear.new.out is.did) (λ _ _. tt)

pub returns-then-is_handed-clause-connected : goal.returns-then-is_handed-clause-connected
returns-then-is_handed-clause-connected g c =
    MatchResult-weaker c.hear.result c.hear.ensures.hears (λ _ is. stays-connected g.R.Receiver.meaning c.args.who.now.address c.args.who.now.group _ c.args.member_state.now c.hear.new.member_state c.args.out.now c.hear.new.out (handed g.R.Receiver.meaning c.args.who.now.address c.args.who.now.group c.args.member_state.now c.args.packet.now (sym c.is_handed.ensures ∙ c.if-is_handed.true)).1 is.did) (λ _ _. tt)

pub returns-then-is_handed-clause-ignored : goal.returns-then-is_handed-clause-ignored
returns-then-is_handed-clause-ignored g c =
    λ i. c.hear.ensures.ignored (take-ignored g.R.Receiver.meaning c.args.who.now.address c.args.who.now.group c.args.packet.now.source c.args.packet.now.body _ (handed g.R.Receiver.meaning c.args.who.now.address c.args.who.now.group c.args.member_state.now c.args.packet.now (sym c.is_handed.ensures ∙ c.if-is_handed.true)).0 c.args.member_state.now c.hear.new.member_state c.args.out.now c.hear.new.out i)

pub returns-else-is_handed-clause-did : goal.returns-else-is_handed-clause-did
returns-else-is_handed-clause-did g c = nothing-did g.R.Receiver.meaning _ _ _ _ _
