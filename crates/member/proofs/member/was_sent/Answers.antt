use Rattle.std.proofs.Common.{sym, rules, ◌∙◌}
use Rattle.membership.specs.MemberStates.{is_sent_to}
use Rattle.membership.proofs.Pieces.{any_found}
use Rattle.member.proofs.member.was_sent.Goals as goal

pub returns : goal.returns
returns c = (search rules) ∙ sym (any_found (is_sent_to c.args.member.now) c.args.sent.now)
