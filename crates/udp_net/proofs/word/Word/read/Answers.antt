use Rattle.std.proofs.Common.{◌≡◌, ℕ, true, List, subst, ◌∙◌}
use Rattle.wire_values.specs.Names.{is_group_name}
use Rattle.udp_net.proofs.WordLaws.{spelled_is_read}
use Rattle.udp_net.proofs.word.Word.read.Goals as goal

-- each word is read from its spelling
pub returns-clause-spelled : goal.returns-clause-spelled
returns-clause-spelled c =
    let named = subst (λ (name : List ℕ). is_group_name name ≡ true) c.as_slice-name.ensures.bytes c.as_slice-name.ensures.name in
    λ w is e. c.word_of.ensures ∙ spelled_is_read c.args.group.now w c.args.datagram.now named is e
