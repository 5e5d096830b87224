use Rattle.std.proofs.Common.{map, get_or, sym, ap, ◌∙◌}
use Rattle.std.proofs.lemmas.List.Sums.{fold_more}
use Rattle.udp_member.specs.declared.peers.Peer.{Peer}
use Rattle.std.specs.Prelude.{List}
use Rattle.address.specs.Ids.{Address}
use Rattle.udp_member.specs.Peers.{hearing}
use Rattle.udp_member.proofs.peers.Peers.meet.Goals as goal

pub loop-member-preserved : goal.loop-member-preserved
loop-member-preserved c =
    let f = λ (known : List Peer) (p : Address). map (hearing p) known in
    c.hear.ensures ∙ ap (f c.loop-member.self) c.member-item.is ∙ ap (λ (known : List Peer). f known (get_or c.args.members.now c.loop-member.member-index c.member-item.result)) c.loop-member.invariant
    ∙ sym (fold_more f c.args.self.now c.args.members.now c.loop-member.member-index c.member-item.result c.loop-member-test.true)
