use Rattle.udp_net.proofs.ways.Ways.judge_packet.Goals as goal

pub returns-then-not-is_on_a_lane-clause-ordinary : goal.returns-then-not-is_on_a_lane-clause-ordinary
returns-then-not-is_on_a_lane-clause-ordinary c = λ _ any.
    absurd (let is_from = c.if-not-is_on_a_lane.ensures.same (rw (c.node.ensures, c.as_slice.ensures.value) any) in cc)
