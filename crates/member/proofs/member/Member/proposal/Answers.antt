use Rattle.member.proofs.member.Member.proposal.Goals as goal

-- its own flush is of a list that is a view's
pub proposal_of-requires : goal.proposal_of-requires
proposal_of-requires g c = record { list = ((c.self.invariant c.in-Some.member_state c.in-Some.is).member_state.flushing c.in-Some-flush.flush c.in-Some-flush.is).list }
