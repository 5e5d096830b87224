use Rattle.member.proofs.member.Member.anew_past.Goals as goal

pub anew_past-requires : goal.anew_past-requires
anew_past-requires g c = record { member_state = (c.self.invariant c.in-Some.member_state c.in-Some.is).member_state }
