use Rattle.membership.proofs.held_chunks.HeldChunks.+join.Given as goal

abbrev pub decreases-join : goal.decreases-join
decreases-join l = l.count
