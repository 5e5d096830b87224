use Rattle.membership.proofs.giving.+put_chunks.Given as goal

abbrev pub decreases-put_chunks : goal.decreases-put_chunks
decreases-put_chunks l = l.count
