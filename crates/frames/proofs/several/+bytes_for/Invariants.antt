use Rattle.frames.proofs.several.+bytes_for.Given as goal

abbrev pub decreases-bytes_for : goal.decreases-bytes_for
decreases-bytes_for l = l.count
