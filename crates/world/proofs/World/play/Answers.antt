use Rattle.std.proofs.Common.{inr, ap, sym, ◌∙◌}
use Rattle.world.specs.Plays.{lacks_memory}
use Rattle.world.proofs.World.play.Goals as goal

-- a growth was refused to a member in the step
pub returns-then-lacks_memory-clause-err : goal.returns-then-lacks_memory-clause-err
returns-then-lacks_memory-clause-err g c = inr (c.in_ok-answer.ensures.ok.0, ap lacks_memory c.in_ok-answer.ensures.ok.1 ∙ sym c.lacks_memory.ensures ∙ c.if-lacks_memory.true)

-- or none was
pub returns-else-lacks_memory-clause-ok : goal.returns-else-lacks_memory-clause-ok
returns-else-lacks_memory-clause-ok g c =
    record { step = c.in_ok-answer.ensures.ok.0; whole = ap lacks_memory c.in_ok-answer.ensures.ok.1 ∙ sym c.lacks_memory.ensures ∙ c.if-lacks_memory.false }
