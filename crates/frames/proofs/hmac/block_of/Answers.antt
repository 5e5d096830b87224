use Rattle.frames.proofs.Blocks.{short-block}
use Rattle.frames.proofs.hmac.block_of.Goals as goal

pub returns-then-key-le-BLOCK : goal.returns-then-key-le-BLOCK
returns-then-key-le-BLOCK c = short-block _ _ c.if-key-le-BLOCK.true c.put_front.ensures
