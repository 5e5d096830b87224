use Rattle.std.proofs.Common.{append_assoc}
use Rattle.udp_net.proofs.word.put_said.Goals as goal

pub returns-clause-items : goal.returns-clause-items
returns-clause-items c = rw (c.put_place.ensures.items, c.put_echo.ensures.items, c.put_u64.ensures.items, c.put_address.ensures.items) (simp append_assoc)
