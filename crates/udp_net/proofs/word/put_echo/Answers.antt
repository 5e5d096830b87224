use Rattle.std.proofs.Common.{append_assoc}
use Rattle.udp_net.proofs.word.put_echo.Goals as goal

pub returns-clause-items : goal.returns-clause-items
returns-clause-items c = rw (c.in-Some.is, c.put_u64.ensures.items, c.put_address.ensures.items, c.put_u8-2.ensures.items) (simp append_assoc)
