use Rattle.std.proofs.Common.{append_assoc}
use Rattle.udp_net.proofs.word.put_place.Goals as goal

pub returns-clause-items : goal.returns-clause-items
returns-clause-items c = rw (c.in-Some.is, ← c.counter.ensures.value, ← c.creator.ensures, ← c.place_flag.ensures, c.put_history.ensures.items, c.put_u8-3.ensures.items, c.put_address.ensures.items, c.put_u64.ensures.items, c.put_u8-2.ensures.items) (simp append_assoc)
