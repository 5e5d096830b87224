use Rattle.std.proofs.Common.{◌≡◌, ◌≤◌, ◌+◌, ◌++◌, map, length, vec_len, vec_capacity}
use Rattle.std.specs.Vec.Iter.{into_iter_items}
use Rattle.world.specs.NodeStates.{bytes_of}
use Rattle.world.specs.Outputs.{AreAddressed}
use Rattle.world.proofs.PoolDestinations.{AreKept}
use Rattle.world.proofs.pool.Pool.put_all.Given as goal

-- the packets so far are put out, and there is room for the others
abbrev pub invariant-loop-packet : goal.invariant-loop-packet
invariant-loop-packet l = record {
  can : (goal.iterator-loop-packet).can_next l.packet-iterator;
  ends : (goal.iterator-loop-packet).is_finite l.packet-iterator;
  put : l.self-inside.packets.items ++ map bytes_of (into_iter_items l.packet-iterator) ≡ l.initial.self-inside.packets.items ++ map bytes_of (into_iter_items l.initial.packet-iterator);
  room : vec_len l.self-inside.packets + length (into_iter_items l.packet-iterator) ≤ vec_capacity l.self-inside.packets;
  places : vec_len l.self-inside.destinations + length (into_iter_items l.packet-iterator) ≤ vec_capacity l.self-inside.destinations;
  addressed : AreAddressed (into_iter_items l.packet-iterator);
  kept : AreKept l.self-inside.packets.items l.self-inside.destinations.items;
}
