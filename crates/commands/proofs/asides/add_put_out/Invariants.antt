use Rattle.std.proofs.Common.{◌≡◌, ◌++◌, drop}
use Rattle.commands.specs.Asides.{put_out_behind}
use Rattle.commands.proofs.asides.add_put_out.Given as goal

-- those so far and the rest are all
abbrev pub invariant-loop-index : goal.invariant-loop-index
invariant-loop-index l = l.asides.items ++ put_out_behind l.place l.node l.index (drop l.index l.packets) ≡ l.initial.asides.items ++ put_out_behind l.place l.node l.past (drop l.past l.packets)
