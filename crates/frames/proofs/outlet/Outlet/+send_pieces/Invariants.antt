use Rattle.std.proofs.Common.{◌-◌}
use Rattle.frames.proofs.outlet.Outlet.+send_pieces.Given as goal

abbrev pub decreases-send_pieces : goal.decreases-send_pieces
decreases-send_pieces g l = l.count - l.index
