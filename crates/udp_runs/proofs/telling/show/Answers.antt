use Rattle.std.proofs.Common.{length, arith}
use Rattle.std.proofs.lemmas.List.{take_all}
use Rattle.vsync_text.proofs.TextsFollow.{appends-kept}
use Rattle.udp_runs.proofs.telling.show.Goals as goal

pub returns-in-Err : goal.returns-in-Err
returns-in-Err g c = rw c.in-Err.ensures.cut c.in-Err.ensures.err

pub returns-then-is_err : goal.returns-then-is_err
returns-then-is_err g c =
    (length c.args.text.now.items, rw (take_all (length c.args.text.now.items) c.args.text.now.items (omega arith)) (appends-kept _ _ _ _ c.in_default.ensures.ok c.flush.ensures.bytes))
