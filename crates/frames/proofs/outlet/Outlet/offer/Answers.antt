use Rattle.frames.proofs.Logs.{grows-listing}
use Rattle.frames.proofs.outlet.Outlet.offer.Goals as goal

pub returns-clause-grows : goal.returns-clause-grows
returns-clause-grows g c = grows-listing (g.N.Net.log c.args.net.now) (g.N.Net.log c.send.new.self) _ c.send.ensures.lists
