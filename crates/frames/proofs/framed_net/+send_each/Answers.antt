use Rattle.frames.specs.Sendings.{IsFrameOf}
use Rattle.frames.proofs.Logs.{grows-listing, grows-on}
use Rattle.frames.proofs.SendsCarried.{adds-on, adds-one}
use Rattle.frames.proofs.framed_net.+send_each.Goals as goal

pub returns-clause-grows : goal.returns-clause-grows
returns-clause-grows g t c =
    grows-on (g.N.Net.log c.args.net.now) (g.N.Net.log c.send.new.self) (g.N.Net.log c.send_each.new.net)
    (grows-listing (g.N.Net.log c.args.net.now) (g.N.Net.log c.send.new.self) _ c.send.ensures.lists) c.send_each.ensures.grows

pub returns-clause-adds : goal.returns-clause-adds
returns-clause-adds g t c = λ s long sent carries.
    adds-on (IsFrameOf s long sent) (g.N.Net.log c.args.net.now) (g.N.Net.log c.send.new.self) (g.N.Net.log c.send_each.new.net)
    (adds-one (IsFrameOf s long sent) (g.N.Net.log c.args.net.now) (g.N.Net.log c.send.new.self) _ c.send.ensures.lists carries) (c.send_each.ensures.adds s long sent carries)
