use Rattle.std.proofs.Common.{refl}
use Rattle.std.proofs.lemmas.Bool.{le-leb}
use Rattle.udp_net.proofs.TablesOfKeys.{items-are}
use Rattle.udp_net.proofs.document.may_be_nodes.Goals as goal

pub returns-then-values-ge1 : goal.returns-then-values-ge1
returns-then-values-ge1 c = rw (items-are c.args.values.now, le-leb 1 _ c.if-values-ge1.true) refl
