use Rattle.udp_runs.proofs.CallsAmongOthers.{closes-more}
use Rattle.std.proofs.Common.{arith}
use Rattle.udp_runs.proofs.nodes.Nodes.close.Goals as goal

pub loop-index-preserved : goal.loop-index-preserved
loop-index-preserved g c =
    closes-more c.args.self.now.node_states.items c.loop-index.self.node_states.items c.loop-index.index c.index_mut.result.now c.close.new.self _ _ _ c.loop-index.invariant
    (omega (arith, c.loop-index-test.true, c.len-index-end.ensures, c.loop-index.invariant.1, c.args.self.now.node_states.ok.0)) c.index_mut.ensures.value c.close.ensures.gone
