use Rattle.std.proofs.Common.{map, ap, ◌∙◌}
use Rattle.udp_net.specs.Bursts.{opened}
use Rattle.udp_net.specs.Hosts.{host_of}
use Rattle.udp_net.specs.declared.node_ports.NodePort.{NodePort}
use Rattle.udp_net.proofs.PushedForEach.{pushed, all-pushed}
use Rattle.udp_net.proofs.ways.Ways.new.Goals as goal

pub loop-node-preserved : goal.loop-node-preserved
loop-node-preserved c =
    pushed (λ (n : NodePort). opened n (host_of n.node c.args.hosts.now.peers)) c.nodes-nodes.result.now c.loop-node.node-index c.node-item.result c.loop-node-test.true c.node-item.is c.loop-node.invariant
    (c.in_ok-new.ensures ∙ ap (opened c.node-item.result) c.host_of.ensures) c.in_ok-push.ensures.items

pub returns : goal.returns
returns c =
    let f = λ (n : NodePort). opened n (host_of n.node c.args.hosts.now.peers) in
    all-pushed f c.nodes-nodes.result.now c.loop-node.node-index c.loop-node-test.false c.loop-node.invariant ∙ ap (map f) c.nodes-nodes.ensures
