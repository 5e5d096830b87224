use Rattle.std.proofs.Common.{◌≡◌, length, refl, sym, ◌∙◌, subst, arith}
use Rattle.udp_runs.specs.Nodes.{IsFirst}
use Rattle.udp_runs.proofs.NodesListed.{first-none, first-more, some-node}
use Rattle.udp_runs.proofs.nodes.Nodes.index_of.Goals as goal

pub returns-clause-unlisted : goal.returns-clause-unlisted
returns-clause-unlisted g c =
    let all : c.loop-index.index ≡ length c.args.self.now.node_states.items = omega (arith, c.loop-index-test.false, c.loop-index.auto.index-end, c.len-index-end.ensures) in
    first-none c.args.node c.args.self.now.node_states.items (subst (λ n. IsFirst c.args.node n c.args.self.now.node_states.items) all c.loop-index.invariant.0)

pub returns-then-eq-clause-within : goal.returns-then-eq-clause-within
returns-then-eq-clause-within g c = omega (arith, c.loop-index-test.true, c.len-index-end.ensures)

pub returns-then-eq-clause-node : goal.returns-then-eq-clause-node
returns-then-eq-clause-node g c = some-node c.args.node c.args.self.now.node_states.items c.loop-index.index c.index.result.now (omega (arith, c.loop-index-test.true, c.len-index-end.ensures)) c.index.ensures (sym c.eq.ensures ∙ c.if-eq.true)

pub returns-then-eq-clause-first : goal.returns-then-eq-clause-first
returns-then-eq-clause-first g c = c.loop-index.invariant.0

pub loop-index-init : goal.loop-index-init
loop-index-init g c = (λ j y before at same. absurd (omega (arith, before)), refl, refl)

pub loop-index-preserved : goal.loop-index-preserved
loop-index-preserved g c = (
  first-more c.args.node c.args.self.now.node_states.items c.loop-index.index c.index.result.now c.loop-index.invariant.0 (omega (arith, c.loop-index-test.true, c.len-index-end.ensures)) c.index.ensures (sym c.eq.ensures ∙ c.if-eq.false),
  refl,
  refl,
)
