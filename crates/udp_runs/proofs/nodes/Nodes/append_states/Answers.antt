use Rattle.std.proofs.Common.{refl, sym, arith}
use Rattle.std.proofs.lemmas.List.{append-nil}
use Rattle.udp_runs.proofs.LinesAndEvents.{on-err}
use Rattle.udp_runs.proofs.CallsAmongOthers.{states-all, states-kept, states-more, states-some}
use Rattle.udp_runs.proofs.nodes.Nodes.append_states.Goals as goal

pub returns-in_err-append_state-clause-err : goal.returns-in_err-append_state-clause-err
returns-in_err-append_state-clause-err g c =
    on-err _ (states-some _ c.args.self.now.node_states.items c.loop-index.self.node_states.items c.loop-index.index _ _ _ c.loop-index.invariant c.in_err-append_state.ensures.err)

pub loop-index-preserved : goal.loop-index-preserved
loop-index-preserved g c =
    states-more _ c.args.self.now.node_states.items c.loop-index.self.node_states.items c.loop-index.index c.index_mut.result.now c.append_state.new.self _ _ _ c.loop-index.invariant
    (λ same. omega (arith, c.loop-index-test.true, c.len-index-end.ensures, same, c.args.self.now.node_states.ok.0)) c.index_mut.ensures.value c.in_ok-append_state.ensures.text c.in_ok-append_state.ensures.same

pub loop-index-init : goal.loop-index-init
loop-index-init g c = (sym (append-nil _), refl)

pub returns-clause-text : goal.returns-clause-text
returns-clause-text g c =
    states-all _ c.args.self.now.node_states.items c.loop-index.self.node_states.items c.loop-index.index _ _ c.loop-index.invariant
    (omega (arith, c.loop-index-test.false, c.len-index-end.ensures, c.args.self.now.node_states.ok.0))

pub returns-clause-same : goal.returns-clause-same
returns-clause-same g c = c.loop-index.invariant.1

pub returns-in_err-append_state-clause-same : goal.returns-in_err-append_state-clause-same
returns-in_err-append_state-clause-same g c =
    states-kept _ c.args.self.now.node_states.items c.loop-index.self.node_states.items c.loop-index.index c.index_mut.result.now c.append_state.new.self _ _ c.loop-index.invariant
    (λ same. omega (arith, c.loop-index-test.true, c.len-index-end.ensures, same, c.args.self.now.node_states.ok.0)) c.index_mut.ensures.value c.append_state.ensures.same
