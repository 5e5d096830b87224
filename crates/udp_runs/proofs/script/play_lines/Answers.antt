use Rattle.std.proofs.Common.{take, subst, sym}
use Rattle.std.proofs.lemmas.List.{take_all}
use Rattle.udp_runs.specs.Carrying.{CarriesOut}
use Rattle.udp_runs.proofs.PlacesSet.{at-place, take-more}
use Rattle.udp_runs.proofs.ScriptsPlay.{SoFar, so-none, so-more, lines-stop, lines-end, states-stop}
use Rattle.udp_runs.proofs.script.play_lines.Goals as goal

pub loop-line-init : goal.loop-line-init
loop-line-init g c unused listed empty = so-none _ _ _ g.C.Application.line_of c.args.settings.now.group c.args.settings.now.nodes c.runners_are_synchronous.ensures.starts _ unused listed _ _ _ empty

pub loop-line-preserved : goal.loop-line-preserved
loop-line-preserved g c unused listed empty =
    let s = c.loop-line.invariant unused listed empty in
    let here = at-place c.args.lines.now c.loop-line.line-index _ c.loop-line-test.true c.line-item.is in
    subst (λ l. SoFar g.N.Net.log g.N.Net.failed g.C.Receiver.meaning g.C.Application.line_of c.args.settings.now.group c.args.settings.now.nodes l
    (g.M.NodeMachine.gone c.args.machine.now) (g.M.NodeMachine.gone c.play_line.new.machine) (g.W.Write.contents c.args.writer.now) (g.W.Write.contents c.play_line.new.writer)
    c.play_line.new.nodes.node_states.items c.play_line.new.text.items) (sym (take-more c.args.lines.now c.loop-line.line-index _ here))
    (so-more _ _ _ g.C.Application.line_of c.args.settings.now.group c.args.settings.now.nodes (take c.loop-line.line-index c.args.lines.now) _ (g.M.NodeMachine.gone c.args.machine.now) (g.M.NodeMachine.gone c.loop-line.machine) (g.M.NodeMachine.gone c.play_line.new.machine)
    _ _ _ c.loop-line.nodes.node_states.items c.play_line.new.nodes.node_states.items c.loop-line.text.items c.play_line.new.text.items s (c.in_default.ensures.goes s.0 s.1 s.2 s.3 s.6))

pub returns-in-Err : goal.returns-in-Err
returns-in-Err g c unused listed empty =
    let s = c.loop-line.invariant unused listed empty in
    lines-stop _ _ _ g.C.Application.line_of c.args.settings.now.group c.args.settings.now.nodes c.args.lines.now (g.M.NodeMachine.gone c.args.machine.now) (g.M.NodeMachine.gone c.loop-line.machine)
    (g.M.NodeMachine.gone c.close.new.machine) (g.W.Write.contents c.args.writer.now) (g.W.Write.contents c.loop-line.writer) (g.W.Write.contents c.play_line.new.writer)
    c.loop-line.nodes.node_states.items s.0 s.1 s.2 s.3 s.4 c.runners_are_synchronous.ensures.seen c.loop-line.line-index _ c.play_line.new.nodes.node_states.items c.play_line.new.text.items
    c.in-Err.stop (g.M.NodeMachine.gone c.play_line.new.machine) (at-place c.args.lines.now c.loop-line.line-index _ c.loop-line-test.true c.line-item.is) s.7
    (c.in-Err.ensures.goes s.0 s.1 s.2 s.3 s.6) c.in-Err.ensures.stops s.5 c.close.ensures

pub returns-in-Ok : goal.returns-in-Ok
returns-in-Ok g c unused listed empty =
    let s = c.loop-line.invariant unused listed empty in
    lines-end _ _ _ g.C.Application.line_of c.args.settings.now.group c.args.settings.now.nodes c.args.lines.now (g.M.NodeMachine.gone c.args.machine.now) (g.M.NodeMachine.gone c.loop-line.machine)
    (g.M.NodeMachine.gone c.close-2.new.machine) (g.W.Write.contents c.args.writer.now) (g.W.Write.contents c.loop-line.writer) (g.W.Write.contents c.write_states-written.new.writer)
    c.loop-line.nodes.node_states.items s.0 s.1 s.2 s.3 s.4 c.runners_are_synchronous.ensures.seen
    (subst (λ l. CarriesOut g.N.Net.log g.N.Net.failed g.C.Receiver.meaning c.args.settings.now.group c.args.settings.now.nodes l c.loop-line.nodes.node_states.items s.1 s.2)
    (take_all c.loop-line.line-index c.args.lines.now c.loop-line-test.false) s.7)
    s.5 (rw c.write_states-written.ensures.same at c.close-2.ensures) (c.in-Ok.ensures.writes s.6)

pub returns-in-Err-written : goal.returns-in-Err-written
returns-in-Err-written g c unused listed empty =
    let s = c.loop-line.invariant unused listed empty in
    states-stop _ _ _ g.C.Application.line_of c.args.settings.now.group c.args.settings.now.nodes c.args.lines.now (g.M.NodeMachine.gone c.args.machine.now) (g.M.NodeMachine.gone c.loop-line.machine)
    (g.M.NodeMachine.gone c.close-2.new.machine) (g.W.Write.contents c.args.writer.now) (g.W.Write.contents c.loop-line.writer) (g.W.Write.contents c.write_states-written.new.writer)
    c.loop-line.nodes.node_states.items s.0 s.1 s.2 s.3 s.4 c.runners_are_synchronous.ensures.seen
    (subst (λ l. CarriesOut g.N.Net.log g.N.Net.failed g.C.Receiver.meaning c.args.settings.now.group c.args.settings.now.nodes l c.loop-line.nodes.node_states.items s.1 s.2)
    (take_all c.loop-line.line-index c.args.lines.now c.loop-line-test.false) s.7)
    c.in-Err-written.why (c.in-Err-written.ensures.writes s.6)
