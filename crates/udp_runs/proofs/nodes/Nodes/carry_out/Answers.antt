use Rattle.std.proofs.Common.{refl, ap, ◌∙◌}
use Rattle.vsync_text.specs.declared.udp_script.UdpEvent.TheVariants as says
use Rattle.world_model.specs.declared.WorldEvent.TheVariants as event
use Rattle.udp_runs.specs.Carrying.{DoesLine, Goes, Passes, line_of_event}
use Rattle.udp_runs.proofs.CallsAmongOthers.{as-line, goes-as, goes-as-line, goes-like, goes-none, okay}
use Rattle.udp_runs.proofs.nodes.Nodes.carry_out.Goals as goal

pub returns-in-Start-clause-goes : goal.returns-in-Start-clause-goes
returns-in-Start-clause-goes g c =
    goes-as-line _ _ _ c.args.settings.now.group _ _ (line_of_event c.args.line.now.number (event.Start c.in-Start.node)) c.args.line.now
    (as-line c.args.line.now (says.Node (event.Start c.in-Start.node)) (c.in-Node.is ∙ ap says.Node c.in-Start.ensures))
    c.args.self.now.node_states.items c.start.new.self.node_states.items (g.M.NodeMachine.gone c.args.machine.now) (g.M.NodeMachine.gone c.start.new.machine) c.args.text.now.items c.start.new.text.items c.start.result c.start.ensures.goes

pub returns-in_err-rounds-in-Rounds-clause-goes : goal.returns-in_err-rounds-in-Rounds-clause-goes
returns-in_err-rounds-in-Rounds-clause-goes g c =
    goes-as _ _ _ c.args.settings.now.group _ _ (Unit {0}) _ (λ l n. Unit {0}) _ c.args.self.now.node_states.items c.rounds.new.self.node_states.items (g.M.NodeMachine.gone c.args.machine.now) (g.M.NodeMachine.gone c.rounds.new.machine) c.args.text.now.items c.rounds.new.text.items
    c.in_err-rounds-in-Rounds.field-0.0 c.from_residual.result c.from_residual.ensures.0 (c.in_err-rounds-in-Rounds.ensures c.args.settings.now.group)

pub returns-in_err-crash-in-Crash-clause-goes : goal.returns-in_err-crash-in-Crash-clause-goes
returns-in_err-crash-in-Crash-clause-goes g c =
    goes-as _ _ _ c.args.settings.now.group _ _ (Unit {0}) _ (λ l n. Unit {0}) _ c.args.self.now.node_states.items c.crash.new.self.node_states.items (g.M.NodeMachine.gone c.args.machine.now) (g.M.NodeMachine.gone c.crash.new.machine) c.args.text.now.items c.crash.new.text.items
    c.in_err-crash-in-Crash.field-0.0 c.from_residual-in_err-crash-in-Crash.result c.from_residual-in_err-crash-in-Crash.ensures.0 (c.in_err-crash-in-Crash.ensures c.args.settings.now.group)

pub returns-in_err-call-in-Call-clause-goes : goal.returns-in_err-call-in-Call-clause-goes
returns-in_err-call-in-Call-clause-goes g c =
    goes-as _ _ _ c.args.settings.now.group _ _ (Unit {0}) _ (λ l n. Unit {0}) _ c.args.self.now.node_states.items c.call.new.self.node_states.items (g.M.NodeMachine.gone c.args.machine.now) (g.M.NodeMachine.gone c.call.new.machine) c.args.text.now.items c.call.new.text.items
    c.in_err-call-in-Call.field-0.0 c.from_residual-in_err-call-in-Call.result c.from_residual-in_err-call-in-Call.ensures.0 (c.in_err-call-in-Call.ensures c.in-Node.event c.in-Call.ensures)

pub returns-in_ok-rounds-in-Rounds-clause-goes : goal.returns-in_ok-rounds-in-Rounds-clause-goes
returns-in_ok-rounds-in-Rounds-clause-goes g c =
    goes-as-line _ _ _ c.args.settings.now.group (Unit {0}) (Unit {0}) (record { number = c.args.line.now.number; event = says.Rounds c.in-Rounds.count }) c.args.line.now
    (as-line c.args.line.now (says.Rounds c.in-Rounds.count) c.in-Rounds.is)
    c.args.self.now.node_states.items c.rounds.new.self.node_states.items (g.M.NodeMachine.gone c.args.machine.now) (g.M.NodeMachine.gone c.rounds.new.machine) c.args.text.now.items c.rounds.new.text.items (okay (Unit {0}) (Unit {0}) tt)
    (goes-like _ _ _ c.args.settings.now.group (Unit {0}) (Unit {0}) _ _ c.args.self.now.node_states.items c.rounds.new.self.node_states.items (g.M.NodeMachine.gone c.args.machine.now) (g.M.NodeMachine.gone c.rounds.new.machine) c.args.text.now.items c.rounds.new.text.items (okay (Unit {0}) (Unit {0}) tt)
    (λ l n d. Goes c.args.line.now.number c.in-Rounds.count c.rounds.new.self.node_states.items l n d) (c.in_ok-rounds-in-Rounds.ensures c.args.settings.now.group))

pub returns-in_ok-crash-in-Crash-clause-goes : goal.returns-in_ok-crash-in-Crash-clause-goes
returns-in_ok-crash-in-Crash-clause-goes g c =
    goes-as-line _ _ _ c.args.settings.now.group (Unit {0}) (Unit {0}) (line_of_event c.args.line.now.number (event.Crash c.in-Crash.node)) c.args.line.now
    (as-line c.args.line.now (says.Node (event.Crash c.in-Crash.node)) (c.in-Node.is ∙ ap says.Node c.in-Crash.ensures))
    c.args.self.now.node_states.items c.crash.new.self.node_states.items (g.M.NodeMachine.gone c.args.machine.now) (g.M.NodeMachine.gone c.crash.new.machine) c.args.text.now.items c.crash.new.text.items (okay (Unit {0}) (Unit {0}) tt) (c.in_ok-crash-in-Crash.ensures c.args.settings.now.group)

pub returns-in_ok-call-in-Call-clause-goes : goal.returns-in_ok-call-in-Call-clause-goes
returns-in_ok-call-in-Call-clause-goes g c =
    goes-as-line _ _ _ c.args.settings.now.group (Unit {0}) (Unit {0}) (line_of_event c.args.line.now.number c.in-Node.event) c.args.line.now
    (as-line c.args.line.now (says.Node c.in-Node.event) c.in-Node.is)
    c.args.self.now.node_states.items c.call.new.self.node_states.items (g.M.NodeMachine.gone c.args.machine.now) (g.M.NodeMachine.gone c.call.new.machine) c.args.text.now.items c.call.new.text.items (okay (Unit {0}) (Unit {0}) tt) (c.in_ok-call-in-Call.ensures c.in-Node.event c.in-Call.ensures)

pub returns-in-Nothing-clause-goes : goal.returns-in-Nothing-clause-goes
returns-in-Nothing-clause-goes g c =
    goes-as-line _ _ _ c.args.settings.now.group (Unit {0}) (Unit {0}) (line_of_event c.args.line.now.number (event.Deliver c.in-Nothing.ensures.0)) c.args.line.now
    (as-line c.args.line.now (says.Node (event.Deliver c.in-Nothing.ensures.0)) (c.in-Node.is ∙ ap says.Node c.in-Nothing.ensures.1))
    c.args.self.now.node_states.items c.args.self.now.node_states.items (g.M.NodeMachine.gone c.args.machine.now) (g.M.NodeMachine.gone c.args.machine.now) c.args.text.now.items c.args.text.now.items (okay (Unit {0}) (Unit {0}) tt)
    (goes-none _ _ _ c.args.settings.now.group (λ l n. DoesLine g.N.Net.log g.N.Net.failed g.C.Receiver.meaning c.args.settings.now.group c.args.self.now.node_states.items (line_of_event c.args.line.now.number (event.Deliver c.in-Nothing.ensures.0)) c.args.self.now.node_states.items l n)
    c.args.self.now.node_states.items c.args.self.now.node_states.items (g.M.NodeMachine.gone c.args.machine.now) (g.M.NodeMachine.gone c.args.machine.now) c.args.text.now.items c.args.text.now.items refl refl refl
    (Passes c.args.line.now.number c.in-Nothing.ensures.0))
