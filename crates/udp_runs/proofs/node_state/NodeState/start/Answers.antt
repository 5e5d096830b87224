use Rattle.std.proofs.Common.{refl}
use Rattle.udp_runs.proofs.CallsAmongOthers.{starts, starts-unsaid, starts-not}
use Rattle.udp_runs.proofs.node_state.NodeState.start.Goals as goal

pub returns-in_err-append_event : goal.returns-in_err-append_event
returns-in_err-append_event g c group line given states k here next first lists gone lines nets x =
    starts-unsaid _ _ _ group _ _ line c.args.self.now _ c.args.address given _ _ states k here next first gone lines nets x c.from_residual.result c.from_residual.ensures.0 c.in_err-append_event.ensures.err

pub returns-in-Ok : goal.returns-in-Ok
returns-in-Ok g c group line given states k here next first lists gone lines nets x =
    starts _ _ _ group (Unit {0}) (Unit {0}) line c.args.self.now _ c.args.address given _ _ states k here next first gone lines nets x tt c.in-Ok.runner c.args.net refl c.in-Ok.ensures.channel
    c.in-Ok.ensures.net lists c.in_ok-append_event.ensures.text

pub returns-in-Err : goal.returns-in-Err
returns-in-Err g c group line given states k here next first lists gone lines nets x =
    starts-not _ _ _ group _ _ line c.args.self.now _ c.args.address given _ _ states k here next first gone lines nets x c.append_event.new.out.items c.append_event-in-Err.result refl
    c.in_ok-append_event.ensures.text c.append_event-in-Err.ensures.text c.append_event-in-Err.ensures.err
