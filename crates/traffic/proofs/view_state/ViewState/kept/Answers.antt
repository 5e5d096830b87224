use Rattle.traffic.proofs.WindowsReported.{view_state-reported}
use Rattle.traffic.specs.ViewStates.{view_of, view_core_of}
use Rattle.traffic.proofs.view_state.ViewState.kept.Goals as goal

pub returns : goal.returns
returns c = view_state-reported (view_of c.args.self.now) _ (view_core_of c.args.self.now) c.kept.ensures c.window.ensures.stable c.window.ensures.delivered c.window.ensures.held
