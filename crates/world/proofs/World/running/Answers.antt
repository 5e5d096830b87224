use Rattle.std.proofs.Common.{Some, sym, ap, ◌∙◌}
use Rattle.std.specs.Option.{option_copied}
use Rattle.std.specs.Ordering.{nat_cmp}
use Rattle.std.specs.BTreeMap.{get}
use Rattle.world_model.specs.Histories.{running}
use Rattle.world.specs.Worlds.{WorldValue}
use Rattle.world.specs.NodeStates.{node_state_at, node_states_in}
use Rattle.world.proofs.KeepOfWorlds.{reached-keeps}
use Rattle.world.proofs.WorldsAfterEvents.{running-is, nobody-yet, nobody-runs}
use Rattle.world.proofs.World.running.Goals as goal

-- the node is not kept
pub returns-in_err-member : goal.returns-in_err-member
returns-in_err-member g c =
    c.from_residual.ensures
    ∙ nobody-yet g.R.Receiver.meaning (node_states_in (get nat_cmp c.self.inside.node_states)) _ c.args.node (reached-keeps g.R.Receiver.meaning
    (record { opens = g.met.R.Receiver.opens; applies = g.met.R.Receiver.applies; decodes = g.met.R.Receiver.decodes; reads_back = g.met.R.Receiver.reads_back }) _ c.self.invariant)
    (ap node_state_at (sym c.get.ensures.value ∙ ap option_copied c.in_err-member.was))
    ∙ ap (λ (w : WorldValue _). running c.args.node w.history.trace) c.self.view_is

-- a member runs there
pub returns-in-Running : goal.returns-in-Running
returns-in-Running g c =
    ap Some c.address.ensures
    ∙ running-is g.R.Receiver.meaning (record { opens = g.met.R.Receiver.opens; applies = g.met.R.Receiver.applies; decodes = g.met.R.Receiver.decodes; reads_back = g.met.R.Receiver.reads_back }) (node_states_in (get nat_cmp c.self.inside.node_states)) _ c.args.node c.in-Running.member
    (reached-keeps g.R.Receiver.meaning
    (record { opens = g.met.R.Receiver.opens; applies = g.met.R.Receiver.applies; decodes = g.met.R.Receiver.decodes; reads_back = g.met.R.Receiver.reads_back }) _ c.self.invariant) (ap node_state_at (sym c.get.ensures.value ∙ ap option_copied c.in_ok-member.was ∙ ap Some c.in-Running.is))
    ∙ ap (λ (w : WorldValue _). running c.args.node w.history.trace) c.self.view_is

-- none runs there yet, or any more
pub returns-in-Vacant : goal.returns-in-Vacant
returns-in-Vacant g c =
    nobody-runs g.R.Receiver.meaning (node_states_in (get nat_cmp c.self.inside.node_states)) _ c.args.node c.in_ok-member.field-0.now
    (reached-keeps g.R.Receiver.meaning
    (record { opens = g.met.R.Receiver.opens; applies = g.met.R.Receiver.applies; decodes = g.met.R.Receiver.decodes; reads_back = g.met.R.Receiver.reads_back }) _ c.self.invariant) (ap node_state_at (sym c.get.ensures.value ∙ ap option_copied c.in_ok-member.was)) c.in-Vacant.is
    ∙ ap (λ (w : WorldValue _). running c.args.node w.history.trace) c.self.view_is
