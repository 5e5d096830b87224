use Rattle.std.proofs.Common.{Some, sym, ap, ◌∙◌}
use Rattle.std.specs.Option.{option_copied, option_map}
use Rattle.std.specs.Ordering.{nat_cmp}
use Rattle.std.specs.BTreeMap.{get}
use Rattle.trace_props.specs.State.{state_of}
use Rattle.world_model.specs.Histories.{running}
use Rattle.world.specs.Worlds.{WorldValue}
use Rattle.world.specs.NodeStates.{node_state_at, node_states_in}
use Rattle.world.proofs.KeepOfWorlds.{reached-keeps}
use Rattle.world.proofs.WorldsAfterEvents.{receiver-is, nobody-yet, nobody-runs}
use Rattle.world.proofs.World.receiver.Goals as goal

-- the node is not kept
pub returns-in_err-member : goal.returns-in_err-member
returns-in_err-member g c =
    ap option_copied c.from_residual.ensures
    ∙ ap (option_map (λ p. state_of g.R.Receiver.meaning p c.self.inside.trace.events))
    (nobody-yet g.R.Receiver.meaning (node_states_in (get nat_cmp c.self.inside.node_states)) _ c.args.node (reached-keeps g.R.Receiver.meaning
    (record { opens = g.met.R.Receiver.opens; applies = g.met.R.Receiver.applies; decodes = g.met.R.Receiver.decodes; reads_back = g.met.R.Receiver.reads_back }) _ c.self.invariant)
    (ap node_state_at (sym c.get.ensures.value ∙ ap option_copied c.in_err-member.was)))
    ∙ ap (λ (w : WorldValue _). option_map (λ p. state_of g.R.Receiver.meaning p w.history.trace) (running c.args.node w.history.trace)) c.self.view_is

-- a member runs there
pub returns-in-Running : goal.returns-in-Running
returns-in-Running g c =
    c.receiver.ensures
    ∙ receiver-is g.R.Receiver.meaning (record { opens = g.met.R.Receiver.opens; applies = g.met.R.Receiver.applies; decodes = g.met.R.Receiver.decodes; reads_back = g.met.R.Receiver.reads_back }) (node_states_in (get nat_cmp c.self.inside.node_states)) _ c.args.node c.in-Running.member
    (reached-keeps g.R.Receiver.meaning
    (record { opens = g.met.R.Receiver.opens; applies = g.met.R.Receiver.applies; decodes = g.met.R.Receiver.decodes; reads_back = g.met.R.Receiver.reads_back }) _ c.self.invariant) (ap node_state_at (sym c.get.ensures.value ∙ ap option_copied c.in_ok-member.was ∙ ap Some c.in-Running.is))
    ∙ ap (λ (w : WorldValue _). option_map (λ p. state_of g.R.Receiver.meaning p w.history.trace) (running c.args.node w.history.trace)) c.self.view_is

-- none runs there yet, or any more
pub returns-in-Vacant : goal.returns-in-Vacant
returns-in-Vacant g c =
    ap (option_map (λ p. state_of g.R.Receiver.meaning p c.self.inside.trace.events))
    (nobody-runs g.R.Receiver.meaning (node_states_in (get nat_cmp c.self.inside.node_states)) _ c.args.node c.in_ok-member.field-0.now
    (reached-keeps g.R.Receiver.meaning
    (record { opens = g.met.R.Receiver.opens; applies = g.met.R.Receiver.applies; decodes = g.met.R.Receiver.decodes; reads_back = g.met.R.Receiver.reads_back }) _ c.self.invariant) (ap node_state_at (sym c.get.ensures.value ∙ ap option_copied c.in_ok-member.was)) c.in-Vacant.is)
    ∙ ap (λ (w : WorldValue _). option_map (λ p. state_of g.R.Receiver.meaning p w.history.trace) (running c.args.node w.history.trace)) c.self.view_is
