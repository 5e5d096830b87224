use Rattle.std.proofs.Common.{◌≡◌, ℕ, Some, sym, ap, ◌∙◌, subst}
use Rattle.std.specs.Option.{option_copied}
use Rattle.std.specs.Ordering.{nat_cmp}
use Rattle.std.specs.BTreeMap.{get}
use Rattle.std.proofs.lemmas.Option.{same_Some}
use Rattle.world_model.specs.Histories.{running}
use Rattle.world.specs.declared.node_state.NodeState.TheVariants.{Running}
use Rattle.world.specs.Worlds.{WorldValue, shown}
use Rattle.world.specs.NodeStates.{node_state_at, node_states_in}
use Rattle.world.proofs.KeepOfWorlds.{reached-keeps}
use Rattle.world.proofs.WorldsAfterEvents.{running-is}
use Rattle.world.specs.Known.{IsStableAt}
use Rattle.world.proofs.StableEverywhere.{stable-is}
use Rattle.world.proofs.World.stable.Goals as goal

-- a member runs there
pub returns-in-Running-clause-delivered : goal.returns-in-Running-clause-delivered
returns-in-Running-clause-delivered g c = λ count e.
    subst (λ (k : ℕ). IsStableAt c.args.node c.args.self.now.history.trace k) (sym c.stable.ensures ∙ same_Some c.stable.result count e)
    (stable-is g.R.Receiver.meaning (shown c.args.self.now) c.args.node c.in-Running.member c.kept.ensures.known
    (subst (λ (w : WorldValue _). (shown w).node_states c.args.node ≡ Running c.in-Running.member) c.self.view_is
    (ap node_state_at (sym c.get.ensures.value ∙ ap option_copied c.in_ok-member.was ∙ ap Some c.in-Running.is)))
    (sym (running-is g.R.Receiver.meaning (record { opens = g.met.R.Receiver.opens; applies = g.met.R.Receiver.applies; decodes = g.met.R.Receiver.decodes; reads_back = g.met.R.Receiver.reads_back })
    (node_states_in (get nat_cmp c.self.inside.node_states)) _ c.args.node c.in-Running.member
    (reached-keeps g.R.Receiver.meaning
    (record { opens = g.met.R.Receiver.opens; applies = g.met.R.Receiver.applies; decodes = g.met.R.Receiver.decodes; reads_back = g.met.R.Receiver.reads_back }) _ c.self.invariant)
    (ap node_state_at (sym c.get.ensures.value ∙ ap option_copied c.in_ok-member.was ∙ ap Some c.in-Running.is))
    ∙ ap (λ (w : WorldValue _). running c.args.node w.history.trace) c.self.view_is)))
