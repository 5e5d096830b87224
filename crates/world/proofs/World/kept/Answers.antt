use Rattle.std.proofs.Common.{ℕ, Some, ◌≡◌, subst}
use Rattle.std.specs.Option.{IsSomeAnd}
use Rattle.trace_props.specs.Places.{EachPlace}
use Rattle.trace_props.specs.Synchrony.{IsVirtuallySynchronous}
use Rattle.address.specs.Ids.{Address}
use Rattle.law_processes.specs.Replicas.{ReplicasAgree}
use Rattle.member.specs.Members.{MemberModel, core_of}
use Rattle.law_processes.specs.Deployments.{IsPlayed}
use Rattle.law_acts.specs.Known.{Knows}
use Rattle.law_processes.proofs.DeploymentsGoOn.{of-played}
use Rattle.world_model.specs.Packets.{world_group}
use Rattle.world_model.specs.Faithful.{IsFaithful}
use Rattle.world.specs.NodeStates.{deployment_of, member_here}
use Rattle.world.specs.declared.node_state.NodeState.TheVariants.{Running}
use Rattle.world.specs.Worlds.{WorldValue, shown}
use Rattle.world.proofs.KeepOfWorlds.{reached-keeps}
use Rattle.world.proofs.MembersAtNodes.{running-here, member-at}
use Rattle.world.proofs.World.kept.Goals as goal

pub returns-clause-faithful : goal.returns-clause-faithful
returns-clause-faithful g c = subst (λ (w : WorldValue _). IsFaithful w.history) c.self.view_is (reached-keeps g.R.Receiver.meaning
    (record { opens = g.met.R.Receiver.opens; applies = g.met.R.Receiver.applies; decodes = g.met.R.Receiver.decodes; reads_back = g.met.R.Receiver.reads_back }) _ c.self.invariant).faithful

pub returns-clause-deployed : goal.returns-clause-deployed
returns-clause-deployed g c =
    subst (λ (w : WorldValue _). IsPlayed g.R.Receiver.meaning world_group (deployment_of (shown w).node_states w.history.pool w.history.trace)) c.self.view_is (reached-keeps g.R.Receiver.meaning
    (record { opens = g.met.R.Receiver.opens; applies = g.met.R.Receiver.applies; decodes = g.met.R.Receiver.decodes; reads_back = g.met.R.Receiver.reads_back }) _ c.self.invariant).played

-- by the law of deployments
pub returns-clause-synchronous : goal.returns-clause-synchronous
returns-clause-synchronous g c =
    of-played g.R.Receiver.meaning world_group (λ d. IsVirtuallySynchronous g.R.Receiver.meaning d.trace) (c.deployments_are_synchronous.ensures.histories world_group) _ (returns-clause-deployed g c)

pub returns-clause-ordered : goal.returns-clause-ordered
returns-clause-ordered g c = λ k. (returns-clause-synchronous g c k).ordered

pub returns-clause-agreeing : goal.returns-clause-agreeing
returns-clause-agreeing g c =
    of-played g.R.Receiver.meaning world_group (λ d. EachPlace (ReplicasAgree g.R.Receiver.meaning) d.trace) (c.deployments_are_synchronous.ensures.agreeing world_group) _ (returns-clause-deployed g c)

pub returns-clause-known : goal.returns-clause-known
returns-clause-known g c n m there =
    of-played g.R.Receiver.meaning world_group (λ d. (p : Address) (k : MemberModel _) → d.members p ≡ Some k → IsSomeAnd (core_of k) (Knows g.R.Receiver.meaning d.trace p))
    (c.deployments_are_synchronous.ensures.known world_group) _ (returns-clause-deployed g c) m.address m
    (subst (λ (w : WorldValue _). (j : ℕ) (k : MemberModel _) → (shown w).node_states j ≡ Running k → member_here k.address ((shown w).node_states k.address.node) ≡ Some k) c.self.view_is
    (λ j k at. let w = reached-keeps g.R.Receiver.meaning (record { opens = g.met.R.Receiver.opens; applies = g.met.R.Receiver.applies; decodes = g.met.R.Receiver.decodes; reads_back = g.met.R.Receiver.reads_back }) _ c.self.invariant in member-at g.R.Receiver.meaning _ _ j k w at (running-here g.R.Receiver.meaning (record { opens = g.met.R.Receiver.opens; applies = g.met.R.Receiver.applies; decodes = g.met.R.Receiver.decodes; reads_back = g.met.R.Receiver.reads_back }) _ _ j k w at).1.node) n m there)
