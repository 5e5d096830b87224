use Rattle.std.proofs.Common.{Option, sym, ap, ◌∙◌, subst}
use Rattle.std.proofs.lemmas.Option.{none-some, same_Some}
use Rattle.view.specs.Members.{View}
use Rattle.world.specs.Invariant.{IsWorld}
use Rattle.world.specs.Worlds.{WorldValue, shown}
use Rattle.world.specs.Calm.{calm_at, DeliversAll, DeliversShort, IsThrough, EndsDelivering}
use Rattle.std.specs.Option.{IsSomeAnd}
use Rattle.world.proofs.CalmIsRun.{delivers-longer, short-longer}
use Rattle.world.proofs.KeepOfWorlds.{reached-keeps}
use Rattle.world.proofs.CalmRounds.{calm-delivers, calm-is-brief}
use Rattle.world.proofs.CalmStops.{calm-ends}
use Rattle.world.proofs.CalmIsTold.{calm-view-is}
use Rattle.std.specs.Prelude.{is_some}
use Rattle.world.proofs.World.deliver_all.Goals as goal

-- it is not calm
pub returns-in_default-clause-plays : goal.returns-in_default-clause-plays
returns-in_default-clause-plays g c = λ v some. absurd (none-some v (sym c.in_default.is ∙ (c.calm_view.ensures ∙ ap (λ (w : WorldValue _). calm_at (shown w).node_states c.args.node) c.self.view_is) ∙ some))

pub returns-in_default-clause-through : goal.returns-in_default-clause-through
returns-in_default-clause-through g c = λ v some. absurd (none-some v (sym c.in_default.is ∙ (c.calm_view.ensures ∙ ap (λ (w : WorldValue _). calm_at (shown w).node_states c.args.node) c.self.view_is) ∙ some))

-- it is played
pub returns-clause-plays : goal.returns-clause-plays
returns-clause-plays g c = λ v some.
    subst (λ (u : View). DeliversAll g.R.Receiver.meaning u (shown c.args.self.now) (shown c.four_rounds.new.self))
    (same_Some c.in-Some.view v (sym (sym (c.calm_view.ensures ∙ ap (λ (w : WorldValue _). calm_at (shown w).node_states c.args.node) c.self.view_is) ∙ c.in-Some.is) ∙ some)) c.in_default-four_rounds.ensures.ok

pub returns-clause-through : goal.returns-clause-through
returns-clause-through g c = λ v some.
    subst (λ (u : View). IsThrough u (shown c.four_rounds.new.self))
    (same_Some c.in-Some.view v (sym (sym (c.calm_view.ensures ∙ ap (λ (w : WorldValue _). calm_at (shown w).node_states c.args.node) c.self.view_is) ∙ c.in-Some.is) ∙ some))
    (calm-delivers g.R.Receiver.meaning (record { opens = g.met.R.Receiver.opens; applies = g.met.R.Receiver.applies; decodes = g.met.R.Receiver.decodes; reads_back = g.met.R.Receiver.reads_back })
    (shown c.args.self.now) (shown c.four_rounds.new.self) c.args.node c.in-Some.view c.members-members.ensures.sound
    (subst (λ (w : WorldValue _). IsWorld g.R.Receiver.meaning (shown w).node_states w.history) c.self.view_is
    (reached-keeps g.R.Receiver.meaning (record { opens = g.met.R.Receiver.opens; applies = g.met.R.Receiver.applies; decodes = g.met.R.Receiver.decodes; reads_back = g.met.R.Receiver.reads_back }) _ c.self.invariant))
    (sym (c.calm_view.ensures ∙ ap (λ (w : WorldValue _). calm_at (shown w).node_states c.args.node) c.self.view_is) ∙ c.in-Some.is) c.in_default-four_rounds.ensures.ok)

pub returns-clause-brief : goal.returns-clause-brief
returns-clause-brief g c =
    calm-is-brief g.R.Receiver.meaning (record { opens = g.met.R.Receiver.opens; applies = g.met.R.Receiver.applies; decodes = g.met.R.Receiver.decodes; reads_back = g.met.R.Receiver.reads_back })
    (shown c.args.self.now) (shown c.four_rounds.new.self) c.args.node c.in-Some.view c.members-members.ensures.sound
    (subst (λ (w : WorldValue _). IsWorld g.R.Receiver.meaning (shown w).node_states w.history) c.self.view_is
    (reached-keeps g.R.Receiver.meaning (record { opens = g.met.R.Receiver.opens; applies = g.met.R.Receiver.applies; decodes = g.met.R.Receiver.decodes; reads_back = g.met.R.Receiver.reads_back }) _ c.self.invariant))
    (sym (c.calm_view.ensures ∙ ap (λ (w : WorldValue _). calm_at (shown w).node_states c.args.node) c.self.view_is) ∙ c.in-Some.is) c.in_default-four_rounds.ensures.ok

-- it ended in an error
pub returns-in-Err-clause-stops : goal.returns-in-Err-clause-stops
returns-in-Err-clause-stops g c =
    subst (λ (o : Option View). IsSomeAnd o (λ v. DeliversShort g.R.Receiver.meaning v (shown c.args.self.now) (shown c.four_rounds.new.self)))
    (sym (sym (c.calm_view.ensures ∙ ap (λ (w : WorldValue _). calm_at (shown w).node_states c.args.node) c.self.view_is) ∙ c.in-Some.is)) c.in-Err.ensures.err

pub returns-in-Err-clause-longer : goal.returns-in-Err-clause-longer
returns-in-Err-clause-longer g c = short-longer g.R.Receiver.meaning c.in-Some.view (shown c.args.self.now) (shown c.four_rounds.new.self) c.in-Err.ensures.err

pub returns-clause-longer : goal.returns-clause-longer
returns-clause-longer g c = delivers-longer g.R.Receiver.meaning c.in-Some.view (shown c.args.self.now) (shown c.four_rounds.new.self) c.in_default-four_rounds.ensures.ok

pub returns-in-Err-clause-ends : goal.returns-in-Err-clause-ends
returns-in-Err-clause-ends g c =
    subst (λ (o : Option View). IsSomeAnd o (λ v. EndsDelivering v (shown c.four_rounds.new.self))) (sym (sym (c.calm_view.ensures ∙ ap (λ (w : WorldValue _). calm_at (shown w).node_states c.args.node) c.self.view_is) ∙ c.in-Some.is))
    (calm-ends g.R.Receiver.meaning (record { opens = g.met.R.Receiver.opens; applies = g.met.R.Receiver.applies; decodes = g.met.R.Receiver.decodes; reads_back = g.met.R.Receiver.reads_back })
    (shown c.args.self.now) (shown c.four_rounds.new.self) c.args.node c.in-Some.view c.members-members.ensures.sound
    (subst (λ (w : WorldValue _). IsWorld g.R.Receiver.meaning (shown w).node_states w.history) c.self.view_is
    (reached-keeps g.R.Receiver.meaning (record { opens = g.met.R.Receiver.opens; applies = g.met.R.Receiver.applies; decodes = g.met.R.Receiver.decodes; reads_back = g.met.R.Receiver.reads_back }) _ c.self.invariant))
    (sym (c.calm_view.ensures ∙ ap (λ (w : WorldValue _). calm_at (shown w).node_states c.args.node) c.self.view_is) ∙ c.in-Some.is) c.in-Err.ensures.err)

-- the trace says whether it is calm
pub returns-in_default-clause-condition : goal.returns-in_default-clause-condition
returns-in_default-clause-condition g c =
    ap is_some (sym c.in_default.is ∙ (c.calm_view.ensures ∙ ap (λ (w : WorldValue _). calm_at (shown w).node_states c.args.node) c.self.view_is))
    ∙ calm-view-is g.R.Receiver.meaning (record { opens = g.met.R.Receiver.opens; applies = g.met.R.Receiver.applies; decodes = g.met.R.Receiver.decodes; reads_back = g.met.R.Receiver.reads_back }) (shown c.args.self.now).node_states c.args.self.now.history
    (subst (λ (w : WorldValue _). IsWorld g.R.Receiver.meaning (shown w).node_states w.history) c.self.view_is
    (reached-keeps g.R.Receiver.meaning (record { opens = g.met.R.Receiver.opens; applies = g.met.R.Receiver.applies; decodes = g.met.R.Receiver.decodes; reads_back = g.met.R.Receiver.reads_back }) _ c.self.invariant)) c.args.node

pub returns-clause-condition : goal.returns-clause-condition
returns-clause-condition g c =
    ap is_some (sym c.in-Some.is ∙ (c.calm_view.ensures ∙ ap (λ (w : WorldValue _). calm_at (shown w).node_states c.args.node) c.self.view_is))
    ∙ calm-view-is g.R.Receiver.meaning (record { opens = g.met.R.Receiver.opens; applies = g.met.R.Receiver.applies; decodes = g.met.R.Receiver.decodes; reads_back = g.met.R.Receiver.reads_back }) (shown c.args.self.now).node_states c.args.self.now.history
    (subst (λ (w : WorldValue _). IsWorld g.R.Receiver.meaning (shown w).node_states w.history) c.self.view_is
    (reached-keeps g.R.Receiver.meaning (record { opens = g.met.R.Receiver.opens; applies = g.met.R.Receiver.applies; decodes = g.met.R.Receiver.decodes; reads_back = g.met.R.Receiver.reads_back }) _ c.self.invariant)) c.args.node
