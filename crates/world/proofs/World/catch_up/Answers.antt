use Rattle.std.proofs.Common.{Option, sym, ap, ◌∙◌, subst}
use Rattle.std.specs.Prelude.{is_some}
use Rattle.std.specs.Option.{IsSomeAnd}
use Rattle.std.proofs.lemmas.Option.{none-some, same_Some}
use Rattle.world.specs.declared.gaps.Pair.{Pair}
use Rattle.world.specs.Invariant.{IsWorld}
use Rattle.world.specs.Worlds.{WorldValue, shown}
use Rattle.world.specs.Gaps.{pair_at, EndsSo, IsLevel}
use Rattle.world.proofs.KeepOfWorlds.{reached-keeps}
use Rattle.world.proofs.PairsAreOpen.{open-pair-is}
use Rattle.world.proofs.BroughtLevel.{levels}
use Rattle.world.proofs.CatchUpStops.{ends}
use Rattle.world.proofs.CatchUpIsRun.{catches-longer, stops-longer}
use Rattle.world.proofs.World.catch_up.Goals as goal

-- there are not those two
pub returns-in_default-clause-plays : goal.returns-in_default-clause-plays
returns-in_default-clause-plays g c = λ pair some. absurd (none-some pair (sym c.in_default.is ∙ (c.pair_at.ensures ∙ ap (λ (w : WorldValue _). pair_at (shown w).node_states c.args.node) c.self.view_is) ∙ some))

pub returns-in_default-clause-level : goal.returns-in_default-clause-level
returns-in_default-clause-level g c = λ pair some. absurd (none-some pair (sym c.in_default.is ∙ (c.pair_at.ensures ∙ ap (λ (w : WorldValue _). pair_at (shown w).node_states c.args.node) c.self.view_is) ∙ some))

-- it ended in an error
pub returns-in-Err-clause-ends : goal.returns-in-Err-clause-ends
returns-in-Err-clause-ends g c =
    subst (λ (o : Option Pair). IsSomeAnd o (λ pair. EndsSo pair (shown c.bring_level.new.self))) (sym (sym (c.pair_at.ensures ∙ ap (λ (w : WorldValue _). pair_at (shown w).node_states c.args.node) c.self.view_is) ∙ c.in-Some.is))
    (ends g.R.Receiver.meaning (record { opens = g.met.R.Receiver.opens; applies = g.met.R.Receiver.applies; decodes = g.met.R.Receiver.decodes; reads_back = g.met.R.Receiver.reads_back }) (shown c.args.self.now) (shown c.bring_level.new.self) c.args.node c.in-Some.pair
    (subst (λ (w : WorldValue _). IsWorld g.R.Receiver.meaning (shown w).node_states w.history) c.self.view_is
    (reached-keeps g.R.Receiver.meaning (record { opens = g.met.R.Receiver.opens; applies = g.met.R.Receiver.applies; decodes = g.met.R.Receiver.decodes; reads_back = g.met.R.Receiver.reads_back }) _ c.self.invariant))
    (sym (c.pair_at.ensures ∙ ap (λ (w : WorldValue _). pair_at (shown w).node_states c.args.node) c.self.view_is) ∙ c.in-Some.is) c.in-Err.ensures.err)

pub returns-in-Err-clause-longer : goal.returns-in-Err-clause-longer
returns-in-Err-clause-longer g c = stops-longer g.R.Receiver.meaning c.in-Some.pair (shown c.args.self.now) (shown c.bring_level.new.self) c.in-Err.ensures.err

-- it is played
pub returns-clause-level : goal.returns-clause-level
returns-clause-level g c = λ pair some.
    subst (λ (p : Pair). IsLevel p c.bring_level.new.self.history.trace) (same_Some c.in-Some.pair pair (sym (sym (c.pair_at.ensures ∙ ap (λ (w : WorldValue _). pair_at (shown w).node_states c.args.node) c.self.view_is) ∙ c.in-Some.is) ∙ some))
    (levels g.R.Receiver.meaning (record { opens = g.met.R.Receiver.opens; applies = g.met.R.Receiver.applies; decodes = g.met.R.Receiver.decodes; reads_back = g.met.R.Receiver.reads_back }) (shown c.args.self.now) (shown c.bring_level.new.self) c.args.node c.in-Some.pair
    (subst (λ (w : WorldValue _). IsWorld g.R.Receiver.meaning (shown w).node_states w.history) c.self.view_is
    (reached-keeps g.R.Receiver.meaning (record { opens = g.met.R.Receiver.opens; applies = g.met.R.Receiver.applies; decodes = g.met.R.Receiver.decodes; reads_back = g.met.R.Receiver.reads_back }) _ c.self.invariant))
    (sym (c.pair_at.ensures ∙ ap (λ (w : WorldValue _). pair_at (shown w).node_states c.args.node) c.self.view_is) ∙ c.in-Some.is) c.in_default-bring_level.ensures.ok)

pub returns-clause-longer : goal.returns-clause-longer
returns-clause-longer g c = catches-longer g.R.Receiver.meaning c.in-Some.pair (shown c.args.self.now) (shown c.bring_level.new.self) c.in_default-bring_level.ensures.ok

-- the trace says whether there are those two
pub returns-in_default-clause-condition : goal.returns-in_default-clause-condition
returns-in_default-clause-condition g c =
    ap is_some (sym c.in_default.is ∙ (c.pair_at.ensures ∙ ap (λ (w : WorldValue _). pair_at (shown w).node_states c.args.node) c.self.view_is))
    ∙ open-pair-is g.R.Receiver.meaning (record { opens = g.met.R.Receiver.opens; applies = g.met.R.Receiver.applies; decodes = g.met.R.Receiver.decodes; reads_back = g.met.R.Receiver.reads_back }) (shown c.args.self.now).node_states c.args.self.now.history
    (subst (λ (w : WorldValue _). IsWorld g.R.Receiver.meaning (shown w).node_states w.history) c.self.view_is
    (reached-keeps g.R.Receiver.meaning (record { opens = g.met.R.Receiver.opens; applies = g.met.R.Receiver.applies; decodes = g.met.R.Receiver.decodes; reads_back = g.met.R.Receiver.reads_back }) _ c.self.invariant)) c.args.node

pub returns-clause-condition : goal.returns-clause-condition
returns-clause-condition g c =
    ap is_some (sym c.in-Some.is ∙ (c.pair_at.ensures ∙ ap (λ (w : WorldValue _). pair_at (shown w).node_states c.args.node) c.self.view_is))
    ∙ open-pair-is g.R.Receiver.meaning (record { opens = g.met.R.Receiver.opens; applies = g.met.R.Receiver.applies; decodes = g.met.R.Receiver.decodes; reads_back = g.met.R.Receiver.reads_back }) (shown c.args.self.now).node_states c.args.self.now.history
    (subst (λ (w : WorldValue _). IsWorld g.R.Receiver.meaning (shown w).node_states w.history) c.self.view_is
    (reached-keeps g.R.Receiver.meaning (record { opens = g.met.R.Receiver.opens; applies = g.met.R.Receiver.applies; decodes = g.met.R.Receiver.decodes; reads_back = g.met.R.Receiver.reads_back }) _ c.self.invariant)) c.args.node
