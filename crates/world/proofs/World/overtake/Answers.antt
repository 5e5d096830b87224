use Rattle.std.proofs.Common.{◌≡◌, inr, sym, ap, ◌∙◌, subst}
use Rattle.std.specs.Prelude.{is_some}
use Rattle.std.specs.Option.{ForSome, option_map}
use Rattle.std.proofs.lemmas.Option.{none-some}
use Rattle.world.specs.Invariant.{IsWorld}
use Rattle.world.specs.Worlds.{WorldValue, shown}
use Rattle.world.proofs.KeepOfWorlds.{reached-keeps}
use Rattle.world.specs.declared.rounds.Rounds.{Rounds}
use Rattle.world.specs.LowProposals.{overtaking_at, round_at, asked_past}
use Rattle.world.proofs.OvertakingEnds.{rounds-stop, settling-stops, overtaken}
use Rattle.address.proofs.Plain.{on-err}
use Rattle.world.proofs.World.overtake.Goals as goal

-- there are no rounds
pub returns-in_default-clause-answer : goal.returns-in_default-clause-answer
returns-in_default-clause-answer g c =
    ap is_some (ap (option_map (λ (r : Rounds). r.view)) (sym c.in_default.is) ∙ c.in_ok-rounds.ensures.view ∙ ap (λ (w : WorldValue _). overtaking_at (shown w).node_states c.args.node) c.self.view_is)

pub returns-in_default-clause-plays : goal.returns-in_default-clause-plays
returns-in_default-clause-plays g c = λ v at.
    absurd (none-some v ((ap (option_map (λ (r : Rounds). r.view)) (sym c.in_default.is) ∙ c.in_ok-rounds.ensures.view ∙ ap (λ (w : WorldValue _). overtaking_at (shown w).node_states c.args.node) c.self.view_is) ∙ at))

-- a round failed
pub returns-in_err-raise_twice-clause-stops : goal.returns-in_err-raise_twice-clause-stops
returns-in_err-raise_twice-clause-stops g c =
    on-err c.from_residual-in_err-raise_twice.result _
    (inr (rounds-stop g.R.Receiver.meaning (record { opens = g.met.R.Receiver.opens; applies = g.met.R.Receiver.applies; decodes = g.met.R.Receiver.decodes; reads_back = g.met.R.Receiver.reads_back }) (shown c.args.self.now) c.args.node c.in-Some.rounds.view c.in-Some.rounds.first c.in-Some.rounds.second
    (subst (λ (w : WorldValue _). IsWorld g.R.Receiver.meaning (shown w).node_states w.history) c.self.view_is
    (reached-keeps g.R.Receiver.meaning (record { opens = g.met.R.Receiver.opens; applies = g.met.R.Receiver.applies; decodes = g.met.R.Receiver.decodes; reads_back = g.met.R.Receiver.reads_back }) _ c.self.invariant))
    (ap (option_map (λ (r : Rounds). r.view)) (sym c.in-Some.is) ∙ c.in_ok-rounds.ensures.view ∙ ap (λ (w : WorldValue _). overtaking_at (shown w).node_states c.args.node) c.self.view_is)
    (subst (λ (w : WorldValue _). ForSome (round_at (shown w).node_states c.args.node) (λ one. (c.in-Some.rounds.first ≡ one.asked) × (c.in-Some.rounds.second ≡ asked_past (shown w).node_states one.raised))) c.self.view_is
    (c.in_ok-rounds.ensures.asks c.in-Some.rounds c.in-Some.is))
    (shown c.raise_twice.new.self) c.in_err-raise_twice.ensures.err))

-- the settling did
pub returns-in_err-bring_together-clause-stops : goal.returns-in_err-bring_together-clause-stops
returns-in_err-bring_together-clause-stops g c =
    on-err c.from_residual-in_err-bring_together.result _
    (inr (settling-stops g.R.Receiver.meaning (record { opens = g.met.R.Receiver.opens; applies = g.met.R.Receiver.applies; decodes = g.met.R.Receiver.decodes; reads_back = g.met.R.Receiver.reads_back }) (shown c.args.self.now) c.args.node c.in-Some.rounds.view c.in-Some.rounds.first c.in-Some.rounds.second
    (subst (λ (w : WorldValue _). IsWorld g.R.Receiver.meaning (shown w).node_states w.history) c.self.view_is
    (reached-keeps g.R.Receiver.meaning (record { opens = g.met.R.Receiver.opens; applies = g.met.R.Receiver.applies; decodes = g.met.R.Receiver.decodes; reads_back = g.met.R.Receiver.reads_back }) _ c.self.invariant))
    (ap (option_map (λ (r : Rounds). r.view)) (sym c.in-Some.is) ∙ c.in_ok-rounds.ensures.view ∙ ap (λ (w : WorldValue _). overtaking_at (shown w).node_states c.args.node) c.self.view_is)
    (subst (λ (w : WorldValue _). ForSome (round_at (shown w).node_states c.args.node) (λ one. (c.in-Some.rounds.first ≡ one.asked) × (c.in-Some.rounds.second ≡ asked_past (shown w).node_states one.raised))) c.self.view_is
    (c.in_ok-rounds.ensures.asks c.in-Some.rounds c.in-Some.is))
    (shown c.raise_twice.new.self) (shown c.bring_together.new.self) c.in_ok-raise_twice.ensures.ok c.in_err-bring_together.ensures.err))

-- all are played
pub returns-clause-answer : goal.returns-clause-answer
returns-clause-answer g c =
    ap is_some (ap (option_map (λ (r : Rounds). r.view)) (sym c.in-Some.is) ∙ c.in_ok-rounds.ensures.view ∙ ap (λ (w : WorldValue _). overtaking_at (shown w).node_states c.args.node) c.self.view_is)

pub returns-clause-plays : goal.returns-clause-plays
returns-clause-plays g c =
    overtaken g.R.Receiver.meaning (record { opens = g.met.R.Receiver.opens; applies = g.met.R.Receiver.applies; decodes = g.met.R.Receiver.decodes; reads_back = g.met.R.Receiver.reads_back }) (shown c.args.self.now) c.args.node c.in-Some.rounds.view c.in-Some.rounds.first c.in-Some.rounds.second
    (subst (λ (w : WorldValue _). IsWorld g.R.Receiver.meaning (shown w).node_states w.history) c.self.view_is
    (reached-keeps g.R.Receiver.meaning (record { opens = g.met.R.Receiver.opens; applies = g.met.R.Receiver.applies; decodes = g.met.R.Receiver.decodes; reads_back = g.met.R.Receiver.reads_back }) _ c.self.invariant))
    (ap (option_map (λ (r : Rounds). r.view)) (sym c.in-Some.is) ∙ c.in_ok-rounds.ensures.view ∙ ap (λ (w : WorldValue _). overtaking_at (shown w).node_states c.args.node) c.self.view_is)
    (subst (λ (w : WorldValue _). ForSome (round_at (shown w).node_states c.args.node) (λ one. (c.in-Some.rounds.first ≡ one.asked) × (c.in-Some.rounds.second ≡ asked_past (shown w).node_states one.raised))) c.self.view_is
    (c.in_ok-rounds.ensures.asks c.in-Some.rounds c.in-Some.is))
    (shown c.raise_twice.new.self) (shown c.bring_together.new.self) c.in_ok-raise_twice.ensures.ok c.in_ok-bring_together.ensures.ok
