use Rattle.std.proofs.Common.{length, sym, ap, subst, arith}
use Rattle.world.specs.Worlds.{WorldModel, WorldValue, IsReached, IsLonger, shown}
use Rattle.world.specs.Worlds.Runs.{Still}
use Rattle.world.proofs.EventsInTurn.{runs-longer}
use Rattle.world.specs.Completing.{completing_at, IsUntried}
use Rattle.world.proofs.CompletesAnyWay.{completes-longer, short-longer}
use Rattle.world.proofs.SettlingIsTold.{then-of, else-of, well-by, any-by}
use Rattle.world.proofs.World.settle.Goals as goal

-- it is completed, by few events
pub returns-clause-settled : goal.returns-clause-settled
returns-clause-settled g c =
    then-of c.complete-completed.result (completing_at (shown c.args.self.now).node_states c.args.node) _ _ c.complete-completed.ensures.plays
    (λ v there x. c.views_complete.ensures.completes (shown c.args.self.now) (shown c.complete-completed.new.self) c.args.node v (subst (λ (w : WorldValue _). IsReached g.R.Receiver.meaning (shown w)) c.self.view_is c.self.invariant) there x)

pub returns-clause-brief : goal.returns-clause-brief
returns-clause-brief g c =
    well-by c.complete-completed.result (completing_at (shown c.args.self.now).node_states c.args.node) _ _ c.complete-completed.ensures.answer c.complete-completed.ensures.plays
    (λ none. let same = ap (λ (w : WorldModel _). length w.history.events) (c.complete-completed.ensures.nothing none) in omega (arith, same))
    (λ v there x. c.views_complete.ensures.brief (shown c.args.self.now) (shown c.complete-completed.new.self) c.args.node v (subst (λ (w : WorldValue _). IsReached g.R.Receiver.meaning (shown w)) c.self.view_is c.self.invariant) there x)

-- it ended in an error
pub returns-clause-ends : goal.returns-clause-ends
returns-clause-ends g c =
    else-of c.complete-completed.result (completing_at (shown c.args.self.now).node_states c.args.node) _ _ _ c.complete-completed.ensures.stops
    (λ v there x. c.views_complete.ensures.ends (shown c.args.self.now) (shown c.complete-completed.new.self) c.args.node v (subst (λ (w : WorldValue _). IsReached g.R.Receiver.meaning (shown w)) c.self.view_is c.self.invariant) there x)

-- in each case what was there is the beginning of what is there
pub returns-clause-longer : goal.returns-clause-longer
returns-clause-longer g c =
    any-by c.complete-completed.result (completing_at (shown c.args.self.now).node_states c.args.node) _ _ _ _ c.complete-completed.ensures.answer c.complete-completed.ensures.plays c.complete-completed.ensures.stops
    (λ none. subst (λ (w : WorldModel _). IsLonger c.args.self.now.history w.history) (sym (c.complete-completed.ensures.nothing none)) (runs-longer g.R.Receiver.meaning (shown c.args.self.now) (shown c.args.self.now) _ Still))
    (λ (u : IsUntried c.args.node (shown c.args.self.now) (shown c.complete-completed.new.self)). subst (λ (w : WorldModel _). IsLonger c.args.self.now.history w.history) (sym u.same) (runs-longer g.R.Receiver.meaning (shown c.args.self.now) (shown c.args.self.now) _ Still))
    (λ v there x. completes-longer g.R.Receiver.meaning c.args.node v (shown c.args.self.now) (shown c.complete-completed.new.self) x)
    (λ v there x. short-longer g.R.Receiver.meaning c.args.node v (shown c.args.self.now) (shown c.complete-completed.new.self) x)
