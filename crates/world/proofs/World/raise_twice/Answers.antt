use Rattle.world.specs.Worlds.{shown}
use Rattle.world.proofs.Deliveries.{on-err-map, on-ok-map}
use Rattle.world.specs.LowProposals.RaisesTwiceShort.{InFirst}
use Rattle.world.proofs.OvertakingIsRun.{alone, once-more, once-short}
use Rattle.address.proofs.Plain.{on-err}
use Rattle.world.proofs.World.raise_twice.Goals as goal

-- the first round fails
pub returns-in_err-raise-clause-err : goal.returns-in_err-raise-clause-err
returns-in_err-raise-clause-err g c = on-err c.from_residual.result _ (InFirst (shown c.raise.new.self) c.in_err-raise.ensures.err)

-- there is no second
pub returns-in-None-clause-ok : goal.returns-in-None-clause-ok
returns-in-None-clause-ok g c =
    alone g.R.Receiver.meaning c.args.node c.args.rounds.now.first c.args.rounds.now.second (shown c.args.self.now) (shown c.raise.new.self) c.in_ok-raise.ensures.ok c.in-None.is

-- the second fails
pub returns-in-Some-clause-err : goal.returns-in-Some-clause-err
returns-in-Some-clause-err g c =
    on-err-map c.raise-in-Some.result _ _
    (once-short g.R.Receiver.meaning c.args.node c.args.rounds.now.first c.args.rounds.now.second (shown c.args.self.now) (shown c.raise.new.self) c.in_ok-raise.ensures.ok (shown c.raise-in-Some.new.self) c.in-Some.asked c.in-Some.is)
    c.raise-in-Some.ensures.err

-- both are played
pub returns-in-Some-clause-ok : goal.returns-in-Some-clause-ok
returns-in-Some-clause-ok g c =
    on-ok-map c.raise-in-Some.result _ _
    (once-more g.R.Receiver.meaning c.args.node c.args.rounds.now.first c.args.rounds.now.second (shown c.args.self.now) (shown c.raise.new.self) c.in_ok-raise.ensures.ok (shown c.raise-in-Some.new.self) c.in-Some.asked c.in-Some.is)
    c.raise-in-Some.ensures.ok
