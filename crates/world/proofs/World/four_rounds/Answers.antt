use Rattle.world.specs.Worlds.{shown}
use Rattle.world.specs.Calm.DeliversShort.{AtFirst, AtSecond, AtThird, AtFourth}
use Rattle.world.proofs.CalmIsRun.{four}
use Rattle.world.proofs.Deliveries.{on-err-map}
use Rattle.address.proofs.Plain.{on-err}
use Rattle.world.proofs.World.four_rounds.Goals as goal

pub returns-in_err-calm_round-clause-err : goal.returns-in_err-calm_round-clause-err
returns-in_err-calm_round-clause-err g c = on-err c.from_residual.result _ (AtFirst (shown c.calm_round.new.self) c.in_err-calm_round.ensures.err)

pub returns-in_err-calm_round-2-clause-err : goal.returns-in_err-calm_round-2-clause-err
returns-in_err-calm_round-2-clause-err g c =
    on-err c.from_residual-in_err-calm_round-2.result _ (AtSecond (shown c.calm_round.new.self) (shown c.calm_round-2.new.self) c.in_ok-calm_round.ensures.ok c.in_err-calm_round-2.ensures.err)

pub returns-in_err-calm_round-3-clause-err : goal.returns-in_err-calm_round-3-clause-err
returns-in_err-calm_round-3-clause-err g c =
    on-err c.from_residual-in_err-calm_round-3.result _
    (AtThird (shown c.calm_round.new.self) (shown c.calm_round-2.new.self) (shown c.calm_round-3.new.self) c.in_ok-calm_round.ensures.ok c.in_ok-calm_round-2.ensures.ok c.in_err-calm_round-3.ensures.err)

pub returns : goal.returns
returns g c = record {
  ok = four g.R.Receiver.meaning c.calm_round-4.result c.args.view.now (shown c.args.self.now) (shown c.calm_round.new.self) (shown c.calm_round-2.new.self) (shown c.calm_round-3.new.self) (shown c.calm_round-4.new.self)
      c.in_ok-calm_round.ensures.ok c.in_ok-calm_round-2.ensures.ok c.in_ok-calm_round-3.ensures.ok c.calm_round-4.ensures.ok;
  err = on-err-map c.calm_round-4.result _ _
      (AtFourth (shown c.calm_round.new.self) (shown c.calm_round-2.new.self) (shown c.calm_round-3.new.self) (shown c.calm_round-4.new.self) c.in_ok-calm_round.ensures.ok c.in_ok-calm_round-2.ensures.ok c.in_ok-calm_round-3.ensures.ok)
      c.calm_round-4.ensures.err;
}
