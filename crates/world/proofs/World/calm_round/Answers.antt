use Rattle.world.specs.Worlds.{shown}
use Rattle.world.specs.Calm.RoundShort.{AtSpeak, AtLevel}
use Rattle.world.proofs.Deliveries.{on-err-map}
use Rattle.address.proofs.Plain.{on-err}
use Rattle.world.proofs.World.calm_round.Goals as goal

pub returns-in_err-all_speak-clause-err : goal.returns-in_err-all_speak-clause-err
returns-in_err-all_speak-clause-err g c = on-err c.from_residual.result _ (AtSpeak (shown c.all_speak.new.self) c.in_err-all_speak.ensures.err)

pub returns-clause-err : goal.returns-clause-err
returns-clause-err g c = on-err-map c.all_level.result _ _ (AtLevel (shown c.all_speak.new.self) (shown c.all_level.new.self) c.in_ok-all_speak.ensures.ok) c.all_level.ensures.err
