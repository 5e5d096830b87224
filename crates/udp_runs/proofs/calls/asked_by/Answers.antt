use Rattle.udp_runs.specs.Calls.{Creates, Joins, Sends, Ticks, Suspects, Hints, Leaves}
use Rattle.udp_runs.proofs.calls.asked_by.Goals as goal

pub returns-in-Create : goal.returns-in-Create
returns-in-Create g = rw g.in-Create.is (Creates _)

pub returns-in-Join : goal.returns-in-Join
returns-in-Join g = rw g.in-Join.is (Joins _ _)

pub returns-in-Send : goal.returns-in-Send
returns-in-Send g = rw g.in-Send.is (Sends _ _)

pub returns-in-Tick : goal.returns-in-Tick
returns-in-Tick g = rw g.in-Tick.is (Ticks _)

pub returns-in-Suspect : goal.returns-in-Suspect
returns-in-Suspect g = rw g.in-Suspect.is (Suspects _ _)

pub returns-in-MergeHint : goal.returns-in-MergeHint
returns-in-MergeHint g = rw g.in-MergeHint.is (Hints _ _)

pub returns-in-Leave : goal.returns-in-Leave
returns-in-Leave g = rw g.in-Leave.is (Leaves _)
