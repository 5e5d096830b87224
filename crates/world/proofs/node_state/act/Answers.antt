use Rattle.std.proofs.Common.{refl}
use Rattle.member.specs.declared.input.Input.TheVariants.{Send}
use Rattle.world.proofs.NodesGive.{lent}
use Rattle.world.proofs.node_state.act.Goals as goal

-- what the one function does that each event is passed on to; a member's events leave the pool to it
pub returns-in-Start : goal.returns-in-Start
returns-in-Start g c = rw c.in-Start.is (c.start.ensures, refl)

pub returns-in-Create : goal.returns-in-Create
returns-in-Create g c = rw c.in-Create.is c.hand.ensures

pub returns-in-Join : goal.returns-in-Join
returns-in-Join g c = rw c.in-Join.is c.hand-in-Join.ensures

pub returns-in-Send : goal.returns-in-Send
returns-in-Send g c =
    rw c.in-Send.is (lent g.R.Receiver.meaning Send c.as_slice.result _ c.args.node_state.now c.args.trace.now.events c.args.pool.now c.hand-in-Send.new.pool
    c.hand-in-Send.result c.hand-in-Send.new.node_state c.hand-in-Send.new.trace.events c.as_slice.ensures c.hand-in-Send.ensures)

pub returns-in-Tick : goal.returns-in-Tick
returns-in-Tick g c = rw c.in-Tick.is c.hand-in-Tick.ensures

pub returns-in-Suspect : goal.returns-in-Suspect
returns-in-Suspect g c = rw c.in-Suspect.is c.hand-in-Suspect.ensures

pub returns-in-MergeHint : goal.returns-in-MergeHint
returns-in-MergeHint g c = rw c.in-MergeHint.is c.hand-in-MergeHint.ensures

pub returns-in-Leave : goal.returns-in-Leave
returns-in-Leave g c = rw c.in-Leave.is c.hand-in-Leave.ensures

pub returns-in-Crash : goal.returns-in-Crash
returns-in-Crash g c = rw c.in-Crash.is (c.crash.ensures, refl)
