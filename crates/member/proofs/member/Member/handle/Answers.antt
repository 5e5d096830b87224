use Rattle.std.proofs.Common.{◌≡◌, Result, Ok, sym, subst}
use Rattle.state_transfer.specs.Meanings.{Meaning}
use Rattle.step_output.specs.declared.output.Output.{Output}
use Rattle.member.specs.declared.error.Error.{Error}
use Rattle.member.specs.declared.input.Input.{Input}
use Rattle.member.specs.Members.{MemberModel}
use Rattle.member.specs.Handling.{Handled}
use Rattle.member.proofs.member.Member.handle.Goals as goal

by-kind : {S : Type 0} (meaning : Meaning S) (old new : MemberModel S) (input kind : Input) (result : Result Output Error) → input ≡ kind → Handled meaning old kind result new → Handled meaning old input result new
by-kind meaning old new input kind result is = subst (λ (i : Input). Handled meaning old i result new) (sym is)

pub returns-in-Create : goal.returns-in-Create
returns-in-Create g c = let h = by-kind g.R.Receiver.meaning _ _ _ _ c.create.result c.in-Create.is c.create.ensures in record { acted = h.acted; refused = h.refused; memory = h.memory; closed = h.closed; reply = h.reply; prompt = h.prompt; does = h.does; few = h.few; short = h.short; ignored = h.ignored; alive = h.alive; address = h.address; group = h.group }

pub returns-in-Join : goal.returns-in-Join
returns-in-Join g c = let h = by-kind g.R.Receiver.meaning _ _ _ _ c.join.result c.in-Join.is c.join.ensures in record { acted = h.acted; refused = h.refused; memory = h.memory; closed = h.closed; reply = h.reply; prompt = h.prompt; does = h.does; few = h.few; short = h.short; ignored = h.ignored; alive = h.alive; address = h.address; group = h.group }

pub returns-in-Send : goal.returns-in-Send
returns-in-Send g c = let h = by-kind g.R.Receiver.meaning _ _ _ _ c.send.result c.in-Send.is c.send.ensures in record { acted = h.acted; refused = h.refused; memory = h.memory; closed = h.closed; reply = h.reply; prompt = h.prompt; does = h.does; few = h.few; short = h.short; ignored = h.ignored; alive = h.alive; address = h.address; group = h.group }

pub returns-in_ok-taken-in-Datagram : goal.returns-in_ok-taken-in-Datagram
returns-in_ok-taken-in-Datagram g c = let h = by-kind g.R.Receiver.meaning _ _ _ _ (Ok c.in_ok-taken-in-Datagram.taken.out) c.in-Datagram.is c.in_ok-taken-in-Datagram.ensures.handled in record { acted = h.acted; refused = h.refused; memory = h.memory; closed = h.closed; reply = h.reply; prompt = h.prompt; does = h.does; few = h.few; short = h.short; ignored = h.ignored; alive = h.alive; address = h.address; group = h.group }

pub returns-in-Tick : goal.returns-in-Tick
returns-in-Tick g c = let h = by-kind g.R.Receiver.meaning _ _ _ _ c.tick.result c.in-Tick.is c.tick.ensures in record { acted = h.acted; refused = h.refused; memory = h.memory; closed = h.closed; reply = h.reply; prompt = h.prompt; does = h.does; few = h.few; short = h.short; ignored = h.ignored; alive = h.alive; address = h.address; group = h.group }

pub returns-in-Suspect : goal.returns-in-Suspect
returns-in-Suspect g c = let h = by-kind g.R.Receiver.meaning _ _ _ _ c.suspect.result c.in-Suspect.is c.suspect.ensures in record { acted = h.acted; refused = h.refused; memory = h.memory; closed = h.closed; reply = h.reply; prompt = h.prompt; does = h.does; few = h.few; short = h.short; ignored = h.ignored; alive = h.alive; address = h.address; group = h.group }

pub returns-in-MergeHint : goal.returns-in-MergeHint
returns-in-MergeHint g c = let h = by-kind g.R.Receiver.meaning _ _ _ _ c.merge_hint.result c.in-MergeHint.is c.merge_hint.ensures in record { acted = h.acted; refused = h.refused; memory = h.memory; closed = h.closed; reply = h.reply; prompt = h.prompt; does = h.does; few = h.few; short = h.short; ignored = h.ignored; alive = h.alive; address = h.address; group = h.group }

pub returns-in-Leave : goal.returns-in-Leave
returns-in-Leave g c = let h = by-kind g.R.Receiver.meaning _ _ _ _ c.leave.result c.in-Leave.is c.leave.ensures in record { acted = h.acted; refused = h.refused; memory = h.memory; closed = h.closed; reply = h.reply; prompt = h.prompt; does = h.does; few = h.few; short = h.short; ignored = h.ignored; alive = h.alive; address = h.address; group = h.group }
