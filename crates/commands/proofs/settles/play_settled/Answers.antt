use Rattle.std.proofs.Common.{ℕ, List, length, ap, ◌∙◌}
use Rattle.world_model.specs.declared.WorldEvent.{WorldEvent}
use Rattle.world.specs.Worlds.{shown}
use Rattle.commands.specs.Settled.{padded}
use Rattle.commands.proofs.SettledRuns.{settled-played, settled-stopped}
use Rattle.commands.proofs.settles.play_settled.Goals as goal

pub returns-in-Ok : goal.returns-in-Ok
returns-in-Ok g c =
    settled-played g.R.Receiver.meaning c.args.delivers c.args.script.now _ _ (shown c.new-world.result) (shown c.run_and_settle.new.world) c.is_ok-ran.result c.run_and_settle.result _ _ _
    (c.as_slice.ensures.value ∙ c.in-Ok.ensures ∙ ap (λ (l : List ℕ). padded l (length c.events-2.result.now)) c.lines.ensures
    ∙ ap (λ (l : List WorldEvent). padded c.args.script.now.lines (length l)) c.events-2.ensures) c.events.ensures c.new-world.ensures c.run_and_settle.ensures.rules c.run_and_settle.ensures.some
    c.run_and_settle.ensures.ok c.is_ok-ran.ensures.value c.print_run.ensures

pub returns : goal.returns
returns g c =
    settled-stopped g.R.Receiver.meaning c.args.delivers c.args.script.now _ (shown c.new-world.result) (shown c.run_and_settle.new.world) _ _ _ c.events.ensures c.new-world.ensures c.run_and_settle.ensures.rules
    c.run_and_settle.ensures.some c.end_in_memory.ensures
