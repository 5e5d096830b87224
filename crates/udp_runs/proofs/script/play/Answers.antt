use Rattle.std.proofs.Common.{[], None}
use Rattle.law_runners.specs.Systems.{Nothing}
use Rattle.udp_runs.specs.Scripts.IsBegun.{InLines}
use Rattle.udp_runs.proofs.script.play.Goals as goal
use Rattle.vsync_text.proofs.LinesWritten.{appends_nothing}

pub returns-in_default : goal.returns-in_default
returns-in_default g c = ([], InLines (λ p. None) [] [] 0 (c.runners_are_synchronous.ensures.played c.args.settings.now.group (λ p. None) [] [] ([], Nothing)), appends_nothing _)

pub returns : goal.returns
returns g c = c.play_lines.ensures c.in-Ok.ensures.unused c.in-Ok.ensures.listed c.new-text.ensures.items
