use Rattle.std.proofs.Common.{◌∙◌}
use Rattle.trace_props.specs.declared.verdict.Verdict.TheVariants.{Holds}
use Rattle.commands.proofs.DrawingsEnd.{picture-of-same}
use Rattle.commands.proofs.draws.print_world.Goals as goal

pub returns : goal.returns
returns g c = picture-of-same _ _ _ _ _ Holds _ _ _ (c.events-events.ensures.value ∙ c.trace.ensures) c.packets.ensures c.print_picture.ensures
