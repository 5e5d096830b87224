use Rattle.commands.proofs.DrawingsEnd.{drawn-picture, undrawn-picture}
use Rattle.commands.proofs.draws.print_picture.Goals as goal

pub returns-in-Ok : goal.returns-in-Ok
returns-in-Ok g c = drawn-picture c.args.events.now c.args.asides.now c.args.packets.now c.args.verdict _ _ _ c.in-Ok.picture.items _ c.in-Ok.ensures c.as_slice.ensures.value c.end_with.ensures

pub returns-in-Err : goal.returns-in-Err
returns-in-Err g c = undrawn-picture c.args.events.now c.args.asides.now c.args.packets.now c.args.verdict _ _ _ c.end_undrawn.ensures
