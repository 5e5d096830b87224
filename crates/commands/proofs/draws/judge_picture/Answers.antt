use Rattle.std.proofs.Common.{refl, []}
use Rattle.commands.specs.Draws.{IsJudgedAs}
use Rattle.commands.proofs.DrawingsEnd.{drawn-as, unread-as, picture-of-same}
use Rattle.commands.proofs.draws.judge_picture.Goals as goal

pub returns-in-Ok : goal.returns-in-Ok
returns-in-Ok g c =
    drawn-as (IsJudgedAs g.R.Receiver.meaning c.args.trace.now.events) (λ line fault. ⊥) c.args.trace.now.events [] [] c.in-Ok.verdict _ _ _
    (record { is = refl; none = refl; unpacked = refl; judged = c.in-Ok.ensures.verdict })
    (picture-of-same _ c.args.trace.now.events [] [] [] c.in-Ok.verdict _ _ _ c.events.ensures.value refl c.print_picture.ensures)

pub returns-in-Err : goal.returns-in-Err
returns-in-Err g c = unread-as (IsJudgedAs g.R.Receiver.meaning c.args.trace.now.events) (λ line fault. ⊥) _ _ _ c.end_undrawn.ensures
