use Rattle.std.proofs.Common.{◌<◌, get_or, length, ap, ◌∙◌, arith}
use Rattle.std.specs.Prelude.{slice_set}
use Rattle.std.proofs.lemmas.List.{get_or_default}
use Rattle.std.proofs.lemmas.List.Edits.{map_over_more}
use Rattle.tickets.specs.declared.tickets.Pending.{Pending}
use Rattle.tickets.specs.declared.tickets.Stage.TheVariants as stage
use Rattle.tickets.specs.Ledger.{moved}
use Rattle.tickets.proofs.tickets.move_each.Goals as goal

pub loop-one-preserved : goal.loop-one-preserved
loop-one-preserved c =
    let now = c.loop-one.pending in
    let i = c.loop-one.one-index in
    let any : Pending = record { ticket = 0; until = 0; stage = stage.Waiting } in
    let inside : i < length now = omega arith in
    ap (slice_set now i) c.moved.ensures
    ∙ map_over_more (moved c.args.change.now) c.args.pending.now now i (get_or now i any) c.loop-one-test.true c.loop-one.invariant (get_or_default now i any (get_or now i any) inside)
