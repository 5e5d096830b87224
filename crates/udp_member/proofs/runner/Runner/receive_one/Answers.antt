use Rattle.std.proofs.Common.{◌∙◌, refl, rules}
use Rattle.std.proofs.lemmas.List.{with_items_is}
use Rattle.std.proofs.lemmas.Result.{err_from_is_err_and}
use Rattle.udp_member.proofs.RoundsCompose.{heard}
use Rattle.udp_member.proofs.runner.Runner.receive_one.Goals as goal

pub returns-in_err-hand_in-in-Ok-Some : goal.returns-in_err-hand_in-in-Ok-Some
returns-in_err-hand_in-in-Ok-Some g c =
    let p = err_from_is_err_and c.from_residual.result c.from_residual.ensures.1 in
    let whole = c.as_slice.ensures.value ∙ with_items_is c.self.inside.buffer c.receive.new.buffer (c.receive.auto.buffer ∙ c.as_mut_slice.ensures.len) in
    rw (p.1, p.2, ← c.self.view_is) (heard g.N.Net.log g.N.Net.failed g.R.Receiver.meaning _ _ c.receive.new.buffer c.as_slice.result.now c.in-Ok-Some.field-0 c.in-Ok-Some.count _ c.in-Ok-Some.field-0-is whole c.in-Ok-Some.ensures.lists c.in-Ok-Some.ensures.failed c.in_err-hand_in-in-Ok-Some.ensures refl)

pub returns-in_ok-hand_in-in-Ok-Some : goal.returns-in_ok-hand_in-in-Ok-Some
returns-in_ok-hand_in-in-Ok-Some g c =
    let whole = c.as_slice.ensures.value ∙ with_items_is c.self.inside.buffer c.receive.new.buffer (c.receive.auto.buffer ∙ c.as_mut_slice.ensures.len) in
    rw (← c.self.view_is) (heard g.N.Net.log g.N.Net.failed g.R.Receiver.meaning _ _ c.receive.new.buffer c.as_slice.result.now c.in-Ok-Some.field-0 c.in-Ok-Some.count _ c.in-Ok-Some.field-0-is whole c.in-Ok-Some.ensures.lists c.in-Ok-Some.ensures.failed c.in_ok-hand_in-in-Ok-Some.ensures refl)

pub returns-in-Err-Receive : goal.returns-in-Err-Receive
returns-in-Err-Receive g c = search rules
