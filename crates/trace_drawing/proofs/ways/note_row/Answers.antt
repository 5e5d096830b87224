use Rattle.std.proofs.Common.{◌∙◌}
use Rattle.std.proofs.lemmas.Result.{on_ok_weaker}
use Rattle.trace_drawing.proofs.PacketsWay.{ways-left, ways-begun, ways-ended}
use Rattle.trace_drawing.proofs.ways.note_row.Goals as goal

-- a refusal has no way
pub returns-in-Refused : goal.returns-in-Refused
returns-in-Refused c = λ rows at was. ways-left _ _ rows c.args.row.now _ _ c.in-Refused.is was

-- a packet is put out
pub returns-in-PutOut : goal.returns-in-PutOut
returns-in-PutOut c = on_ok_weaker c.put.result (λ is rows at was. ways-begun _ _ _ rows c.args.row.now _ _ c.in-PutOut.is (c.in-Ok.ensures.1 ∙ at) is was) c.put.ensures

-- a packet is handed over
pub returns-in-HandedOver : goal.returns-in-HandedOver
returns-in-HandedOver c = on_ok_weaker c.put-in-HandedOver.result (λ is rows at was. ways-ended _ _ _ rows c.args.row.now _ _ c.in-HandedOver.is is was) c.put-in-HandedOver.ensures
