use Rattle.std.proofs.Common.{◌≡◌, length, ap, arith}
use Rattle.wire_values.specs.Reading.{listed, list_at}
use Rattle.wire_values.specs.Fields.{IsPlaced, placed_bytes, placed_at}
use Rattle.wire_values.proofs.FieldLaws.{placed_part}
use Rattle.wire_values.proofs.Lengths.{length-held}
use Rattle.wire_values.proofs.Loops.{whole_text, whole_count}
use Rattle.wire_values.proofs.entries.held_text.Goals as goal

pub returns-clause-text : goal.returns-clause-text
returns-clause-text c = (whole_text placed_at placed_bytes IsPlaced placed_part c.args.count c.args.bytes.now (λ i. omega (arith, c.type_inv.bytes i)) c.requires).0

pub returns-clause-fits : goal.returns-clause-fits
returns-clause-fits c = (whole_text placed_at placed_bytes IsPlaced placed_part c.args.count c.args.bytes.now (λ i. omega (arith, c.type_inv.bytes i)) c.requires).1

pub returns-clause-short : goal.returns-clause-short
returns-clause-short c =
    let w = whole_text placed_at placed_bytes IsPlaced placed_part c.args.count c.args.bytes.now (λ i. omega (arith, c.type_inv.bytes i)) c.requires in
    let values = listed (list_at placed_at c.args.count c.args.bytes.now) in
    let count : length values ≡ c.args.count = whole_count placed_at c.args.count c.args.bytes.now c.requires in
    omega (arith, ap length w.0, length-held values w.1, c.ranges.count.fits)
