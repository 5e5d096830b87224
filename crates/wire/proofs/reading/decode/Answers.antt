use Rattle.std.proofs.Common.{◌∙◌, arith}
use Rattle.wire.proofs.OneSpelling.{spelled_read, found_of, refused_of}
use Rattle.wire.proofs.reading.decode.Goals as goal

pub returns-clause-found : goal.returns-clause-found
returns-clause-found c = found_of c.args.bytes.now c.whole.result (λ i. omega (arith, c.type_inv.bytes i)) c.whole.ensures

pub returns-clause-only : goal.returns-clause-only
returns-clause-only c = λ p s. c.whole.ensures ∙ spelled_read c.args.bytes.now p s

pub returns-clause-refused : goal.returns-clause-refused
returns-clause-refused c = refused_of c.args.bytes.now c.whole.result c.whole.ensures
