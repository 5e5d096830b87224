use Rattle.std.proofs.Common.{sym, ◌∙◌}
use Rattle.wire.proofs.OneSpelling.{one_packet, none_begins, spelled_read}
use Rattle.wire.proofs.law.one_spelling.Goals as goal

pub returns-clause-packet : goal.returns-clause-packet
returns-clause-packet c = λ p q bytes s t. one_packet p q bytes s t

pub returns-clause-spelling : goal.returns-clause-spelling
returns-clause-spelling c = λ p bytes others s t. s.1 ∙ sym t.1

pub returns-clause-begins : goal.returns-clause-begins
returns-clause-begins c = λ p q bytes more s t. (none_begins p q bytes more s t).0

pub returns-clause-read : goal.returns-clause-read
returns-clause-read c = λ p bytes s. spelled_read bytes p s
