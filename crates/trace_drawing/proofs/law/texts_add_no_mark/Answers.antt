use Rattle.trace_drawing.proofs.LawOfTexts.{label-plain, title-plain, packet-plain, kind-plain, words-plain}
use Rattle.trace_drawing.proofs.law.texts_add_no_mark.Goals as goal

pub returns-clause-label : goal.returns-clause-label
returns-clause-label c = label-plain

pub returns-clause-title : goal.returns-clause-title
returns-clause-title c = title-plain

pub returns-clause-packet : goal.returns-clause-packet
returns-clause-packet c = packet-plain

pub returns-clause-kind : goal.returns-clause-kind
returns-clause-kind c = kind-plain

pub returns-clause-words : goal.returns-clause-words
returns-clause-words c = words-plain
