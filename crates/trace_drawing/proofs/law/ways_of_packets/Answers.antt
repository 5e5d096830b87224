use Rattle.trace_drawing.proofs.PacketsWay.{way-from, way-known, lost-if}
use Rattle.trace_drawing.proofs.law.ways_of_packets.Goals as goal

pub returns-clause-way : goal.returns-clause-way
returns-clause-way c = way-from

pub returns-clause-known : goal.returns-clause-known
returns-clause-known c = way-known

pub returns-clause-lost : goal.returns-clause-lost
returns-clause-lost c = lost-if
