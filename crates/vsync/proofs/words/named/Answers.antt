use Rattle.std.proofs.Common.{◌∙◌, sym}
use Rattle.vsync.proofs.words.named.Goals as goal

pub returns-in-check : goal.returns-in-check
returns-in-check c = rw c.in-check.is (c.processes_command.ensures (sym c.stands.ensures ∙ c.if-stands.true))

pub returns-in-udp : goal.returns-in-udp
returns-in-udp c = rw c.in-udp.is c.udp_command.ensures

pub returns-in-member : goal.returns-in-member
returns-in-member c = rw c.in-member.is c.member_command.ensures

pub returns-in-explain : goal.returns-in-explain
returns-in-explain c = rw c.in-explain.is c.explain_command.ensures
