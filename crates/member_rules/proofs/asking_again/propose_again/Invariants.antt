use Rattle.std.proofs.Common.{map, take, [], not}
use Rattle.std.specs.Prelude.{filter}
use Rattle.wire_values.specs.declared.packet.Body.TheVariants as bodies
use Rattle.wire_values.specs.Posted.{packet}
use Rattle.flush.specs.Flushes.{has_reported}
use Rattle.law_acts.specs.Acts.{proposed}
use Rattle.step_output.specs.Outputs.{Grows}
use Rattle.member_rules.proofs.asking_again.propose_again.Given as goal

abbrev pub invariant-loop-member : goal.invariant-loop-member
invariant-loop-member l =
    Grows l.fn.who.group l.initial.out l.out (map (packet l.fn.who.address (bodies.Flush (proposed l.fn.flush))) (filter (λ m. not (has_reported m l.fn.flush.reports)) (take l.member-index l.member-items))) []
