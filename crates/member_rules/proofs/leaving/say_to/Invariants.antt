use Rattle.std.proofs.Common.{map, take, []}
use Rattle.wire_values.specs.declared.packet.Body.TheVariants as bodies
use Rattle.wire_values.specs.Posted.{packet}
use Rattle.law_acts.specs.Acts.{others_of}
use Rattle.step_output.specs.Outputs.{Grows}
use Rattle.member_rules.proofs.leaving.say_to.Given as goal

abbrev pub invariant-loop-member : goal.invariant-loop-member
invariant-loop-member l = Grows l.fn.who.group l.initial.out l.out (map (packet l.fn.who.address bodies.Leave) (others_of l.fn.who.address (take l.member-index l.member-items))) []
