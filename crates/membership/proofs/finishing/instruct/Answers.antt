use Rattle.std.proofs.Common.{[], ◌∷◌, subst}
use Rattle.std.specs.Prelude.{unwrap_or}
use Rattle.std.proofs.lemmas.Result.{on_ok_weaker}
use Rattle.wire_values.specs.Values as wire
use Rattle.wire_values.specs.declared.packet.Body.TheVariants as bodies
use Rattle.wire_values.specs.Posted.{packet}
use Rattle.law_acts.specs.Acts.{chunk_packets}
use Rattle.step_output.specs.Outputs.{Grows}
use Rattle.step_output.proofs.GrowthAdds.{grows-then}
use Rattle.membership.specs.Installs.{instruction_to}
use Rattle.membership.proofs.finishing.instruct.Goals as goal

pub returns-clause-out : goal.returns-clause-out
returns-clause-out c =
    let group = c.args.who.now.group in
    let me = c.args.who.now.address in
    let q = c.args.member in
    let x = instruction_to c.args.flush.now c.args.view c.args.given.now q in
    on_ok_weaker c.put_install.result (λ put.
    grows-then group c.args.out.now c.put_needed.new.out c.put_install.new.out (chunk_packets me q c.args.flush.now.proposal (unwrap_or c.args.given.now []) x.state) (packet me (bodies.Install x) q ∷ []) [] []
    c.in_ok-put_needed.ensures (subst (λ (i : wire.Install). Grows group c.put_needed.new.out c.put_install.new.out (packet me (bodies.Install i) q ∷ []) []) c.instruction-install.ensures put)) c.put_install.ensures.out

pub returns-clause-sent : goal.returns-clause-sent
returns-clause-sent c = on_ok_weaker c.put_install.result (λ put. rw c.instruction-install.ensures at put) c.put_install.ensures.sent
