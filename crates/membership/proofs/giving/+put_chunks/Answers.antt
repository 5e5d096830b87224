use Rattle.std.proofs.Common.{ℕ, ◌≤◌, List, [], ◌∷◌, map, sym, subst, arith}
use Rattle.std.proofs.lemmas.Result.{on_ok_weaker}
use Rattle.wire_values.specs.Values as wire
use Rattle.wire_values.specs.declared.packet.Body.TheVariants as bodies
use Rattle.wire_values.specs.Posted.{packet}
use Rattle.law_acts.specs.Given.{chunk_at}
use Rattle.step_output.specs.Outputs.{Grows}
use Rattle.step_output.proofs.GrowthAdds.{grows-then}
use Rattle.membership.proofs.Pieces.{range_next}
use Rattle.membership.proofs.giving.+put_chunks.Goals as goal

pub returns : goal.returns
returns t c =
    let group = c.args.who.now.group in
    let said = λ (chunk : wire.Chunk). packet c.args.who.now.address (bodies.State c.args.proposal chunk) c.args.member in
    let some : 1 ≤ c.args.count = omega arith in
    let first : Grows group c.args.out.now c.put.new.out (said (chunk_at c.args.state.now c.args.first) ∷ []) [] =
    subst (λ (chunk : wire.Chunk). Grows group c.args.out.now c.put.new.out (said chunk ∷ []) []) c.chunk_of-chunk.ensures c.in_ok-put.ensures in
    on_ok_weaker c.put_chunks.result (λ others. subst (λ (l : List ℕ). Grows group c.args.out.now c.put_chunks.new.out (map said (map (chunk_at c.args.state.now) l)) []) (sym (range_next c.args.first c.args.count some))
    (grows-then group c.args.out.now c.put.new.out c.put_chunks.new.out (said (chunk_at c.args.state.now c.args.first) ∷ []) _ [] [] first others)) c.put_chunks.ensures
