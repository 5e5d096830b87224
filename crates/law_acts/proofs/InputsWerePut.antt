-- What a member is handed is a packet of the pool, from another, and what holds of the pool's packets holds of it.
use Rattle.std.proofs.Common.{◌≡◌, ℕ, false, ◌&&◌, not, Option, Some, None, List, refl, sym, ap, ◌∙◌}
use Rattle.std.specs.Prelude.{slice_get}
use Rattle.std.specs.Option.{option_and_then}
use Rattle.std.proofs.lemmas.Bool.{and_parts, not-true}
use Rattle.std.proofs.lemmas.Option.{none-some, cond_some}
use Rattle.address.specs.Ids.{Address, same_address}
use Rattle.wire_values.specs.declared.packet.Body.{Body}
use Rattle.wire_values.specs.Posted.{Posted, packet}
use Rattle.law_acts.specs.Histories.{History}
use Rattle.law_acts.specs.Cores.{Core}
use Rattle.law_acts.specs.Acts.{handed}
use Rattle.law_acts.specs.Steps.{came_of}
use Rattle.law_acts.specs.Packets.{BodyFact}
use Rattle.law_acts.specs.Invariant.{EachPacket}

pub record ComesFrom {S : Type 0} (c : Core S) (pool : List Posted) (m : Posted) : Type 0 where
  pub place : ℕ
  pub stands : slice_get pool place ≡ Some m
  pub other : same_address m.source c.me ≡ false

handed-by : {S : Type 0} (c : Core S) (pool : List Posted) (n : ℕ) (o : Option Posted) (m : Posted) → slice_get pool n ≡ o → option_and_then (handed c) o ≡ Some m → ComesFrom c pool m
handed-by c pool n None m at e = absurd (none-some m e)
handed-by c pool n (Some x) m at e =
    let y = cond_some (c.connected && same_address x.destination c.me && not (same_address x.source c.me)) x m e in
    let outer = and_parts (c.connected && same_address x.destination c.me) (not (same_address x.source c.me)) y.0 in
    record {
      place = n;
      stands = at ∙ ap Some y.1;
      other = ap (λ (z : Posted). same_address z.source c.me) (sym y.1) ∙ not-true (same_address x.source c.me) outer.1;
    }

pub came-from : {S : Type 0} (c : Core S) (pool : List Posted) (which : Option ℕ) (m : Posted) → came_of c pool which ≡ Some m → ComesFrom c pool m
came-from c pool None m e = absurd (none-some m e)
came-from c pool (Some n) m e = handed-by c pool n (slice_get pool n) m refl e

-- what another says to a member
pub record Said {S : Type 0} (h : History) (c : Core S) (q : Address) (b : Body) : Type 0 where
  pub fact : BodyFact h q c.me b
  pub other : same_address q c.me ≡ false

pub said-of : {S : Type 0} (h : History) (c : Core S) (which : Option ℕ) (q : Address) (b : Body) → EachPacket h → came_of c h.pool which ≡ Some (packet q b c.me) → Said h c q b
said-of h c which q b each e = let x = came-from c h.pool which (packet q b c.me) e in record { fact = each x.place (packet q b c.me) x.stands; other = x.other }
