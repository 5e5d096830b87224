-- The first packet that is for an address, where the same is put out for each of a list.
use Rattle.std.proofs.Common.{◌≡◌, ℕ, zero, suc, ◌+◌, Bool, true, false, Option, Some, List, [], ◌∷◌, map, ap, ◌∙◌, subst, arith, refl}
use Rattle.std.specs.Prelude.{◌||◌}
use Rattle.std.specs.List.{slice_get, position_from, AllByRecursion}
use Rattle.std.specs.Option.{option_map_or}
use Rattle.std.proofs.lemmas.Bool.{cond-true, cond-false}
use Rattle.std.proofs.lemmas.Option.{none-some, same_Some}
use Rattle.address.specs.Ids.{Address, same_address}
use Rattle.address.proofs.SameIds.{same_address-true, same_address-sym}
use Rattle.view.specs.Members.{stands_in}
use Rattle.wire_values.specs.declared.packet.Body.{Body}
use Rattle.wire_values.specs.Posted.{Posted, packet}
use Rattle.world_model.specs.Packets.{world_group}
use Rattle.world.specs.Pools.{is_destined}
use Rattle.world.proofs.PoolPackets.{bytes_as, goes-to}
use Rattle.law_processes.proofs.PostsAreSpelled.{EachSound, bytes_for}

pub record FirstFor (q : Address) (m : Posted) (start : ℕ) (posted : List Posted) : Type 0 where
  pub place : ℕ
  pub found : position_from (is_destined q) start (bytes_for world_group posted) ≡ Some (start + place)
  pub there : slice_get posted place ≡ Some m

right-of : (a b : Bool) → a ≡ false → (a || b) ≡ true → b ≡ true
right-of true b e x = absurd (let bad : true ≡ false = e in cc)
right-of false b e x = x

pub first-found : (c q : Address) (b : Body) (list : List Address) (start : ℕ) → EachSound world_group (map (packet c b) list) → stands_in q list ≡ true
    → FirstFor q (packet c b q) start (map (packet c b) list)
first-found c q b [] start sound there = absurd (let bad : false ≡ true = there in cc)
first-found c q b (x ∷ list) start sound there = by (same_address x q) refl (first-found c q b list (start + 1) sound.1)
  where
    tested : is_destined q (bytes_as (packet c b x)) ≡ same_address x q
    tested = ap (λ (o : Option Address). option_map_or (λ z. same_address z q) o false) (goes-to (packet c b x) sound.0)

    by : (z : Bool) → same_address x q ≡ z → (stands_in q list ≡ true → FirstFor q (packet c b q) (start + 1) (map (packet c b) list)) → FirstFor q (packet c b q) start (map (packet c b) (x ∷ list))
    by true e more =
        let is : x ≡ q = same_address-true x q e in
        record {
          place = 0;
          found = cond-true (is_destined q (bytes_as (packet c b x))) _ _ (tested ∙ e) ∙ (let n : start ≡ start + 0 = omega arith in ap (λ (k : ℕ). Some k) n);
          there = ap (λ (y : Address). Some (packet c b y)) is;
        }
    by false e more =
        let other : same_address q x ≡ false = same_address-sym q x ∙ e in
        let later : stands_in q list ≡ true = right-of (same_address q x) (stands_in q list) other there in
        let r = more later in
        record {
          place = suc r.place;
          found = cond-false (is_destined q (bytes_as (packet c b x))) _ _ (tested ∙ e) ∙ r.found ∙ (let n : start + 1 + r.place ≡ start + suc r.place = omega arith in ap (λ (k : ℕ). Some k) n);
          there = r.there;
        }

-- what holds of each holds of the one at a place
pub each-at : (P : Posted → Type 0) (posted : List Posted) (j : ℕ) (m : Posted) → AllByRecursion P posted → slice_get posted j ≡ Some m → P m
each-at P [] j m all at = absurd (none-some m at)
each-at P (x ∷ posted) zero m all at = subst P (same_Some x m at) all.0
each-at P (x ∷ posted) (suc j) m all at = each-at P posted j m all.1 at
