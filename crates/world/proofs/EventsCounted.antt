-- How many events are played.
use Rattle.std.proofs.Common.{◌≡◌, ℕ, zero, suc, ◌+◌, ◌≤◌, Option, None, Some, List, [], ◌∷◌, length, ap, ◌∙◌, arith}
use Rattle.std.proofs.lemmas.List.{length-append}
use Rattle.std.specs.Option.{option_map_or}
use Rattle.address.specs.Ids.{Address}
use Rattle.view.specs.Members.{View}
use Rattle.wire_values.specs.Values.{Entry, held_at}
use Rattle.wire_values.specs.declared.packet.Body.TheVariants as bodies
use Rattle.wire_values.specs.Posted.{packet}
use Rattle.state_transfer.specs.Meanings.{Meaning}
use Rattle.traffic.specs.Takes.{orders_held}
use Rattle.world_model.specs.declared.WorldEvent.{WorldEvent}
use Rattle.world_model.specs.declared.WorldEvent.TheVariants.{Deliver}
use Rattle.world_model.specs.Histories.{History}
use Rattle.world.specs.Worlds.{WorldModel}
use Rattle.world.specs.Plays.{Plays, Delivers}
use Rattle.world.specs.Plays.Delivers.{Still, Next}

module _ {S : Type 0} (meaning : Meaning S) where
  pub adds : (old new : WorldModel S) (e : WorldEvent) → Plays meaning old e new → length new.history.events ≡ length old.history.events + 1
  adds old new e p = ap (λ (h : History). length h.events) p.step.goes_on ∙ length-append old.history.events (e ∷ [])

  pub adds-all : (past k : ℕ) (old new : WorldModel S) → Delivers meaning past k old new → length new.history.events ≡ length old.history.events + k
  adds-all _ _ old _ (Still past w) = omega arith
  adds-all _ _ _ _ (Next past count old mid new p rest) =
      let a = adds old mid (Deliver (past + 1)) p in
      let b = adds-all (past + 1) count mid new rest in
      omega (arith, a, b)

-- as many ORDERs at most as are asked for
pub few-orders : (p : Address) (v : View) (q : Address) (held : List (ℕ × Entry)) (k n : ℕ) → length (orders_held p v q held k n) ≤ n
few-orders p v q held k zero = omega arith
few-orders p v q held k (suc n) =
    let rest = few-orders p v q held (k + 1) n in
    let one = at-most-one (held_at k held) in
    let e = length-append (option_map_or (λ e. packet p (bodies.Order v.id k e) q ∷ []) (held_at k held) []) (orders_held p v q held (k + 1) n) in
    omega (arith, rest, one, e)
  where
    at-most-one : (o : Option Entry) → length (option_map_or (λ e. packet p (bodies.Order v.id k e) q ∷ []) o []) ≤ 1
    at-most-one None = omega arith
    at-most-one (Some e) = omega arith
