-- To whom the packets of the pool go, as it is kept beside them.
use Rattle.std.proofs.Common.{◌≡◌, ℕ, ◌<◌, ◌≤◌, Option, Some, None, List, map, length, refl, sym, ap, ◌∙◌}
use Rattle.std.specs.List.{slice_get, HoldsAt}
use Rattle.std.specs.Borrow.{Bor}
use Rattle.std.specs.Option.{MatchOption, option_copied, option_map, option_and_then}
use Rattle.std.proofs.lemmas.Option.{none-some, same_Some, slice_get-map, slice_get_past, slice_get_read}
use Rattle.address.specs.Ids.{Address}
use Rattle.world_model.specs.Packets.{destination_of}

-- each packet says what is kept of it
abbrev pub AreKept : List (List ℕ) → List Address → Type 0
AreKept packets kept = map destination_of packets ≡ map (λ (d : Address). Some d) kept

-- so what is kept of one is what it says
pub destination-at : (packets : List (List ℕ)) (kept : List Address) (k : ℕ) → AreKept packets kept → slice_get kept k ≡ option_and_then destination_of (slice_get packets k)
destination-at packets kept k e =
    by (slice_get packets k) (slice_get kept k) (sym (slice_get-map destination_of packets k) ∙ ap (λ (l : List (Option Address)). slice_get l k) e ∙ slice_get-map (λ (d : Address). Some d) kept k)
  where
    by : (o : Option (List ℕ)) (d : Option Address) → option_map destination_of o ≡ option_map (λ (x : Address). Some x) d → d ≡ option_and_then destination_of o
    by None None e = refl
    by None (Some d) e = absurd (none-some (Some d) e)
    by (Some bytes) None e = absurd (none-some (destination_of bytes) (sym e))
    by (Some bytes) (Some d) e = sym (same_Some (destination_of bytes) (Some d) e)

-- what a look-up found at a place
pub found-at : {X : Type 0} (r : Option (Bor X)) (xs : List X) (i : ℕ) → MatchOption r (length xs ≤ i) (λ x. (i < length xs) × HoldsAt (λ y. x.now ≡ y) xs i) → option_copied r ≡ slice_get xs i
found-at None xs i p = sym (slice_get_past xs i p)
found-at (Some x) xs i p = sym (slice_get_read xs (length xs) i x.now refl p.0 (p.1 x.now))
