-- Packets of a world's pool: the bytes of one, those that come next by their numbers, and what a step put out.
use Rattle.std.proofs.Common.{◌≡◌, ℕ, zero, suc, ◌+◌, ◌-◌, Bool, true, false, Option, Some, None, Ok, List, [], ◌∷◌, ◌++◌, map, length, nat_eq, refl, sym, ap, ◌∙◌, arith}
use Rattle.std.specs.List.{slice_get}
use Rattle.std.specs.Option.{option_map}
use Rattle.std.proofs.lemmas.Bool.{cond-true, cond-false}
use Rattle.std.proofs.lemmas.Option.{none-some}
use Rattle.wire.specs.Packets.{IsPacket, spelling, packet_of}
use Rattle.wire.proofs.OneSpelling.{spelled_read}
use Rattle.trace_props.specs.declared.event.Event.{Event}
use Rattle.trace_props.proofs.RulesAlongLists.{slice_get-before}
use Rattle.wire_values.specs.Posted.{Posted}
use Rattle.law_acts.proofs.Lists.{slice_get-right}
use Rattle.step_output.specs.declared.output.Output.{Output}
use Rattle.step_output.specs.Outputs.{Puts, Grows, packet_in, spelled}
use Rattle.world_model.specs.Packets.{world_group, packet_numbered, destination_of}
use Rattle.world.specs.NodeStates.{bytes_of}
use Rattle.world.proofs.FirstForAddress.{numbered-at}
use Rattle.law_processes.proofs.PostsAreSpelled.{bytes_for}

-- ---- a packet of the world

-- the bytes of a packet, as the world's members spell it
abbrev pub bytes_as : Posted → List ℕ
bytes_as m = spelling (packet_in world_group m)

abbrev pub IsSound : Posted → Type 0
IsSound m = IsPacket (packet_in world_group m)

pub reads-back : (m : Posted) → IsSound m → packet_of (bytes_as m) ≡ Ok (packet_in world_group m)
reads-back m sound = spelled_read (bytes_as m) (packet_in world_group m) (sound, refl)

pub goes-to : (m : Posted) → IsSound m → destination_of (bytes_as m) ≡ Some m.destination
goes-to m sound = rw (reads-back m sound) refl

-- all that was put out and happened
module _ (start out : Output) (nothing : Puts [] [] start) (posted : List Posted) (happened : List Event) (x : Grows world_group start out posted happened) where
  pub put-out : map bytes_of out.packets.items ≡ bytes_for world_group posted
  put-out = ap (map bytes_of) (x.packets ∙ ap (λ (l : List _). l ++ map (spelled world_group) posted) nothing.packets)

  pub happens : out.events.items ≡ happened
  happens = x.events ∙ ap (λ (l : List Event). l ++ happened) nothing.events

-- ---- packets by their numbers

-- these packets are the next past so many
abbrev pub AreNext : ℕ → List Posted → List (List ℕ) → Type 0
AreNext past posted pool = (j : ℕ) (m : Posted) → slice_get posted j ≡ Some m → packet_numbered (past + 1 + j) pool ≡ Some (bytes_as m)

pub put-next : (pool : List (List ℕ)) (posted : List Posted) → AreNext (length pool) posted (pool ++ bytes_for world_group posted)
put-next pool posted j m at =
    let e : length pool + 1 + j ≡ length pool + j + 1 = omega arith in
    ap (λ (k : ℕ). packet_numbered k (pool ++ bytes_for world_group posted)) e ∙ numbered-at (length pool + j) (pool ++ bytes_for world_group posted)
    ∙ slice_get-right pool (bytes_for world_group posted) j ∙ by posted j at
  where
    by : (l : List Posted) (i : ℕ) → slice_get l i ≡ Some m → slice_get (bytes_for world_group l) i ≡ Some (bytes_as m)
    by [] i e = absurd (none-some m e)
    by (x ∷ l) zero e = ap (λ (o : Option Posted). option_map bytes_as o) e
    by (x ∷ l) (suc i) e = by l i e

stays-by : (k : ℕ) (pool more : List (List ℕ)) (bytes : List ℕ) (b : Bool) → nat_eq k 0 ≡ b → packet_numbered k pool ≡ Some bytes → packet_numbered k (pool ++ more) ≡ Some bytes
stays-by k pool more bytes true zero_is at = absurd (none-some bytes (sym (cond-true (nat_eq k 0) None (slice_get pool (k - 1)) zero_is) ∙ at))
stays-by k pool more bytes false some at =
    cond-false (nat_eq k 0) None (slice_get (pool ++ more) (k - 1)) some
    ∙ slice_get-before pool more (k - 1) bytes (sym (cond-false (nat_eq k 0) None (slice_get pool (k - 1)) some) ∙ at)

pub number-stays : (k : ℕ) (pool more : List (List ℕ)) (bytes : List ℕ) → packet_numbered k pool ≡ Some bytes → packet_numbered k (pool ++ more) ≡ Some bytes
number-stays k pool more bytes at = stays-by k pool more bytes (nat_eq k 0) refl at

-- the rest of them, past one more
pub next-rest : (past : ℕ) (m : Posted) (posted : List Posted) (pool more : List (List ℕ)) → AreNext past (m ∷ posted) pool → AreNext (past + 1) posted (pool ++ more)
next-rest past m posted pool more each j x at =
    let e : past + 1 + 1 + j ≡ past + 1 + suc j = omega arith in
    ap (λ (k : ℕ). packet_numbered k (pool ++ more)) e ∙ number-stays (past + 1 + suc j) pool more (bytes_as x) (each (suc j) x at)

pub next-first : (past : ℕ) (m : Posted) (posted : List Posted) (pool : List (List ℕ)) → AreNext past (m ∷ posted) pool → packet_numbered (past + 1) pool ≡ Some (bytes_as m)
next-first past m posted pool each = let e : past + 1 ≡ past + 1 + 0 = omega arith in ap (λ (k : ℕ). packet_numbered k pool) e ∙ each 0 m refl
