-- The datagrams that were put out, as packets of the group.
use Rattle.std.proofs.Common.{◌≡◌, ℕ, zero, suc, Option, Some, None, Result, Ok, Err, List, [], ◌∷◌, ◌++◌, map, refl, sym, ap, ◌∙◌, subst}
use Rattle.std.specs.List.{slice_get, cons_option, filter_map, AllByRecursion}
use Rattle.std.specs.Option.{IsSomeAnd}
use Rattle.std.proofs.lemmas.Option.{none-some, same_Some}
use Rattle.std.proofs.lemmas.List.Elements.{filter_map-append}
use Rattle.wire_values.specs.declared.error.WireError.{WireError}
use Rattle.wire_values.specs.declared.packet.Packet.{Packet}
use Rattle.wire_values.specs.Posted.{Posted}
use Rattle.wire.specs.Packets.{IsPacket, spelling, packet_of}
use Rattle.wire.proofs.OneSpelling.{spelled_read}
use Rattle.step_output.specs.Outputs.{packet_in, spelled}
use Rattle.law_processes.specs.Deployments.{bytes_of}

-- what some bytes are read as
abbrev pub posted_in : Result Packet WireError → Option Posted
posted_in (Ok m) = Some (record { source = m.source; destination = m.destination; body = m.body })
posted_in (Err e) = None

abbrev pub read_as : List ℕ → Option Posted
read_as bytes = posted_in (packet_of bytes)

abbrev pub posts_in : List (List ℕ) → List Posted
posts_in offered = filter_map read_as offered

module _ (group : List ℕ) where
  -- each datagram that was put out spells a packet of the group
  abbrev pub IsSpelled : List ℕ → Type 0
  IsSpelled bytes = IsSomeAnd (read_as bytes) (λ m. packet_of bytes ≡ Ok (packet_in group m))

  abbrev pub EachSpelled : List (List ℕ) → Type 0
  EachSpelled offered = (k : ℕ) (bytes : List ℕ) → slice_get offered k ≡ Some bytes → IsSpelled bytes

  -- some bytes that are read, as what
  pub record IsRead (bytes : List ℕ) : Type 0 where
    pub post : Posted
    pub read : read_as bytes ≡ Some post
    pub packet : packet_of bytes ≡ Ok (packet_in group post)

  read-by : (bytes : List ℕ) (o : Option Posted) → read_as bytes ≡ o → IsSomeAnd o (λ m. packet_of bytes ≡ Ok (packet_in group m)) → IsRead bytes
  read-by bytes None e s = absurd s
  read-by bytes (Some m) e s = record { post = m; read = e; packet = s }

  pub is-read : (bytes : List ℕ) → IsSpelled bytes → IsRead bytes
  is-read bytes s = read-by bytes (read_as bytes) refl s

  front : (bytes : List ℕ) (offered : List (List ℕ)) (r : IsRead bytes) → posts_in (bytes ∷ offered) ≡ r.post ∷ posts_in offered
  front bytes offered r = ap (λ (o : Option Posted). cons_option o (posts_in offered)) r.read

  -- a packet stands among the others as its bytes stand among those that were put out
  pub post-at : (offered : List (List ℕ)) (k : ℕ) (bytes : List ℕ) → EachSpelled offered → slice_get offered k ≡ Some bytes → slice_get (posts_in offered) k ≡ read_as bytes
  post-at [] k bytes each at = absurd (none-some bytes at)
  post-at (b ∷ offered) zero bytes each at =
      let r = is-read b (each zero b refl) in
      ap (λ (l : List Posted). slice_get l zero) (front b offered r) ∙ sym r.read ∙ ap read_as (same_Some b bytes at)
  post-at (b ∷ offered) (suc k) bytes each at =
      let r = is-read b (each zero b refl) in
      ap (λ (l : List Posted). slice_get l (suc k)) (front b offered r) ∙ post-at offered k bytes (λ j x there. each (suc j) x there) at

  -- ---- packets that are put out

  abbrev pub bytes_for : List Posted → List (List ℕ)
  bytes_for posted = map bytes_of (map (spelled group) posted)

  abbrev pub EachSound : List Posted → Type 0
  EachSound posted = AllByRecursion (λ m. IsPacket (packet_in group m)) posted

  spelling-read : (m : Posted) → IsPacket (packet_in group m) → packet_of (spelling (packet_in group m)) ≡ Ok (packet_in group m)
  spelling-read m sound = spelled_read (spelling (packet_in group m)) (packet_in group m) (sound, refl)

  post-read : (m : Posted) → IsPacket (packet_in group m) → read_as (spelling (packet_in group m)) ≡ Some m
  post-read m sound = ap posted_in (spelling-read m sound)

  -- they are read back
  posts-back : (posted : List Posted) → EachSound posted → posts_in (bytes_for posted) ≡ posted
  posts-back [] sound = refl
  posts-back (m ∷ posted) sound =
      ap (λ (o : Option Posted). cons_option o (posts_in (bytes_for posted))) (post-read m sound.0) ∙ ap (λ (l : List Posted). m ∷ l) (posts-back posted sound.1)

  pub posts-more : (offered : List (List ℕ)) (posted : List Posted) → EachSound posted → posts_in (offered ++ bytes_for posted) ≡ posts_in offered ++ posted
  posts-more offered posted sound = filter_map-append read_as offered (bytes_for posted) ∙ ap (λ (l : List Posted). posts_in offered ++ l) (posts-back posted sound)

  one-spelled : (m : Posted) → IsPacket (packet_in group m) → IsSpelled (spelling (packet_in group m))
  one-spelled m sound = rw (post-read m sound) (spelling-read m sound)

  pub posted-spelled : (posted : List Posted) → EachSound posted → EachSpelled (bytes_for posted)
  posted-spelled [] sound k bytes at = absurd (none-some bytes at)
  posted-spelled (m ∷ posted) sound zero bytes at = subst IsSpelled (same_Some (spelling (packet_in group m)) bytes at) (one-spelled m sound.0)
  posted-spelled (m ∷ posted) sound (suc k) bytes at = posted-spelled posted sound.1 k bytes at

  pub spelled-more : (offered more : List (List ℕ)) → EachSpelled offered → EachSpelled more → EachSpelled (offered ++ more)
  spelled-more [] more each others k bytes at = others k bytes at
  spelled-more (b ∷ offered) more each others zero bytes at = each zero bytes at
  spelled-more (b ∷ offered) more each others (suc k) bytes at = spelled-more offered more (λ j x there. each (suc j) x there) others k bytes at
