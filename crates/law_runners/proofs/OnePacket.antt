-- Pieces that are given as one packet are of one packet that was sent.
use Rattle.std.proofs.Common.{◌≡◌, ◌<◌, ◌*◌, ℕ, zero, suc, true, false, List, [], ◌∷◌, length, take, drop, refl, sym, ap, ◌∙◌, subst, inl, inr, Option, Some, None, arith}
use Rattle.std.specs.Prelude.{slice_get, filter_map, ◌⊎◌}
use Rattle.std.specs.List.{AllByRecursion}
use Rattle.std.proofs.lemmas.Option.{none-some, same_Some}
use Rattle.address.specs.Ids.{Address}
use Rattle.state_transfer.specs.Meanings.{Meaning}
use Rattle.trace_props.proofs.RulesAlongLists.{slice_get-take}
use Rattle.udp_net.specs.declared.net.Received.TheVariants as received
use Rattle.udp_net.specs.Logs.{Log, NetEvent, Answered}
use Rattle.wire_values.specs.Reading.{bytes_at, number_at}
use Rattle.wire.specs.Packets.{front_at, packet_at, packet_of}
use Rattle.frames.specs.Frames.{sealed}
use Rattle.frames.specs.Arrivals.{Arrived, ArrivedWhole, ArrivedPiece, PiecesCame, is_whole, joined}
use Rattle.frames.specs.Carried.{Carries, count_of}
use Rattle.frames.specs.Partials.{PieceModel}
use Rattle.frames.specs.declared.outlet.Seal.{Seal}
use Rattle.frames.specs.Lives.{LivesAreOfFrames}
use Rattle.frames.proofs.ReadAsPut.{packed_once}
use Rattle.frames.proofs.ReadAsCarried.{AreCut, pieces-join, whole-reads, piece-reads, piece-kind}
use Rattle.law_processes.specs.Deployments.{MayCome, WasPutOut, is_of}
use Rattle.law_runners.specs.Items.{net_events}
use Rattle.law_runners.specs.Merged.{IsCarried, RunnersAreSynchronous, all_offered, items_of}
use Rattle.law_runners.specs.Sealed.{Acted, Below, Put, AreSealed, SealedAreMerged, SealedAreSynchronous, done_in, sides}
use Rattle.law_runners.proofs.NetsOfFrames.{Gave, Sent, IsNetOfFrames, carries-as, net-of-frames}
use Rattle.law_runners.proofs.OrderAbove.{stands-at, event_of, above-are, given-by, sent-above, within-take, at-take}

all-at : (A : Type 0) (Holds : A → Type 0) (xs : List A) (k : ℕ) (x : A) → slice_get xs k ≡ Some x → AllByRecursion Holds xs → Holds x
all-at A Holds [] k x at all = absurd (none-some x at)
all-at A Holds (y ∷ xs) zero x at all = subst Holds (same_Some y x at) all.0
all-at A Holds (y ∷ xs) (suc k) x at all = all-at A Holds xs k x at all.1

-- what is known of the nets of frames, and of the nets below
record Carry {S : Type 0} (key : List ℕ) (boots : Address → List ℕ) (longs : Address → ℕ → ℕ → List ℕ) (all : List (Acted S)) : Type 0 where
  nets : (p : Address) → IsNetOfFrames key (boots p) (longs p) all p
  boots_differ : (p q : Address) → boots p ≡ boots q → p ≡ q
  unforged : (k : ℕ) (p : Address) (frame body : List ℕ) → slice_get all k ≡ Some (record { by = p; deed = Below (Answered (received.Datagram frame)) }) → frame ≡ sealed key body
      → (q : Address) × Put (take k all) q frame

module _ {S : Type 0} (group key : List ℕ) (boots : Address → List ℕ) (longs : Address → ℕ → ℕ → List ℕ) (all : List (Acted S)) (s : Carry key boots longs all) where
  -- ---- where a frame came from

  record Origin (place : ℕ) (frame : List ℕ) : Type 0 where
    by : Address
    carries : Carries key (boots by) (longs by) (Sent (take place all) by) frame

  sent-before : (i place : ℕ) (q : Address) → i < place → (packet : List ℕ) → Sent (take i all) q packet → Sent (take place all) q packet
  sent-before i place q lt packet sent =
      (sent.0, (sent.1.0, at-take place all sent.1.0 _ (omega (arith, lt, within-take i all sent.1.0 _ sent.1.1)) (slice_get-take i all sent.1.0 _ sent.1.1)))

  origin : (place : ℕ) (p : Address) (frame body : List ℕ) → Gave (take place all) p frame → frame ≡ sealed key body → Origin place frame
  origin place p frame body gave seal =
      let j : ℕ = gave.0 in
      let from = s.unforged j p frame body (slice_get-take place all j _ gave.1) seal in
      let q : Address = from.0 in
      let i : ℕ = from.1.1.0 in
      let before : i < place = omega (arith, within-take place all j _ gave.1, within-take j all i _ from.1.1.1) in
      let carries = (s.nets q).offers i from.1.0 frame (slice_get-take j all i _ from.1.1.1) in
      record { by = q; carries = carries-as key (boots q) (longs q) (Sent (take i all) q) (Sent (take place all) q) frame (sent-before i place q before) carries }

  -- ---- a packet that came whole

  abbrev IsSent : ℕ → List ℕ → Type 0
  IsSent place packet = (q : Address) × Sent (take place all) q packet

  whole-by : (place : ℕ) (p : Address) (packet : List ℕ) (x : ArrivedWhole (Gave (take place all) p) key p.node packet) (q : Address)
      → Carries key (boots q) (longs q) (Sent (take place all) q) x.frame → IsSent place packet
  whole-by place p packet x q (inl w) =
      let reads = whole-reads key (boots q) p.node (Sent (take place all) q) x.frame x.head x.content (s.nets q).boot_long x.opens w in
      let put = reads.packed in
      let same : x.packets ≡ put.packets = packed_once x.packets put.packets x.short put.short (sym x.packed_is ∙ put.content_is) in
      (q, all-at (List ℕ) (Sent (take place all) q) put.packets x.among.0 packet (ap (λ (ps : List (List ℕ)). slice_get ps x.among.0) (sym same) ∙ x.among.1) put.sent)
  whole-by place p packet x q (inr w) =
      absurd (x.kind (piece-kind key (boots q) p.node (Sent (take place all) q) x.frame x.head x.content (s.nets q).boot_long x.opens (longs q) w))

  -- ---- pieces

  record IsPieceOf (place : ℕ) (p : Address) (boot : List ℕ) (number count index : ℕ) (bytes : List ℕ) : Type 0 where
    by : Address
    boot_is : boots by ≡ boot
    count_is : count ≡ count_of (longs by p.node number)
    bytes_are : bytes ≡ take 1344 (drop (1344 * index) (longs by p.node number))
    sent : Sent (take place all) by (longs by p.node number)

  piece-by : (place : ℕ) (p : Address) (boot : List ℕ) (number count index : ℕ) (bytes : List ℕ)
      (x : ArrivedPiece (Gave (take place all) p) key p.node boot number count index bytes) (q : Address) → Carries key (boots q) (longs q) (Sent (take place all) q) x.frame
      → IsPieceOf place p boot number count index bytes
  piece-by place p boot number count index bytes x q (inl w) =
      absurd ((whole-reads key (boots q) p.node (Sent (take place all) q) x.frame x.head x.content (s.nets q).boot_long x.opens w).kind x.kind)
  piece-by place p boot number count index bytes x q (inr w) =
      let read : PieceModel = record { number = number; index = index; count = count; bytes = bytes } in
      let reads = piece-reads key (boots q) p.node (Sent (take place all) q) x.frame x.head x.content (s.nets q).boot_long x.opens (longs q) w read x.piece in
      record { by = q; boot_is = sym reads.boot_is ∙ x.boot_is; count_is = reads.count; bytes_are = reads.bytes; sent = reads.sent }

  piece-is : (place : ℕ) (p : Address) (boot : List ℕ) (number count index : ℕ) (bytes : List ℕ)
      → ArrivedPiece (Gave (take place all) p) key p.node boot number count index bytes → IsPieceOf place p boot number count index bytes
  piece-is place p boot number count index bytes x =
      let o = origin place p x.frame x.opens.sealed_is.body x.given x.opens.sealed_is.seal in
      piece-by place p boot number count index bytes x o.by o.carries

  -- pieces of one boot id and one number are of one packet
  cut-of : (place : ℕ) (p q : Address) (boot : List ℕ) (number count index : ℕ) (pieces : List (Option (List ℕ))) → boots q ≡ boot
      → PiecesCame (Gave (take place all) p) key p.node boot number count index pieces → AreCut (longs q p.node number) index pieces
  cut-of place p q boot number count index [] b came = tt
  cut-of place p q boot number count index (None ∷ pieces) b came = cut-of place p q boot number count (suc index) pieces b came.1
  cut-of place p q boot number count index (Some bytes ∷ pieces) b came =
      let piece = piece-is place p boot number count index bytes came.0 in
      let same : piece.by ≡ q = s.boots_differ piece.by q (piece.boot_is ∙ sym b) in
      (piece.bytes_are ∙ ap (λ (a : Address). take 1344 (drop (1344 * index) (longs a p.node number))) same, cut-of place p q boot number count (suc index) pieces b came.1)

  in-pieces : (place : ℕ) (p : Address) (packet boot : List ℕ) (number : ℕ) (pieces : List (Option (List ℕ)))
      → PiecesCame (Gave (take place all) p) key p.node boot number (length pieces) 0 pieces → is_whole pieces ≡ true → packet ≡ joined pieces → (packet ≡ []) ⊎ IsSent place packet
  in-pieces place p packet boot number [] came whole e = inl e
  in-pieces place p packet boot number (None ∷ pieces) came whole e = absurd (let bad : false ≡ true = whole in cc)
  in-pieces place p packet boot number (Some bytes ∷ pieces) came whole e =
      let first = piece-is place p boot number (length (Some bytes ∷ pieces)) 0 bytes came.0 in
      let cut = cut-of place p first.by boot number (length (Some bytes ∷ pieces)) 0 (Some bytes ∷ pieces) first.boot_is came in
      let is : packet ≡ longs first.by p.node number = e ∙ pieces-join (longs first.by p.node number) (Some bytes ∷ pieces) cut whole first.count_is in
      inr (first.by, subst (Sent (take place all) first.by) (sym is) first.sent)

  -- ---- what nets of frames give

  was-sent : (place : ℕ) (p : Address) (packet : List ℕ) → Arrived (Gave (take place all) p) key p.node packet → (packet ≡ []) ⊎ IsSent place packet
  was-sent place p packet (inl x) =
      let o = origin place p x.frame x.opens.sealed_is.body x.given x.opens.sealed_is.seal in
      inr (whole-by place p packet x o.by o.carries)
  was-sent place p packet (inr x) = in-pieces place p packet x.boot x.number x.pieces x.came x.whole x.joined_is

  or-empty : (place : ℕ) (p : Address) (packet : List ℕ) → (packet ≡ []) ⊎ Arrived (Gave (take place all) p) key p.node packet → (packet ≡ []) ⊎ IsSent place packet
  or-empty place p packet (inl e) = inl e
  or-empty place p packet (inr x) = was-sent place p packet x

  no-packet : (packet : List ℕ) → packet ≡ [] → is_of group (packet_of packet) ≡ false
  unfolding packet_of packet_at front_at number_at bytes_at
  no-packet packet e = ap (λ (b : List ℕ). is_of group (packet_of b)) e ∙ refl

  may : (place k : ℕ) (packet : List ℕ) (events : List NetEvent) → take k events ≡ filter_map event_of (take place all) → (packet ≡ []) ⊎ IsSent place packet
      → MayCome group (all_offered (take k events)) packet
  may place k packet events e (inl empty) = inr (no-packet packet empty)
  may place k packet events e (inr sent) =
      inl (subst (λ (l : List NetEvent). WasPutOut (all_offered l) packet) (sym e) (sent-above (take place all) sent.0 packet sent.1))

  carried : IsCarried group (filter_map event_of all)
  carried k bytes at =
      let x = stands-at event_of all k (Answered (received.Datagram bytes)) at in
      let given = x.at ∙ ap (λ (a : Acted S). Some a) (given-by x.x (Answered (received.Datagram bytes)) x.is) in
      may x.place k bytes (filter_map event_of all) x.before (or-empty x.place x.x.by bytes ((s.nets x.x.by).gives x.place bytes given))

  network-is : IsCarried group (net_events (items_of (done_in all)))
  network-is = subst (λ (l : List NetEvent). IsCarried group l) (sym (above-are all)) carried

-- ---- the law

carry : {S N : Type 0} (log : N → Option Log) (meaning : Meaning S) (group key : List ℕ) (seals : Address → Seal) (all : List (Acted S)) (lives : LivesAreOfFrames log)
    (s : AreSealed log meaning group key seals all) → Carry key (λ p. (seals p).boot) (λ p. (lives p.node (seals p) (s.nets p).0 (sides p all) (s.nets p).1).0) all
carry log meaning group key seals all lives s = record {
  nets = λ p.
      let life = lives p.node (seals p) (s.nets p).0 (sides p all) (s.nets p).1 in
      net-of-frames p (seals p) life.0 key all (s.keys_are p) life.1 (s.boots_long p);
  boots_differ = s.boots_differ;
  unforged = s.unforged;
}

pub merged-are : {S N : Type 0} (log : N → Option Log) (meaning : Meaning S) → LivesAreOfFrames log → SealedAreMerged log meaning
merged-are log meaning lives group key seals all s = record {
  processes = s.processes;
  network = network-is group key (λ p. (seals p).boot) (λ p. (lives p.node (seals p) (s.nets p).0 (sides p all) (s.nets p).1).0) all (carry log meaning group key seals all lives s);
  once = s.once;
}

pub sealed-are : {S N : Type 0} (log : N → Option Log) (meaning : Meaning S) → LivesAreOfFrames log → RunnersAreSynchronous meaning → SealedAreSynchronous log meaning
sealed-are log meaning lives law group key seals all s = law group (done_in all) (merged-are log meaning lives group key seals all s)
