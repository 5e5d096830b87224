-- What is read of a frame is what it carries.
use Rattle.std.proofs.Common.{◌≡◌, ◌≢◌, ◌<◌, ◌+◌, ◌*◌, ◌%◌, ◌^◌, ℕ, suc, true, false, List, [], ◌∷◌, ◌++◌, length, take, drop, refl, sym, ap, ◌∙◌, subst, append_assoc, Option, Some, None, arith}
use Rattle.std.specs.Prelude.{get_or}
use Rattle.std.proofs.Math.Seq.{drop-append_seam, drop-drop, take-append_seam, take-add}
use Rattle.std.proofs.lemmas.List.{take_all}
use Rattle.byteorder.specs.Endian.{big_bytes, big_number}
use Rattle.byteorder.specs.Numbers.{big_number-reads_back}
use Rattle.frames.specs.declared.head.Head.{Head}
use Rattle.frames.specs.declared.head.Kind.{Kind}
use Rattle.frames.specs.declared.head.Kind.TheVariants.{Packets, Piece, Several}
use Rattle.frames.specs.Frames.{head_bytes, kind_number, IsHeadOf, Opens}
use Rattle.frames.specs.Partials.{PieceModel, IsPieceIn, piece_bytes}
use Rattle.frames.specs.Parts.{IsPart}
use Rattle.frames.specs.Arrivals.{is_whole, joined}
use Rattle.frames.specs.Carried.{ArePacked, CarriesWhole, CarriesPiece, count_of, piece_at}
use Rattle.frames.proofs.ReadAsPut.{sealed_once, length-head}

-- ---- the head

same-kind : (a b : Kind) → kind_number a % 256 ≡ kind_number b → b ≡ a
same-kind Packets Packets e = refl
same-kind Packets Piece e = absurd (omega (arith, e))
same-kind Packets Several e = absurd (omega (arith, e))
same-kind Piece Packets e = absurd (omega (arith, e))
same-kind Piece Piece e = refl
same-kind Piece Several e = absurd (omega (arith, e))
same-kind Several Packets e = absurd (omega (arith, e))
same-kind Several Piece e = absurd (omega (arith, e))
same-kind Several Several e = refl

pub front-of : (n : ℕ) (b c r : List ℕ) → length b ≡ n → take n ((b ++ c) ++ r) ≡ b
front-of n b c r l =
    ap (λ (m : ℕ). take m ((b ++ c) ++ r)) (sym l) ∙ ap (take (length b)) (append_assoc b c r) ∙ take-append_seam b (c ++ r)

module _ (body : List ℕ) (put read : Head) (rest : List ℕ) (e : body ≡ head_bytes put ++ rest) (x : IsHeadOf body read) where
  pub kind-read : read.kind ≡ put.kind
  kind-read = same-kind put.kind read.kind (ap (λ (b : List ℕ). get_or b 1 0) (sym e) ∙ x.kind)

  pub boot-read : length put.boot ≡ 16 → read.boot ≡ put.boot
  boot-read l = x.boot ∙ ap (λ (b : List ℕ). take 16 (drop 4 b)) e ∙ front-of 16 put.boot (big_bytes 8 put.counter) rest l

  pub to-read : put.to < 2 ^ 16 → read.to ≡ put.to
  to-read fits = x.to ∙ ap (λ (b : List ℕ). big_number 2 (drop 2 b)) e ∙ big_number-reads_back 2 put.to ((put.boot ++ big_bytes 8 put.counter) ++ rest) fits

  pub content-read : length put.boot ≡ 16 → drop 28 body ≡ rest
  content-read l =
      ap (drop 28) e ∙ ap (λ (n : ℕ). drop n (head_bytes put ++ rest)) (sym (length-head put l)) ∙ drop-append_seam (head_bytes put) rest

-- ---- a piece

module _ (content : List ℕ) (put read : PieceModel) (e : content ≡ piece_bytes put) (x : IsPieceIn content read) where
  number-read : put.number < 2 ^ 64 → read.number ≡ put.number
  number-read fits = x.number ∙ ap (big_number 8) e ∙ big_number-reads_back 8 put.number (big_bytes 2 put.index ++ big_bytes 2 put.count ++ put.bytes) fits

  index-read : put.index < 2 ^ 16 → read.index ≡ put.index
  index-read fits = x.index ∙ ap (λ (c : List ℕ). big_number 2 (drop 8 c)) e ∙ big_number-reads_back 2 put.index (big_bytes 2 put.count ++ put.bytes) fits

  count-read : put.count < 2 ^ 16 → read.count ≡ put.count
  count-read fits = x.count ∙ ap (λ (c : List ℕ). big_number 2 (drop 10 c)) e ∙ big_number-reads_back 2 put.count put.bytes fits

  bytes-read : read.bytes ≡ put.bytes
  bytes-read = x.bytes ∙ ap (drop 12) e

-- ---- a frame that is opened, by what it carries

module _ (key boot : List ℕ) (node : ℕ) (WasSent : List ℕ → Type 0) (frame : List ℕ) (h : Head) (part : List ℕ) (l : length boot ≡ 16) (o : Opens key node frame h part) where
  -- of a frame that carries whole packets
  pub record ReadsWhole : Type 0 where
    pub kind : h.kind ≢ Piece
    pub packed : ArePacked WasSent part

  pub whole-reads : CarriesWhole key boot WasSent frame → ReadsWhole
  whole-reads w =
      let b = o.sealed_is in
      let body : b.body ≡ head_bytes w.head ++ w.content = sealed_once key b.body (head_bytes w.head ++ w.content) (sym b.seal ∙ w.frame_is) in
      let kind : h.kind ≡ w.head.kind = kind-read b.body w.head h w.content body b.head in
      let to : h.to ≡ w.head.to = to-read b.body w.head h w.content body b.head w.to_fits in
      let content : o.content ≡ w.content = b.content_is ∙ content-read b.body w.head h w.content body b.head (ap length w.boot_is ∙ l) in
      record {
        kind = λ e. w.kind (sym kind ∙ e);
        packed =
            w.parts node part
            (subst (λ (k : Kind). IsPart k node w.head.to w.content part) kind
            (subst (λ (t : ℕ). IsPart h.kind node t w.content part) to (subst (λ (c : List ℕ). IsPart h.kind node h.to c part) content o.part_is)));
      }

  pub piece-kind : (long : ℕ → ℕ → List ℕ) → CarriesPiece key boot long WasSent frame → h.kind ≡ Piece
  piece-kind long w =
      let b = o.sealed_is in
      let put = piece_at w.number w.index (long w.head.to w.number) in
      let body : b.body ≡ head_bytes w.head ++ piece_bytes put = sealed_once key b.body (head_bytes w.head ++ piece_bytes put) (sym b.seal ∙ w.frame_is) in
      kind-read b.body w.head h (piece_bytes put) body b.head ∙ w.kind

  -- of a frame that carries a piece
  pub record ReadsPiece (long : ℕ → ℕ → List ℕ) (read : PieceModel) : Type 0 where
    pub kind : h.kind ≡ Piece
    pub boot_is : h.boot ≡ boot
    pub count : read.count ≡ count_of (long node read.number)
    pub bytes : read.bytes ≡ take 1344 (drop (1344 * read.index) (long node read.number))
    pub sent : WasSent (long node read.number)

  pub piece-reads : (long : ℕ → ℕ → List ℕ) (w : CarriesPiece key boot long WasSent frame) (read : PieceModel) → IsPieceIn part read → ReadsPiece long read
  piece-reads long w read x =
      let b = o.sealed_is in
      let put = piece_at w.number w.index (long w.head.to w.number) in
      let body : b.body ≡ head_bytes w.head ++ piece_bytes put = sealed_once key b.body (head_bytes w.head ++ piece_bytes put) (sym b.seal ∙ w.frame_is) in
      let kind : h.kind ≡ Piece = kind-read b.body w.head h (piece_bytes put) body b.head ∙ w.kind in
      let mine : IsPart Piece node h.to o.content part = subst (λ (k : Kind). IsPart k node h.to o.content part) kind o.part_is in
      let inside : part ≡ piece_bytes put = mine.0 ∙ b.content_is ∙ content-read b.body w.head h (piece_bytes put) body b.head (ap length w.boot_is ∙ l) in
      let to : w.head.to ≡ node = sym (to-read b.body w.head h (piece_bytes put) body b.head w.to_fits) ∙ mine.1 in
      let number : read.number ≡ w.number = number-read part put read inside x w.number_fits in
      let index : read.index ≡ w.index = index-read part put read inside x w.index_fits in
      let packet : long w.head.to w.number ≡ long node read.number = ap (λ (n : ℕ). long n w.number) to ∙ ap (long node) (sym number) in
      record {
        kind = kind;
        boot_is = boot-read b.body w.head h (piece_bytes put) body b.head (ap length w.boot_is ∙ l) ∙ w.boot_is;
        count = count-read part put read inside x w.count_fits ∙ ap count_of packet;
        bytes =
            bytes-read part put read inside x ∙ ap (λ (i : ℕ). take 1344 (drop (1344 * i) (long w.head.to w.number))) (sym index)
            ∙ ap (λ (p : List ℕ). take 1344 (drop (1344 * read.index) p)) packet;
        sent = subst WasSent packet w.sent;
      }

-- ---- pieces of one packet

-- each piece that is there is the packet's of its index
abbrev pub AreCut : List ℕ → ℕ → List (Option (List ℕ)) → Type 0
AreCut packet index [] = Unit {0}
AreCut packet index (None ∷ pieces) = AreCut packet (suc index) pieces
AreCut packet index (Some bytes ∷ pieces) = (bytes ≡ take 1344 (drop (1344 * index) packet)) × AreCut packet (suc index) pieces

joined-from : (packet : List ℕ) (index : ℕ) (pieces : List (Option (List ℕ))) → AreCut packet index pieces → is_whole pieces ≡ true
    → joined pieces ≡ take (1344 * length pieces) (drop (1344 * index) packet)
joined-from packet index [] x w = refl
joined-from packet index (None ∷ pieces) x w = absurd (let bad : false ≡ true = w in cc)
joined-from packet index (Some bytes ∷ pieces) x w =
    let left : List ℕ = drop (1344 * index) packet in
    let n : ℕ = length pieces in
    let rest : joined pieces ≡ take (1344 * n) (drop (1344 * suc index) packet) = joined-from packet (suc index) pieces x.1 w in
    let one_on : 1344 * suc index ≡ 1344 * index + 1344 = omega arith in
    let all : 1344 + 1344 * n ≡ 1344 * suc n = omega arith in
    let shift : drop (1344 * suc index) packet ≡ drop 1344 left = ap (λ (m : ℕ). drop m packet) one_on ∙ sym (drop-drop 1344 (1344 * index) packet) in
    ap (λ (b : List ℕ). b ++ joined pieces) x.0 ∙ ap (λ (r : List ℕ). take 1344 left ++ r) (rest ∙ ap (take (1344 * n)) shift) ∙ sym (take-add 1344 (1344 * n) left)
    ∙ ap (λ (m : ℕ). take m left) all

-- and all of them, joined, are the packet
pub pieces-join : (packet : List ℕ) (pieces : List (Option (List ℕ))) → AreCut packet 0 pieces → is_whole pieces ≡ true → length pieces ≡ count_of packet → joined pieces ≡ packet
pieces-join packet pieces x w n = joined-from packet 0 pieces x w ∙ take_all (1344 * length pieces) packet (omega (arith, n))
