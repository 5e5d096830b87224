-- What a frame carries, as who seals it knows.
use Rattle.std.specs.Prelude.{◌≡◌, ◌≢◌, ◌<◌, ℕ, zero, suc, ◌+◌, ◌*◌, ◌/◌, ◌^◌, List, ◌++◌, ◌⊎◌, length, take, drop, min}
use Rattle.std.specs.List.{AllByRecursion}
use Rattle.udp_net.specs.Logs.{Log, offering}
use Rattle.frames.specs.declared.head.Head.{Head}
use Rattle.frames.specs.declared.outlet.Seal.{Seal}
use Rattle.frames.specs.declared.head.Kind.TheVariants.{Piece}
use Rattle.frames.specs.Frames.{head_bytes, packed, sealed, IsShort}
use Rattle.frames.specs.Partials.{PieceModel, piece_bytes}
use Rattle.frames.specs.Parts.{IsPart}

-- packets, each of which was sent
pub record ArePacked (WasSent : List ℕ → Type 0) (content : List ℕ) : Type 0 where
  pub packets : List (List ℕ)
  pub content_is : content ≡ packed packets
  pub short : AllByRecursion IsShort packets
  pub sent : AllByRecursion WasSent packets

-- whole packets, for one node or for several: whatever node opens it, what is for that one are packets that were sent
pub record CarriesWhole (key boot : List ℕ) (WasSent : List ℕ → Type 0) (frame : List ℕ) : Type 0 where
  pub head : Head
  pub content : List ℕ
  pub frame_is : frame ≡ sealed key (head_bytes head ++ content)
  pub kind : head.kind ≢ Piece
  pub boot_is : head.boot ≡ boot
  pub to_fits : head.to < 2 ^ 16
  pub parts : (node : ℕ) (part : List ℕ) → IsPart head.kind node head.to content part → ArePacked WasSent part

-- how many pieces a long packet has, and the one of an index
abbrev pub count_of : List ℕ → ℕ
count_of packet = (length packet + 1343) / 1344

abbrev pub piece_at : ℕ → ℕ → List ℕ → PieceModel
piece_at number index packet = record { number = number; index = index; count = count_of packet; bytes = take 1344 (drop (1344 * index) packet) }

-- a piece of a long packet that was sent: by its node and its number it is known which one that is
pub record CarriesPiece (key boot : List ℕ) (long : ℕ → ℕ → List ℕ) (WasSent : List ℕ → Type 0) (frame : List ℕ) : Type 0 where
  pub head : Head
  pub number : ℕ
  pub index : ℕ
  pub frame_is : frame ≡ sealed key (head_bytes head ++ piece_bytes (piece_at number index (long head.to number)))
  pub kind : head.kind ≡ Piece
  pub boot_is : head.boot ≡ boot
  pub to_fits : head.to < 2 ^ 16
  pub number_fits : number < 2 ^ 64
  pub index_fits : index < 2 ^ 16
  pub count_fits : count_of (long head.to number) < 2 ^ 16
  pub sent : WasSent (long head.to number)

abbrev pub Carries : List ℕ → List ℕ → (ℕ → ℕ → List ℕ) → (List ℕ → Type 0) → List ℕ → Type 0
Carries key boot long WasSent frame = CarriesWhole key boot WasSent frame ⊎ CarriesPiece key boot long WasSent frame

-- ---- the frames of a long packet

-- the one of a piece, which is so many frames after the first one of its start to this node
abbrev pub piece_frame : Seal → ℕ → ℕ → PieceModel → List ℕ
piece_frame s node counter piece = sealed s.key (head_bytes (record { kind = Piece; to = node; boot = s.boot; counter = counter }) ++ piece_bytes piece)

-- a node is offered so many pieces of a packet, from an index on, one after another and each once
abbrev pub offering_pieces : Seal → ℕ → ℕ → ℕ → ℕ → ℕ → List ℕ → Log → Log
offering_pieces s node counter number index zero packet l = l
offering_pieces s node counter number index (suc left) packet l =
    offering_pieces s node (min (counter + 1) 18446744073709551615) number (suc index) left packet (offering node (piece_frame s node counter (piece_at number index packet)) l)

-- and all of them
abbrev pub offering_long : Seal → ℕ → ℕ → ℕ → List ℕ → Log → Log
offering_long s node counter number packet l = offering_pieces s node counter number 0 (count_of packet) packet l
