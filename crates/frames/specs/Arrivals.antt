-- What came in frames: packets that stand whole in one, and packets whose pieces stand in several.
use Rattle.std.specs.Prelude.{◌≡◌, ◌≢◌, ⊤, ℕ, suc, Bool, true, ◌&&◌, List, [], ◌∷◌, ◌++◌, ◌⊎◌, length, slice_get, Option, None, Some, is_some, IfSome}
use Rattle.std.specs.List.{AllByRecursion}
use Rattle.udp_net.specs.declared.net.Received.TheVariants as received
use Rattle.udp_net.specs.Logs.{Log, Answered}
use Rattle.frames.specs.declared.head.Head.{Head}
use Rattle.frames.specs.declared.head.Kind.TheVariants.{Piece}
use Rattle.frames.specs.Frames.{Opens, packed, IsShort}
use Rattle.frames.specs.Partials.{IsPieceIn}

-- a net gave a frame, by its list
abbrev pub GivenIn : Log → List ℕ → Type 0
GivenIn l frame = (k : ℕ) × (slice_get l k ≡ Some (Answered (received.Datagram frame)))

-- it stands in a list
abbrev pub StandsIn : List (List ℕ) → List ℕ → Type 0
StandsIn packets packet = (k : ℕ) × (slice_get packets k ≡ Some packet)

-- a packet stands whole in a frame that was given, among others
pub record ArrivedWhole (Given : List ℕ → Type 0) (key : List ℕ) (node : ℕ) (packet : List ℕ) : Type 0 where
  pub frame : List ℕ
  pub head : Head
  pub content : List ℕ
  pub packets : List (List ℕ)
  pub given : Given frame
  pub opens : Opens key node frame head content
  pub kind : head.kind ≢ Piece
  pub short : AllByRecursion IsShort packets
  pub packed_is : content ≡ packed packets
  pub among : StandsIn packets packet

-- a piece of the packet of a number of a start, which has so many pieces, stands in a frame that was given
pub record ArrivedPiece (Given : List ℕ → Type 0) (key : List ℕ) (node : ℕ) (boot : List ℕ) (number count index : ℕ) (bytes : List ℕ) : Type 0 where
  pub frame : List ℕ
  pub head : Head
  pub content : List ℕ
  pub given : Given frame
  pub opens : Opens key node frame head content
  pub kind : head.kind ≡ Piece
  pub boot_is : head.boot ≡ boot
  pub piece : IsPieceIn content (record { number = number; index = index; count = count; bytes = bytes })

-- all pieces are there
abbrev pub is_whole : List (Option (List ℕ)) → Bool
is_whole [] = true
is_whole (p ∷ pieces) = is_some p && is_whole pieces

-- those that are there, joined
abbrev pub joined : List (Option (List ℕ)) → List ℕ
joined [] = []
joined (None ∷ pieces) = joined pieces
joined (Some bytes ∷ pieces) = bytes ++ joined pieces

-- each piece that is there came, from an index on
abbrev pub PiecesCame : (List ℕ → Type 0) → List ℕ → ℕ → List ℕ → ℕ → ℕ → ℕ → List (Option (List ℕ)) → Type 0
PiecesCame Given key node boot number count index [] = ⊤
PiecesCame Given key node boot number count index (p ∷ pieces) =
    IfSome p (ArrivedPiece Given key node boot number count index) × PiecesCame Given key node boot number count (suc index) pieces

-- a packet came in pieces: it is all of them, joined
pub record ArrivedInPieces (Given : List ℕ → Type 0) (key : List ℕ) (node : ℕ) (packet : List ℕ) : Type 0 where
  pub boot : List ℕ
  pub number : ℕ
  pub pieces : List (Option (List ℕ))
  pub came : PiecesCame Given key node boot number (length pieces) 0 pieces
  pub whole : is_whole pieces ≡ true
  pub joined_is : packet ≡ joined pieces

-- a packet came, in frames of somebody who has the key, for a node
abbrev pub Arrived : (List ℕ → Type 0) → List ℕ → ℕ → List ℕ → Type 0
Arrived Given key node packet = ArrivedWhole Given key node packet ⊎ ArrivedInPieces Given key node packet
