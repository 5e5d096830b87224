-- A long packet, in pieces.
use Rattle.std.specs.Prelude.{◌≡◌, ◌≤◌, ℕ, List, ◌++◌, length, drop}
use Rattle.byteorder.specs.Endian.{big_bytes, big_number}

-- a piece: the number of its packet, which one of how many it is, its bytes
pub record PieceModel : Type 0 where
  pub number : ℕ
  pub index : ℕ
  pub count : ℕ
  pub bytes : List ℕ

-- a piece as the content of a frame
abbrev pub piece_bytes : PieceModel → List ℕ
piece_bytes p = big_bytes 8 p.number ++ big_bytes 2 p.index ++ big_bytes 2 p.count ++ p.bytes

-- a content that is a piece
pub record IsPieceIn (content : List ℕ) (p : PieceModel) : Type 0 where
  pub long : 12 ≤ length content
  pub number : p.number ≡ big_number 8 content
  pub index : p.index ≡ big_number 2 (drop 8 content)
  pub count : p.count ≡ big_number 2 (drop 10 content)
  pub bytes : p.bytes ≡ drop 12 content
